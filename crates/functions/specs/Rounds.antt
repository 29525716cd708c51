-- What joining until closed, from the partition by ends on, needs and promises. Assumes nothing.
use Rattle.std.specs.Prelude.{◌≡◌, List, ℕ, length}
use Rattle.base.specs.Lists.{numbers_from}
use Rattle.indexed.specs.Trees.{Arrays}
use Rattle.indexed.specs.Passes.{ByEnds}
use Rattle.worklist.specs.Settling.{RoundClosed, JoinedUntil}

-- the tree's arrays, how many rows end in each state, a value for each, and two sets of keys
pub record FinishReady (n : ℕ) (parents names ends values keys more : List ℕ) : Type 0 where
  pub arrays : Arrays n parents names
  pub ends_size : length ends ≡ n
  pub values_size : length values ≡ n
  pub keys_size : length keys ≡ n
  pub more_size : length more ≡ n

-- from the partition by ends on joined until closed, with the states' own numbers
pub record Finished (n : ℕ) (parents names ends values keys more groups : List ℕ) : Type 0 where
  pub start : List ℕ
  pub by_ends : ByEnds n ends values start
  pub until : JoinedUntil (RoundClosed n parents names (numbers_from n 0) keys more) n start groups
