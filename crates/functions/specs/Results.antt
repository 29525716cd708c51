-- What the joinings by the rule of f promise: some list of values of f, and the partition joined by it until none
-- applies. Assumes nothing.
use Rattle.std.specs.Prelude.{List, ℕ}
use Rattle.indexed.specs.Passes.{SuffixAlike, SeenSets, FJoined}

-- f is the last j names
pub record JoinedByLast (n j : ℕ) (parents names ends groups : List ℕ) : Type 0 where
  pub codes : List ℕ
  pub by_codes : SuffixAlike n j parents names codes
  pub joined : FJoined n parents names ends codes groups

-- f is the set of names seen
pub record JoinedBySeen (n : ℕ) (parents names ends groups : List ℕ) : Type 0 where
  pub seen : List ℕ
  pub sets : SeenSets n parents names seen
  pub joined : FJoined n parents names ends seen groups
