-- What it takes of states to be written as a table that is read back: few, with few arcs, names ascending below the number of
-- names, numbered first-met. Assumes nothing.
use mathlib.Core.Path.{◌≡◌}
use mathlib.Core.Bool.{true}
use mathlib.Core.List.{List, Memᴰ as In}
use Prim.Native.Nat.{ℕ, ◌≤◌, ◌<◌}
use lib.ListN.{length}
use Rattle.base.specs.Limits.{state_limit}
use Rattle.model.specs.Tables.{Arc, State, arc_count, is_first_met, Ascending}

-- states for n names that can be written and read back
pub record Writable (n : ℕ) (states : List State) : Type 0 where
  pub some_state : 1 ≤ length states
  pub few_states : length states ≤ state_limit
  pub few_arcs : arc_count states ≤ state_limit
  pub ascending : (s : State) → In s states → Ascending 0 s.arcs
  pub names_below : (s : State) (a : Arc) → In s states → In a s.arcs → a.name < n
  pub targets_below : (s : State) (a : Arc) → In s states → In a s.arcs → a.to < length states
  pub first_met : is_first_met states ≡ true
