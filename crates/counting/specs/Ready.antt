-- What a caller has when the counts of a partition's automaton are ready to be written; and what is left to write of one group's passes
-- and of one group's field. Assumes nothing.
use Rattle.std.specs.Prelude.{◌≡◌, ℕ, ◌<◌, ◌≤◌, length, get_or, take}
use mathlib.Core.List.{List, ◌++◌, flat_map}
use Rattle.base.specs.Limits.{count_mark}
use Rattle.model.specs.Classes.{Word}
use Rattle.model.specs.Tables.{Arc, name_set, two_bytes, field_bytes}
use Rattle.model.specs.Joinings.{tree_of, transitions_of, Deterministic}
use Rattle.model.specs.Quotients.{arcs_out_of, met_groups}
use Rattle.indexed.specs.ArcCells.{ArcsAt}
use Rattle.indexed.specs.Partitions.{Joined}
use Rattle.counts.specs.TreeCounts.{EndsSummed}
use Rattle.counting.specs.PassCells.{PassesAt}

-- each group's ends and names, the passes of its arcs, and the groups in the order of their numbers
pub record CountsReady
    (rows : List Word) (parents names groups work next sums met : List ℕ) (count : ℕ) : Type 0 where
  pub joined : Joined rows parents names groups
  pub deterministic : Deterministic (transitions_of (tree_of rows) groups)
  pub sets :
      (g : ℕ) → g < length (tree_of rows) → get_or next g 0 ≡ name_set (arcs_out_of g (transitions_of (tree_of rows) groups))
  pub next_size : length (tree_of rows) ≤ length next
  pub met_size : length (tree_of rows) ≤ length met
  pub summed : EndsSummed rows groups sums
  pub passes : PassesAt rows parents names groups work
  pub listed : take (length (met_groups (tree_of rows) groups)) met ≡ met_groups (tree_of rows) groups
  pub counted : count ≡ length (met_groups (tree_of rows) groups)

-- two bytes for each arc, of the number that it has for its target
unfoldable pub number_bytes : List Arc → List ℕ
number_bytes arcs = flat_map (λ (a : Arc). two_bytes a.to) arcs

-- these bytes are the passes of the arcs that a set and a row hold
pub record PassesToWrite (work : List ℕ) (row set : ℕ) (bytes : List ℕ) : Type 0 where
  pub size : ℕ
  pub arcs : List Arc
  pub at_row : ArcsAt size work row set arcs
  pub bytes_are : bytes ≡ number_bytes arcs

-- these bytes are the field of the state that a group becomes
pub record FieldToWrite (work : List ℕ) (row set ends : ℕ) (bytes : List ℕ) : Type 0 where
  pub rest : List ℕ
  pub passes : PassesToWrite work row set rest
  pub bytes_are : bytes ≡ field_bytes count_mark (two_bytes ends ++ rest)
