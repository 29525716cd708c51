-- What a caller has when the automaton of a partition is ready to be written, and how many states and arcs it has; then what is left to
-- write of one group's arcs and of one group's state. Assumes nothing.
use Rattle.std.specs.Prelude.{◌≡◌, Bool, ℕ, ◌≤◌, length, get_or}
use mathlib.Core.List.{List, Memᴰ as In}
use Rattle.base.specs.Limits.{state_mark}
use Rattle.base.specs.Lists.{index_in}
use Rattle.model.specs.Classes.{Word}
use Rattle.model.specs.Tables.{Arc, state, arc_count, field_bytes, arc_bytes, state_body}
use Rattle.model.specs.Joinings.{tree_of}
use Rattle.model.specs.Quotients.{met_groups, renumbered, states_of}
use Rattle.counts.specs.TreeCounts.{EndsSummed}
use Rattle.indexed.specs.ArcCells.{ArcsAt}
use Rattle.quotient.specs.Gathered.{Gathered}
use Rattle.quotient.specs.Numbered.{MetAs}

-- arcs gathered, ends summed, groups numbered
pub record Ready (rows : List Word) (groups work next sums met numbers : List ℕ) (count : ℕ) : Type 0 where
  pub gathered : Gathered rows groups work next
  pub summed : EndsSummed rows groups sums
  pub numbered : MetAs (length (tree_of rows)) met numbers count (met_groups (tree_of rows) groups)

-- the groups numbered first-met, and how many arcs their states have
pub record NumberedStates (rows : List Word) (groups met numbers : List ℕ) (states arcs : ℕ) : Type 0 where
  pub numbered : MetAs (length (tree_of rows)) met numbers states (met_groups (tree_of rows) groups)
  pub arcs_are : arcs ≡ arc_count (states_of rows (tree_of rows) groups)

-- all ready, with the number of states and the number of their arcs
pub record Prepared
    (rows : List Word) (groups work next sums met numbers : List ℕ) (states arcs : ℕ) : Type 0 where
  pub ready : Ready rows groups work next sums met numbers states
  pub counted : states ≡ length (states_of rows (tree_of rows) groups)
  pub arcs_are : arcs ≡ arc_count (states_of rows (tree_of rows) groups)

-- these bytes are those of the arcs that a set and a row hold, their targets as numbers
pub record ArcsToWrite (work : List ℕ) (row set : ℕ) (numbers bytes : List ℕ) : Type 0 where
  pub size : ℕ
  pub every : List ℕ
  pub arcs : List Arc
  pub at_row : ArcsAt size work row set arcs
  pub numbers_size : size ≤ length numbers
  pub placed : (a : Arc) → In a arcs → get_or numbers a.to 0 ≡ index_in a.to every
  pub bytes_are : bytes ≡ arc_bytes (renumbered every arcs)

-- these bytes are the field of the state that a group becomes
pub record StateToWrite (work : List ℕ) (row set : ℕ) (accepts : Bool) (numbers bytes : List ℕ) : Type 0 where
  pub size : ℕ
  pub every : List ℕ
  pub arcs : List Arc
  pub at_row : ArcsAt size work row set arcs
  pub numbers_size : size ≤ length numbers
  pub placed : (a : Arc) → In a arcs → get_or numbers a.to 0 ≡ index_in a.to every
  pub bytes_are : bytes ≡ field_bytes state_mark (state_body (state accepts (renumbered every arcs)))
