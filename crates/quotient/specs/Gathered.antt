-- The arcs of a partition's automaton, gathered from the tree's arrays: what the rows of the working area and the sets of names hold of the
-- arcs out of the groups. Assumes nothing.
use Rattle.std.specs.Prelude.{List, ℕ, ◌<◌, ◌≤◌, length, get_or}
use Rattle.base.specs.Limits.{state_limit, work_bytes}
use Rattle.model.specs.Classes.{Word}
use Rattle.model.specs.Joinings.{tree_of, transitions_of, Deterministic}
use Rattle.model.specs.Quotients.{arcs_out_of}
use Rattle.indexed.specs.Partitions.{Labelled}
use Rattle.indexed.specs.ArcCells.{ArcsAt}

-- the arcs out of every group of a partition of the rows' tree
pub record Gathered (rows : List Word) (groups work next : List ℕ) : Type 0 where
  pub few : length (tree_of rows) ≤ state_limit
  pub labels : Labelled (length (tree_of rows)) groups
  pub deterministic : Deterministic (transitions_of (tree_of rows) groups)
  pub work_size : work_bytes ≤ length work
  pub next_size : length (tree_of rows) ≤ length next
  pub arcs_at :
      (g : ℕ) → g < length (tree_of rows) →
      ArcsAt (length (tree_of rows)) work g (get_or next g 0) (arcs_out_of g (transitions_of (tree_of rows) groups))
