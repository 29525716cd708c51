-- The passes of the arcs between groups, in the cells of the working area: what is asked of the rows, the cells at the start, and the
-- cells when all is summed. Assumes nothing.
use Rattle.std.specs.Prelude.{◌≡◌, ℕ, ◌<◌, ◌≤◌, length, get_or}
use mathlib.Core.List.{List, Memᴰ as In}
use Rattle.base.specs.Limits.{row_limit, work_bytes}
use Rattle.base.specs.Cells.{cell_at}
use Rattle.model.specs.Classes.{Word}
use Rattle.model.specs.Joinings.{tree_of}
use Rattle.counts.specs.TreeCounts.{arc_passes}

-- no row is longer than a row may be
pub record RowsShort (rows : List Word) : Type 0 where
  pub short : (row : Word) → In row rows → length row ≤ row_limit

-- the cells of the tree arcs into the states before n are 0
pub record CellsClear (n : ℕ) (parents names groups work : List ℕ) : Type 0 where
  pub work_size : work_bytes ≤ length work
  pub each : (v : ℕ) → 0 < v → v < n → cell_at work (get_or groups (get_or parents v 0) 0) (get_or names v 0) ≡ 0

-- the cell of each tree arc has the passes of the arc between groups that it becomes
pub record PassesAt (rows : List Word) (parents names groups work : List ℕ) : Type 0 where
  pub work_size : work_bytes ≤ length work
  pub each :
      (v : ℕ) → 0 < v → v < length (tree_of rows) →
      cell_at work (get_or groups (get_or parents v 0) 0) (get_or names v 0)
      ≡ arc_passes rows parents names groups (get_or groups (get_or parents v 0) 0) (get_or names v 0)
