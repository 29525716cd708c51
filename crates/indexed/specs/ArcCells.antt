-- The arcs out of one group as a program keeps them: a set of names, and a row of the working area. Assumes nothing.
use Rattle.std.specs.Prelude.{◌≡◌, ℕ, ◌<◌}
use mathlib.Core.List.{List, Memᴰ as In}
use Rattle.base.specs.Limits.{name_limit}
use Rattle.base.specs.Cells.{cell_at}
use Rattle.model.specs.Tables.{Arc, name_set, Ascending}

-- the arcs out of a group, by ascending name: the set has their names, and the cells of the group's row their targets, which are below n
pub record ArcsAt (n : ℕ) (work : List ℕ) (row set : ℕ) (arcs : List Arc) : Type 0 where
  pub from : ℕ
  pub ascending : Ascending from arcs
  pub names_low : (a : Arc) → In a arcs → a.name < name_limit
  pub set_is : set ≡ name_set arcs
  pub in_cells : (a : Arc) → In a arcs → cell_at work row a.name ≡ a.to
  pub targets_low : (a : Arc) → In a arcs → a.to < n
