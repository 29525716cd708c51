-- The lent working area, read as rows of cells, a row for each state and a cell for each name. A cell is two bytes, the high one
-- first; the high byte of the cell in a row and a column stands at offset 128 * row + 2 * column. In order: a cell's value, the
-- area with one cell written, and what reading a cell promises. Assumes nothing.
use Rattle.std.specs.Prelude.{◌≡◌, List, ℕ, ◌+◌, ◌*◌, ◌/◌, ◌%◌, ◌<◌, get_or, set}
use Rattle.base.specs.Limits.{number_limit}

-- the value of the cell in a row and a column
unfoldable pub cell_at : List ℕ → ℕ → ℕ → ℕ
cell_at work row column = 256 * get_or work (128 * row + 2 * column) 0 + get_or work (128 * row + 2 * column + 1) 0

-- the area after a value is written into the cell in a row and a column: area, row, column, value
unfoldable pub with_cell : List ℕ → ℕ → ℕ → ℕ → List ℕ
with_cell work row column value = set (set work (128 * row + 2 * column) (value / 256)) (128 * row + 2 * column + 1) (value % 256)

-- what reading a cell promises of its answer
pub record IsCell (work : List ℕ) (row column answer : ℕ) : Type 0 where
  pub value : answer ≡ cell_at work row column
  pub small : answer < number_limit
