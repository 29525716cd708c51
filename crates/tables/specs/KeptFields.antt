-- Where each state's field stands, as the lent area keeps it: the offsets fill the first eight rows of its cells, 64 in a row, one after
-- another. Assumes nothing.
use Rattle.std.specs.Prelude.{◌≡◌, List, ℕ, ◌/◌, ◌%◌, ◌<◌}
use Rattle.base.specs.Limits.{number_limit}
use Rattle.base.specs.Cells.{cell_at, with_cell}

-- the offset kept for state i
unfoldable pub field_at : List ℕ → ℕ → ℕ
field_at work i = cell_at work (i / 64) (i % 64)

-- the area after an offset is kept for state i: area, state, offset
unfoldable pub with_field : List ℕ → ℕ → ℕ → List ℕ
with_field work i value = with_cell work (i / 64) (i % 64) value

-- what reading a kept offset promises of its answer
pub record IsField (work : List ℕ) (i answer : ℕ) : Type 0 where
  pub value : answer ≡ field_at work i
  pub small : answer < number_limit
