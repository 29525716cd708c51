-- Laws of cells: writing a cell keeps the area's length; the cell just written reads as the value; a cell in another row or
-- another column reads as before. Assumes nothing.
use mathlib.Core.Path.{◌≡◌, ap₂, ◌∙◌}
use mathlib.Core.List.{List}
use Prim.Native.Nat.{ℕ, ◌+◌, ◌*◌, ◌/◌, ◌%◌, ◌<◌, ◌≤◌}
use native.Mathlib.Nat.{div-add-mod}
use native.Mathlib.Omega.{arith}
use lib.ListN.{length, get_or, set, length-set}
use lib.Seq.{get_or-set_same, get_or-set_other, lt-length-set}
use Rattle.base.specs.Limits.{name_limit, state_limit, work_bytes}
use Rattle.base.specs.Cells.{cell_at, with_cell}

pub length-with_cell : (work : List ℕ) (row column value : ℕ) → length (with_cell work row column value) ≡ length work
unfolding with_cell
length-with_cell work row column value = simp length-set

-- two bytes just written at a place and after it, read together
pair_same : (work : List ℕ) (at value : ℕ) → at + 1 < length work
    → 256 * get_or (set (set work at (value / 256)) (at + 1) (value % 256)) at 0
    + get_or (set (set work at (value / 256)) (at + 1) (value % 256)) (at + 1) 0
    ≡ value
pair_same work at value h =
    let first = set work at (value / 256) in
    let high : get_or (set first (at + 1) (value % 256)) at 0 ≡ value / 256 =
    get_or-set_other first (at + 1) at (value % 256) 0 (λ e. omega arith) ∙ get_or-set_same work at (value / 256) 0 (omega arith) in
    let low : get_or (set first (at + 1) (value % 256)) (at + 1) 0 ≡ value % 256 =
    get_or-set_same first (at + 1) (value % 256) 0 (lt-length-set work at (value / 256) h) in
    ap₂ (λ (a b : ℕ). 256 * a + b) high low ∙ div-add-mod value 256

-- a byte that stands at neither of the two places written keeps its value
byte_other : (work : List ℕ) (at k a b : ℕ) → (k ≡ at → ⊥) → (k ≡ at + 1 → ⊥)
    → get_or (set (set work at a) (at + 1) b) k 0 ≡ get_or work k 0
byte_other work at k a b h j = get_or-set_other (set work at a) (at + 1) k b 0 j ∙ get_or-set_other work at k a 0 h

-- the cell just written reads as the value
pub cell_same : (work : List ℕ) (row column value : ℕ) → row < state_limit → column < name_limit → work_bytes ≤ length work
    → cell_at (with_cell work row column value) row column ≡ value
unfolding cell_at with_cell
cell_same work row column value r c l = pair_same work (128 * row + 2 * column) value (omega arith)

-- two cells with one place have one row
row_of_place : (row column row' column' : ℕ) → column < name_limit → column' < name_limit
    → 128 * row' + 2 * column' ≡ 128 * row + 2 * column
    → row' ≡ row
row_of_place row column row' column' c c' e = omega arith

-- and one column
column_of_place : (row column row' column' : ℕ) → column < name_limit → column' < name_limit
    → 128 * row' + 2 * column' ≡ 128 * row + 2 * column
    → column' ≡ column
column_of_place row column row' column' c c' e = omega (arith, row_of_place row column row' column' c c' e)

-- a cell that is not in both the same row and the same column keeps its value
pub cell_other : (work : List ℕ) (row column value row' column' : ℕ) → column < name_limit → column' < name_limit
    → (row' ≡ row → column' ≡ column → ⊥)
    → cell_at (with_cell work row column value) row' column' ≡ cell_at work row' column'
unfolding cell_at with_cell
cell_other work row column value row' column' c c' h =
    let apart : 128 * row' + 2 * column' ≡ 128 * row + 2 * column → ⊥ =
    λ e. h (row_of_place row column row' column' c c' e) (column_of_place row column row' column' c c' e) in
    ap₂ (λ (a b : ℕ). 256 * a + b)
    (byte_other work (128 * row + 2 * column) (128 * row' + 2 * column') (value / 256) (value % 256) apart (λ e. omega arith))
    (byte_other work (128 * row + 2 * column) (128 * row' + 2 * column' + 1) (value / 256) (value % 256)
    (λ e. omega arith)
    (λ e. apart (omega arith)))
