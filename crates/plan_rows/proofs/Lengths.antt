-- How many bytes the fields of rows have: three and its entries each, so that what a book may have takes at most
-- `rows_bytes`. Assumes nothing.
use mathlib.Core.Path.{◌≡◌, refl, sym, ◌∙◌}
use mathlib.Core.Bool.{true}
use mathlib.Core.List.{List, [], ◌∷◌, ◌++◌, flat_map}
use Prim.Native.Nat.{ℕ, ◌+◌, ◌*◌, ◌≤◌}
use native.Mathlib.Omega.{arith}
use lib.ListN.{length, length-append}
use Rattle.base.specs.Limits.{row_mark, row_limit, rows_bytes}
use Rattle.model.specs.Tables.{field_bytes, row_fields}
use Rattle.written_plans.specs.Reading.{rows_fault, rows_short}
use Rattle.plan_rows.proofs.Faults.{short_first, short_next, rows_passed}

-- a row's field stands before those of the rows after it
pub row_fields-next : (row : List ℕ) (rows : List (List ℕ)) → row_fields (row ∷ rows) ≡ field_bytes row_mark row ++ row_fields rows
unfolding row_fields flat_map
row_fields-next row rows = refl

pub row_fields-none : row_fields [] ≡ []
unfolding row_fields flat_map
row_fields-none = refl

pub row_field_length : (row : List ℕ) → length (field_bytes row_mark row) ≡ 3 + length row
unfolding field_bytes
row_field_length row = omega arith

pub row_fields-length :
    (row : List ℕ) (rows : List (List ℕ)) → length (row_fields (row ∷ rows)) ≡ 3 + length row + length (row_fields rows)
row_fields-length row rows =
    rw (row_fields-next row rows) (omega (arith, length-append (field_bytes row_mark row) (row_fields rows), row_field_length row))

-- the fields of rows within their limit
short_rows-length : (rows : List (List ℕ)) → rows_short rows ≡ true → length (row_fields rows) ≤ (3 + row_limit) * length rows
short_rows-length [] e = rw row_fields-none (omega arith)
short_rows-length (row ∷ rows) e =
    let low = short_first row rows e in
    omega (arith, row_fields-length row rows, short_rows-length rows (sym (short_next row rows low) ∙ e))

-- the fields of rows that nothing refuses
pub rows_length : (rows : List (List ℕ)) → rows_fault rows ≡ 0 → length (row_fields rows) ≤ rows_bytes
rows_length rows e =
    let ok = rows_passed rows e in
    omega (arith, ok.0, short_rows-length rows ok.1)
