-- Rows measured one after the other: none yet, one row more, a row too long, and all. Assumes nothing.
use mathlib.Core.Path.{◌≡◌, refl, sym, ap, ◌∙◌}
use mathlib.Core.List.{List, [], ◌∷◌}
use Prim.Native.Nat.{ℕ, ◌+◌, ◌≤◌, ◌<◌}
use native.Mathlib.Omega.{arith}
use lib.ListN.{length}
use Rattle.base.specs.Limits.{book_rows, row_limit, bad_row}
use Rattle.base.specs.Lists.{all}
use Rattle.model.specs.Calls.{Refuses}
use Rattle.model.specs.Tables.{row_fields}
use Rattle.written_plans.specs.Reading.{rows_fault, rows_short}
use Rattle.plan_rows.specs.LoggedRows.{MeasuredAs}
use Rattle.plan_rows.proofs.Faults.{short_next, short_not, row_too_long, rows_pass}
use Rattle.plan_rows.proofs.Lengths.{row_fields-none, row_fields-length}

-- of the rows those before the ones left are within their limit, and their fields have so many bytes
pub record MeasuredTo (rows left : List (List ℕ)) (bytes : ℕ) : Type 0 where
  pub short : rows_short left ≡ rows_short rows
  pub sized : bytes + length (row_fields left) ≡ length (row_fields rows)

pub passed_none : (rows : List (List ℕ)) → MeasuredTo rows rows 0
passed_none rows = record { short = refl; sized = omega arith }

module _ {rows : List (List ℕ)} {bytes : ℕ} where
  -- one row more, of n entries
  pub passed_more :
      {row : List ℕ} {left : List (List ℕ)} (n : ℕ) → n ≡ length row → n ≤ row_limit → MeasuredTo rows (row ∷ left) bytes →
      MeasuredTo rows left (bytes + (3 + n))
  passed_more {row} {left} n e h p =
      let within : length row ≤ row_limit = omega arith in
      record {
        short = sym (short_next row left within) ∙ p.short;
        sized = omega (arith, p.sized, row_fields-length row left);
      }

  -- a row too long
  pub passed_long :
      {row : List ℕ} {left : List (List ℕ)} (n : ℕ) → n ≡ length row → row_limit < n → MeasuredTo rows (row ∷ left) bytes →
      length rows ≤ book_rows → Refuses (rows_fault rows) bad_row
  passed_long {row} {left} n e h p few =
      let beyond : row_limit < length row = omega arith in
      row_too_long rows few (sym p.short ∙ short_not row left beyond)

  -- all rows
  pub passed_all : (count : ℕ) → count ≡ length rows → count ≤ book_rows → MeasuredTo rows [] bytes → MeasuredAs rows count bytes
  unfolding rows_short all
  passed_all count e h p =
      let few : length rows ≤ book_rows = omega arith in
      record {
        no_fault = rows_pass rows few (sym p.short);
        rows_are = e;
        bytes_are = omega (arith, p.sized, ap length row_fields-none);
      }
