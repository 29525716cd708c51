-- The fields of rows written one after the other. Assumes nothing.
use mathlib.Core.Path.{◌≡◌, sym, ◌∙◌, subst}
use mathlib.Core.Bool.{true}
use mathlib.Core.List.{List, [], ◌∷◌, ◌++◌}
use Prim.Native.Nat.{ℕ, ◌≤◌}
use lib.ListN.{length}
use Rattle.base.specs.Limits.{row_limit, row_mark}
use Rattle.model.specs.Tables.{field_bytes, row_fields}
use Rattle.written_plans.specs.Reading.{rows_short, rows_fault}
use Rattle.writing.specs.Writing.{Fits, Put}
use Rattle.writing.proofs.TextLaws.{Writing, begins, room, goes, finishes}
use Rattle.plan_rows.proofs.Faults.{short_first, short_next, rows_passed}
use Rattle.plan_rows.proofs.Lengths.{row_fields-next, row_fields-none}

-- all rows but those left are written, each of which is within its limit
pub record Putting (out₀ : List ℕ) (all : List (List ℕ)) (out : List ℕ) (at : ℕ) (left : List (List ℕ)) : Type 0 where
  pub short : rows_short left ≡ true
  pub writing : Writing out₀ 0 (row_fields all) out at (row_fields left)

pub none_put : (out : List ℕ) (rows : List (List ℕ)) → rows_fault rows ≡ 0 → Fits out 0 (row_fields rows)
    → Putting out rows out 0 rows
none_put out rows fine fits = record { short = (rows_passed rows fine).1; writing = begins out 0 (row_fields rows) fits }

module _ {out₀ : List ℕ} {all : List (List ℕ)} {out : List ℕ} {at : ℕ} where
  module _ (row : List ℕ) (left : List (List ℕ)) (p : Putting out₀ all out at (row ∷ left)) where
    -- the next row's field
    its_field : Writing out₀ 0 (row_fields all) out at (field_bytes row_mark row ++ row_fields left)
    its_field = subst (Writing out₀ 0 (row_fields all) out at) (row_fields-next row left) p.writing

    -- the row is within its limit
    pub row_short : length row ≤ row_limit
    row_short = short_first row left p.short

    -- there is room for its field
    pub field_fits : Fits out at (field_bytes row_mark row)
    field_fits = room (field_bytes row_mark row) (row_fields left) its_field

    -- it is written
    pub row_put : (out' : List ℕ) (next : ℕ) → Put out out' at (field_bytes row_mark row) next → Putting out₀ all out' next left
    row_put out' next put =
        record {
          short = sym (short_next row left row_short) ∙ p.short;
          writing = goes (field_bytes row_mark row) (row_fields left) its_field put;
        }

  -- none is left
  pub rows_put : Putting out₀ all out at [] → Put out₀ out 0 (row_fields all) at
  rows_put p = finishes (subst (Writing out₀ 0 (row_fields all) out at) row_fields-none p.writing)
