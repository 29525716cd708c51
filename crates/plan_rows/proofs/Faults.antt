-- What refuses rows, by how many they are and by whether each is within its limit. Assumes nothing.
use mathlib.Core.Path.{◌≡◌, refl}
use mathlib.Core.Bool.{Bool, true, false, not, and-eq-true_iff}
use mathlib.Core.List.{List, ◌∷◌}
use Prim.Native.Nat.{ℕ, ◌≤◌, ◌<◌}
use native.Mathlib.Omega.{arith}
use lib.Dec.{ltb, leb}
use lib.ListN.{length}
use borrow.Author.Tests.{ltb-false, leb-true, lt-ltb, le-ltb, le-leb, lt-leb}
use Rattle.base.specs.Limits.{book_rows, row_limit, too_many, bad_row, output_too_short, when, first_of}
use Rattle.base.specs.Lists.{all}
use Rattle.model.specs.Calls.{Refuses}
use Rattle.model.proofs.LowNumbers.{when-low, first_low}
use Rattle.written_plans.specs.Reading.{rows_short, rows_fault}

pub short_next : (row : List ℕ) (rows : List (List ℕ)) → length row ≤ row_limit → rows_short (row ∷ rows) ≡ rows_short rows
unfolding rows_short all
short_next row rows h = rw (le-leb (length row) row_limit h)

pub short_not : (row : List ℕ) (rows : List (List ℕ)) → row_limit < length row → rows_short (row ∷ rows) ≡ false
unfolding rows_short all
short_not row rows h = rw (lt-leb (length row) row_limit h)

pub short_first : (row : List ℕ) (rows : List (List ℕ)) → rows_short (row ∷ rows) ≡ true → length row ≤ row_limit
unfolding rows_short all
short_first row rows e =
    leb-true (length row) row_limit ((and-eq-true_iff (leb (length row) row_limit) (rows_short rows)).0 e).0

-- the refusals
pub rows_too_many : (rows : List (List ℕ)) → book_rows < length rows → Refuses (rows_fault rows) too_many
unfolding rows_fault
rows_too_many rows h = record { is = rw (lt-ltb book_rows (length rows) h); some = omega arith }

pub row_too_long : (rows : List (List ℕ)) → length rows ≤ book_rows → rows_short rows ≡ false → Refuses (rows_fault rows) bad_row
unfolding rows_fault
row_too_long rows h e = record { is = rw (le-ltb book_rows (length rows) h, e); some = omega arith }

pub rows_pass : (rows : List (List ℕ)) → length rows ≤ book_rows → rows_short rows ≡ true → rows_fault rows ≡ 0
unfolding rows_fault
rows_pass rows h e = rw (le-ltb book_rows (length rows) h, e)

-- rows that nothing refuses are within both limits
passed : (many short : Bool) → first_of (when many too_many) (when (not short) bad_row) ≡ 0 → (many ≡ false) × (short ≡ true)
passed true short e = let z : ⊥ = omega arith in absurd z
passed false true e = (refl, refl)
passed false false e = let z : ⊥ = omega arith in absurd z

pub rows_passed : (rows : List (List ℕ)) → rows_fault rows ≡ 0 → (length rows ≤ book_rows) × (rows_short rows ≡ true)
unfolding rows_fault
rows_passed rows e =
    let r = passed (ltb book_rows (length rows)) (rows_short rows) e in
    (ltb-false book_rows (length rows) r.0, r.1)

-- their numbers are below 13
pub rows_low : (rows : List (List ℕ)) → rows_fault rows < output_too_short
unfolding rows_fault
rows_low rows =
    first_low (when (ltb book_rows (length rows)) too_many) _ (when-low (ltb book_rows (length rows)) too_many (omega arith))
    (when-low (not (rows_short rows)) bad_row (omega arith))
