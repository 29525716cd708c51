-- The entries of a log from number i on, and what they come to one entry later: the rows in them, where the entry has the chosen number
-- and where not, and the row of an element at a given depth, where the entry ends it, is in it, or stands deeper. Assumes nothing.
use mathlib.Core.Path.{◌≡◌, refl, sym, ap, ◌∙◌}
use mathlib.Core.Bool.{Bool, true, false, cond}
use mathlib.Core.List.{List, [], ◌∷◌}
use lib.Dec.{eqb, leb}
use lib.ListN.{length}
use Prim.Native.Nat.{ℕ, zero, suc, ◌+◌, ◌-◌, ◌≤◌, ◌<◌}
use native.Mathlib.Numerals.{add-one}
use native.Mathlib.Omega.{arith}
use borrow.Author.Tests.{le-leb, lt-leb, eq-eqb, ne_eqb}
use Rattle.written_plans.specs.Reading.{Entry, row_after, rows_in}
use Rattle.written_plans.specs.Logs.{entry_at, entries_at}
use Rattle.plan_rows.specs.LoggedRows.{entries_from, row_at}

-- all entries
pub entries_all : (log : List ℕ) (count : ℕ) → entries_from log count 0 ≡ entries_at log 0 count
unfolding entries_from
entries_all log count =
    let none-less : count - 0 ≡ count = omega arith in
    ap (entries_at log 0) none-less

module _ (log : List ℕ) (count i : ℕ) where
  -- the first of them, and those after it
  entries_next : i < count → entries_from log count i ≡ entry_at log i ∷ entries_from log count (i + 1)
  unfolding entries_from entries_at
  entries_next h =
      let one_more : count - i ≡ suc (count - (i + 1)) = omega arith in
      ap (entries_at log i) one_more ∙ ap (λ (j : ℕ). entry_at log i ∷ entries_at log j (count - (i + 1))) (rw add-one)

  -- none past the last
  entries_end : count ≤ i → entries_from log count i ≡ []
  unfolding entries_from entries_at
  entries_end h =
      let none_left : count - i ≡ 0 = omega arith in
      ap (entries_at log i) none_left

  -- ---- rows

  pub rows_chosen :
      (chosen : ℕ) → i < count → (entry_at log i).number ≡ chosen →
      rows_in chosen (entries_from log count i) ≡ row_at log count i ∷ rows_in chosen (entries_from log count (i + 1))
  unfolding rows_in row_at
  rows_chosen chosen h e = rw (entries_next h, rows_in, eq-eqb (entry_at log i).number chosen e)

  pub rows_other :
      (chosen : ℕ) → i < count → ((entry_at log i).number ≡ chosen → ⊥) →
      rows_in chosen (entries_from log count i) ≡ rows_in chosen (entries_from log count (i + 1))
  unfolding rows_in
  rows_other chosen h d = rw (entries_next h, rows_in, ne_eqb (entry_at log i).number chosen d)

  pub rows_end : (chosen : ℕ) → count ≤ i → rows_in chosen (entries_from log count i) ≡ []
  unfolding rows_in
  rows_end chosen h = ap (rows_in chosen) (entries_end h)

  -- ---- the row of an element at this depth

  pub row_from : (depth : ℕ) → depth ≡ (entry_at log i).depth → row_at log count i ≡ row_after depth (entries_from log count (i + 1))
  unfolding row_at
  row_from depth e = ap (λ (d : ℕ). row_after d (entries_from log count (i + 1))) (sym e)

  pub row_stops : (depth : ℕ) → i < count → (entry_at log i).depth ≤ depth → row_after depth (entries_from log count i) ≡ []
  unfolding row_after
  row_stops depth h g = rw (entries_next h, row_after, le-leb (entry_at log i).depth depth g)

  pub row_takes :
      (depth : ℕ) → i < count → (entry_at log i).depth ≡ depth + 1 →
      row_after depth (entries_from log count i) ≡ (entry_at log i).number ∷ row_after depth (entries_from log count (i + 1))
  unfolding row_after
  row_takes depth h e =
      let deep = (entry_at log i).depth in
      let above : depth < deep = omega arith in
      let child : deep ≡ suc depth = omega arith in
      rw (entries_next h, row_after, lt-leb deep depth above, eq-eqb deep (suc depth) child)

  pub row_passes :
      (depth : ℕ) → i < count → depth < (entry_at log i).depth → ((entry_at log i).depth ≡ depth + 1 → ⊥) →
      row_after depth (entries_from log count i) ≡ row_after depth (entries_from log count (i + 1))
  unfolding row_after
  row_passes depth h g d =
      let deep = (entry_at log i).depth in
      rw (entries_next h, row_after, lt-leb deep depth g, ne_eqb deep (suc depth) (λ (e : deep ≡ suc depth). d (omega arith)))

  pub row_ends : (depth : ℕ) → count ≤ i → row_after depth (entries_from log count i) ≡ []
  unfolding row_after
  row_ends depth h = ap (row_after depth) (entries_end h)

-- ---- how many entries a row has

-- as many entries as are asked for
entries_count : (log : List ℕ) (i n : ℕ) → length (entries_at log i n) ≡ n
unfolding entries_at
entries_count log i zero = refl
entries_count log i (suc n) = ap suc (entries_count log (suc i) n)

-- no more than there are entries left
row_at_most : (depth : ℕ) (entries : List Entry) → length (row_after depth entries) ≤ length entries
unfolding row_after
row_at_most depth [] = omega arith
row_at_most depth (e ∷ entries) = few (leb e.depth depth) (eqb e.depth (suc depth)) (row_at_most depth entries)
  where
    few : (x y : Bool) → length (row_after depth entries) ≤ length entries
        → length (cond x [] (cond y (e.number ∷ row_after depth entries) (row_after depth entries))) ≤ suc (length entries)
    few true y h = omega arith
    few false true h = omega arith
    few false false h = omega arith

-- nor has the log more rows of a number
rows_at_most : (chosen : ℕ) (entries : List Entry) → length (rows_in chosen entries) ≤ length entries
unfolding rows_in
rows_at_most chosen [] = omega arith
rows_at_most chosen (e ∷ entries) = few (eqb e.number chosen) (rows_at_most chosen entries)
  where
    few : (x : Bool) → length (rows_in chosen entries) ≤ length entries
        → length (cond x (row_after e.depth entries ∷ rows_in chosen entries) (rows_in chosen entries)) ≤ suc (length entries)
    few true h = omega arith
    few false h = omega arith

pub row_few : (log : List ℕ) (count depth i : ℕ) → length (row_after depth (entries_from log count i)) ≤ count
unfolding entries_from
row_few log count depth i = omega (arith, row_at_most depth (entries_from log count i), entries_count log i (count - i))

pub rows_few : (log : List ℕ) (count chosen : ℕ) → length (rows_in chosen (entries_at log 0 count)) ≤ count
rows_few log count chosen = omega (arith, rows_at_most chosen (entries_at log 0 count), entries_count log 0 count)

-- the rows in the entries from one on, and the row of an element
pub ruleset rows_by_entry = (entries_all, rows_chosen, rows_other, rows_end)

pub ruleset row_by_entry = (row_stops, row_takes, row_passes, row_ends)
