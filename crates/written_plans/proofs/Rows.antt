-- The rows made from the numbers and depths of a plan's tags are its traces. Depth is the number of names around a tag. Assumes nothing.
use mathlib.Core.Path.{◌≡◌, refl, sym, ap, ◌∙◌}
use mathlib.Core.Bool.{Bool, true, false, cond}
use mathlib.Core.List.{List, [], ◌∷◌, ◌++◌, map, map-append, append_assoc, append-nil}
use Prim.Native.Nat.{ℕ, suc, ◌≤◌, ◌<◌}
use native.Mathlib.Omega.{arith}
use lib.ListN.{length}
use borrow.Author.Tests.{le-leb, lt-leb, eq-eqb, ne_eqb}
use Rattle.base.specs.Lists.{same}
use Rattle.model.specs.Fields.{name_number}
use Rattle.written_plans.specs.Written.{Content, nothing, text, empty, full, plan_tags, tags, end_tag, written, children, traces}
use Rattle.written_plans.specs.Reading.{Entry, entry_of, row_after, rows_in}
use Rattle.written_plans.specs.Claims.{NumberOnly, RowsAreTraces}

-- ---- a row, entry by entry

-- it ends before an entry that is not deeper
row_ends : (d : ℕ) (e : Entry) (entries : List Entry) → e.depth ≤ d → row_after d (e ∷ entries) ≡ []
unfolding row_after
row_ends d e entries h = rw (le-leb e.depth d h)

-- it takes the number of an entry that is one deeper
row_takes : (d : ℕ) (e : Entry) (entries : List Entry) → e.depth ≡ suc d → row_after d (e ∷ entries) ≡ e.number ∷ row_after d entries
unfolding row_after
row_takes d e entries h = rw (lt-leb e.depth d (omega arith), eq-eqb e.depth (suc d) h)

-- it leaves out an entry that is deeper still
row_passes : (d : ℕ) (e : Entry) (entries : List Entry) → suc d < e.depth → row_after d (e ∷ entries) ≡ row_after d entries
unfolding row_after
row_passes d e entries h =
    let apart : e.depth ≡ suc d → ⊥ = λ q. omega arith in
    rw (lt-leb e.depth d (omega arith), ne_eqb e.depth (suc d) apart)

-- rows of elements at this depth and below end before these entries
abbrev Ends : ℕ → List Entry → Type 0
Ends d entries = (k : ℕ) → d ≤ k → row_after k entries ≡ []

-- two parts of a list, element by element, and what is behind them
map-parts : {A B : Type 0} (f : A → B) (xs ys : List A) (zs : List B) → map f (xs ++ ys) ++ zs ≡ map f xs ++ (map f ys ++ zs)
map-parts f xs ys zs = rw (map-append f xs ys, append_assoc (map f xs) (map f ys) zs)

-- one element more or not, and what is behind the list
map_more : {A B : Type 0} (f : A → B) (more : Bool) (x : A) (xs : List A) (ys : List B)
    → cond more (f x ∷ (map f xs ++ ys)) (map f xs ++ ys) ≡ map f (cond more (x ∷ xs) xs) ++ ys
map_more f true x xs ys = refl
map_more f false x xs ys = refl

module _ (names : List (List ℕ)) where
  -- what is kept of the tags of what is written inside these elements, and the entries behind
  abbrev kept : List (List ℕ) → Content → List ℕ → List Entry → List Entry
  kept around c s entries = map (entry_of names) (tags around c s) ++ entries

  -- a row of an element further out than the parent has nothing of it
  row_over : (d : ℕ) (around : List (List ℕ)) (c : Content) (s : List ℕ) (entries : List Entry) → suc d < length around
      → row_after d (kept around c s entries) ≡ row_after d entries
  unfolding tags
  row_over d around nothing s entries h = refl
  row_over d around (text b p c) s entries h = row_over d around c s entries h
  row_over d around (empty n g c) s entries h = row_passes d _ _ h ∙ row_over d around c s entries h
  row_over d around (full n g inner e c) s entries h =
      let rest = end_tag n.bytes e.bytes (written c s) in
      row_passes d _ _ h
      ∙ ap (row_after d) (map-parts (entry_of names) (tags (n.bytes ∷ around) inner rest) (tags around c s) entries)
      ∙ row_over d (n.bytes ∷ around) inner rest (kept around c s entries) (omega arith)
      ∙ row_over d around c s entries h

  -- the row of the parent has the numbers of the children
  row_of_children : (d : ℕ) (around : List (List ℕ)) (c : Content) (s : List ℕ) (entries : List Entry) → length around ≡ suc d
      → row_after d (kept around c s entries) ≡ map (name_number names) (children c) ++ row_after d entries
  unfolding tags children
  row_of_children d around nothing s entries h = refl
  row_of_children d around (text b p c) s entries h = row_of_children d around c s entries h
  row_of_children d around (empty n g c) s entries h =
      row_takes d _ _ h ∙ ap (λ (r : List ℕ). name_number names n.bytes ∷ r) (row_of_children d around c s entries h)
  row_of_children d around (full n g inner e c) s entries h =
      let rest = end_tag n.bytes e.bytes (written c s) in
      row_takes d _ _ h
      ∙ ap (λ (r : List ℕ). name_number names n.bytes ∷ r)
      (ap (row_after d) (map-parts (entry_of names) (tags (n.bytes ∷ around) inner rest) (tags around c s) entries)
      ∙ row_over d (n.bytes ∷ around) inner rest (kept around c s entries) (omega arith)
      ∙ row_of_children d around c s entries h)

  -- rows that end before the entries behind, end before it as well
  ends-before : (around : List (List ℕ)) (c : Content) (s : List ℕ) (entries : List Entry) → Ends (length around) entries
      → Ends (length around) (kept around c s entries)
  unfolding tags
  ends-before around nothing s entries ends k h = ends k h
  ends-before around (text b p c) s entries ends k h = ends-before around c s entries ends k h
  ends-before around (empty n g c) s entries ends k h = row_ends k _ _ h
  ends-before around (full n g inner e c) s entries ends k h = row_ends k _ _ h

  module _ (number : ℕ) (chosen : List ℕ) (only : NumberOnly names number chosen) where
    -- one more trace and row, if this is the chosen name
    rows_more : (n : List ℕ) (e : Entry) (entries : List Entry) (trace : List (List ℕ)) (others : List (List (List ℕ)))
        (rows : List (List ℕ)) → e.number ≡ name_number names n → row_after e.depth entries ≡ map (name_number names) trace
        → rows_in number entries ≡ map (map (name_number names)) others ++ rows
        → rows_in number (e ∷ entries) ≡ map (map (name_number names)) (cond (same n chosen) (trace ∷ others) others) ++ rows
    unfolding rows_in
    rows_more n e entries trace others rows its-number its-row its-rows =
        rw (its-number, only n, its-row, its-rows) (map_more (map (name_number names)) (same n chosen) trace others rows)

    -- the rows are the traces, and the rows of the entries behind
    rows_of : (around : List (List ℕ)) (c : Content) (s : List ℕ) (entries : List Entry) → Ends (length around) entries
        → rows_in number (kept around c s entries) ≡ map (map (name_number names)) (traces chosen c) ++ rows_in number entries
    unfolding tags traces
    rows_of around nothing s entries ends = refl
    rows_of around (text b p c) s entries ends = rows_of around c s entries ends
    rows_of around (empty n g c) s entries ends =
        rows_more n.bytes _ _ [] (traces chosen c) _ refl (ends-before around c s entries ends (length around) (omega arith))
        (rows_of around c s entries ends)
    rows_of around (full n g inner e c) s entries ends =
        let d = length around in
        let rest = end_tag n.bytes e.bytes (written c s) in
        let behind = kept around c s entries in
        let behind-ends : Ends d behind = ends-before around c s entries ends in
        let parts = map-parts (entry_of names) (tags (n.bytes ∷ around) inner rest) (tags around c s) entries in
        rows_more n.bytes _ _ (children inner) (traces chosen inner ++ traces chosen c) _ refl
        (ap (row_after d) parts
        ∙ row_of_children d (n.bytes ∷ around) inner rest behind refl
        ∙ ap (λ (r : List ℕ). map (name_number names) (children inner) ++ r) (behind-ends d (omega arith))
        ∙ append-nil (map (name_number names) (children inner)))
        (ap (rows_in number) parts
        ∙ rows_of (n.bytes ∷ around) inner rest behind (λ k h. behind-ends k (omega arith))
        ∙ ap (λ (r : List (List ℕ)). map (map (name_number names)) (traces chosen inner) ++ r) (rows_of around c s entries ends)
        ∙ sym (map-parts (map (name_number names)) (traces chosen inner) (traces chosen c) (rows_in number entries)))

-- the rows of a plan are its traces
pub rows_are_traces : RowsAreTraces
unfolding row_after rows_in
rows_are_traces names number chosen only plan =
    ap (rows_in number) (sym (append-nil (map (entry_of names) (plan_tags plan))))
    ∙ rows_of names number chosen only [] plan.element plan.after.bytes [] (λ k h. refl)
    ∙ append-nil (map (map (name_number names)) (traces chosen plan.element))
