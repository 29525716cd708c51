-- Fields by their offsets: what the code reads at an offset; offsets rise; a run of fields has its number of fields, and the i-th is
-- the one at the i-th offset; a run grows at its end. Assumes nothing.
use mathlib.Core.Path.{◌≡◌, refl, sym, ap, ◌∙◌, subst}
use mathlib.Core.List.{List, [], ◌∷◌, ◌++◌}
use Prim.Native.Nat.{ℕ, zero, suc, ◌+◌, ◌*◌, ◌-◌, ◌≤◌, ◌<◌}
use native.Mathlib.Omega.{arith}
use native.Mathlib.Numerals.{add-one}
use lib.ListN.{length, get_or, get_or-eq_default, take, drop, length-take, length-drop}
use lib.Seq.{get_or-drop, drop-drop}
use Rattle.judging.specs.Offsets.{length_at, body_at, next_at, offset_at, fields_at, name_at}

-- the stated length, as two bytes at their offsets
pub length_at_lem : (s : List ℕ) (a : ℕ) → length_at s a ≡ 256 * get_or s (a + 1) 0 + get_or s (a + 2) 0
unfolding length_at
length_at_lem s a = rw (get_or-drop a s 1 0, get_or-drop a s 2 0)

-- a body is the part of the input between its start and the next field
pub body_at_lem : (s : List ℕ) (a : ℕ) → body_at s a ≡ take (next_at s a - (a + 3)) (drop (a + 3) s)
unfolding length_at body_at
body_at_lem s a =
    let q : next_at s a - (a + 3) ≡ length_at s a = omega arith in
    rw (q, ← drop-drop 3 a s)

pub length-body : (s : List ℕ) (a : ℕ) → next_at s a ≤ length s → length (body_at s a) ≡ length_at s a
length-body s a h = rw (body_at_lem, length-take, length-drop) (omega arith)

pub offset_suc : (s : List ℕ) (a i : ℕ) → offset_at s a (suc i) ≡ next_at s (offset_at s a i)
unfolding offset_at
offset_suc s a zero = refl
offset_suc s a (suc i) = offset_suc s (next_at s a) i

pub offset_above : (s : List ℕ) (a i : ℕ) → a ≤ offset_at s a i
unfolding offset_at
offset_above s a zero = omega arith
offset_above s a (suc i) = omega (arith, offset_above s (next_at s a) i)

-- each of n fields ends where the last one ends, or before
pub field_within : (s : List ℕ) (a n i : ℕ) → i < n → next_at s (offset_at s a i) ≤ offset_at s a n
unfolding offset_at
field_within s a zero i h = let z : ⊥ = omega arith in absurd z
field_within s a (suc n) zero h = offset_above s (next_at s a) n
field_within s a (suc n) (suc i) h = field_within s (next_at s a) n i (omega arith)

pub length_fields : (s : List ℕ) (a n : ℕ) → length (fields_at s a n) ≡ n
unfolding fields_at
length_fields s a zero = refl
length_fields s a (suc n) = ap suc (length_fields s (next_at s a) n)

-- the i-th of n fields is the one at the i-th offset
pub field_at_lem : (s : List ℕ) (a n i : ℕ) → i < n → get_or (fields_at s a n) i [] ≡ body_at s (offset_at s a i)
unfolding fields_at offset_at
field_at_lem s a zero i h = let z : ⊥ = omega arith in absurd z
field_at_lem s a (suc n) zero h = refl
field_at_lem s a (suc n) (suc i) h = field_at_lem s (next_at s a) n i (omega arith)

pub fields_more : (s : List ℕ) (a n : ℕ) → fields_at s a (suc n) ≡ fields_at s a n ++ (body_at s (offset_at s a n) ∷ [])
unfolding fields_at offset_at
fields_more s a zero = refl
fields_more s a (suc n) = ap (λ (l : List (List ℕ)). body_at s a ∷ l) (fields_more s (next_at s a) n)

-- going through the names of a list to the n-th: a field at the offset reached lies within it, the next one is the next field's, and the
-- n-th is the name by its number, where there is one
pub turn_within :
    (list : List ℕ) (count at i : ℕ) → offset_at list 0 count ≤ length list → at ≡ offset_at list 0 i → i < count →
    next_at list at ≤ length list
turn_within list count at i room is low =
    subst (λ (a : ℕ). next_at list a ≤ length list) (sym is) (omega (arith, field_within list 0 count i low))

pub turn_next : (list : List ℕ) (at i : ℕ) → at ≡ offset_at list 0 i → next_at list at ≡ offset_at list 0 (i + 1)
turn_next list at i is = ap (next_at list) is ∙ sym (offset_suc list 0 i) ∙ ap (offset_at list 0) (sym (add-one i))

pub turn_found : (list : List ℕ) (count n at : ℕ) → at ≡ offset_at list 0 n → n < count → body_at list at ≡ name_at list count n
turn_found list count n at is low = ap (body_at list) is ∙ sym (field_at_lem list 0 count n low)

pub turn_none : (list : List ℕ) (count n : ℕ) → count ≤ n → [] ≡ name_at list count n
turn_none list count n few =
    sym (get_or-eq_default (fields_at list 0 count) [] (omega (arith, length_fields list 0 count)))

pub ruleset names_turned = (turn_within, turn_next, turn_found, turn_none)
