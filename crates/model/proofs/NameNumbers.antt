-- Names and their numbers: the number of a name, by its bytes, is that of the place where it stands; and where the names ascend, no two
-- have one number. Assumes nothing.
use mathlib.Core.Path.{◌≡◌, refl, sym, ap, ◌∙◌, subst}
use mathlib.Core.Logic.{◌⊎◌, inl, inr, ⊎_elim}
use mathlib.Core.Bool.{true}
use mathlib.Core.List.{List, [], ◌∷◌, Memᴰ as In}
use mathlib.Core.List.Memᴰ
use mathlib.Core.List.Memᴰ.{head as here}
use mathlib.Core.List.Memᴰ.{tail as there}
use Prim.Native.Nat.{ℕ, suc, ◌≤◌, ◌<◌}
use native.Mathlib.Omega.{arith}
use lib.Dec.{eqb, ltb}
use lib.ListN.{length, get_or}
use Rattle.base.specs.Lists.{same, before, has_row}
use Rattle.base.proofs.Tests.{decided, told-false, same_tests, tells_eqb, tells_ltb, tells_same, tells_has_row, le_or_lt}
use Rattle.base.proofs.Tests.{word_dec, before_self, before-trans}
use Rattle.base.proofs.Places.{nth_in}
use Rattle.model.specs.Fields.{Ascends, name_number}

-- the first has the number 0, others one more than among the rest
number_here : (n m : List ℕ) (names : List (List ℕ)) → n ≡ m → name_number (m ∷ names) n ≡ 0
unfolding name_number
number_here n m names e = rw ((tells_same n m).test e, name_number)

number_there : (n m : List ℕ) (names : List (List ℕ)) → (n ≡ m → ⊥) → name_number (m ∷ names) n ≡ suc (name_number names n)
unfolding name_number
number_there n m names d = rw (told-false (tells_same n m) d, name_number)

-- a name that stands there has the number of its place
pub number_of-known :
    (names : List (List ℕ)) (n : List ℕ) → In n names →
    (name_number names n < length names) × (get_or names (name_number names n) [] ≡ n)
number_of-known [] n m = absurd (Memᴰ.not-nil m)
number_of-known (x ∷ names) n m = go (word_dec n x) (number_of-known names n) (Memᴰ.cases_cons m)
  where
    Known : ℕ → Type 0
    Known i = (i < suc (length names)) × (get_or (x ∷ names) i [] ≡ n)

    go :
        (n ≡ x) ⊎ (n ≡ x → ⊥) →
        (In n names → (name_number names n < length names) × (get_or names (name_number names n) [] ≡ n)) →
        (n ≡ x) ⊎ In n names → Known (name_number (x ∷ names) n)
    go (inl e) again k = subst Known (sym (number_here n x names e)) (omega arith, sym e)
    go (inr d) again (inl e) = absurd (d e)
    go (inr d) again (inr k) =
        let r = again k in
        let low : name_number names n < length names = r.0 in
        subst Known (sym (number_there n x names d)) (omega arith, r.1)

-- any other has the number of names
pub number_of-unknown : (names : List (List ℕ)) (n : List ℕ) → (In n names → ⊥) → name_number names n ≡ length names
unfolding name_number
number_of-unknown [] n out = refl
number_of-unknown (x ∷ names) n out =
    number_there n x names (λ e. out (here e)) ∙ ap suc (number_of-unknown names n (λ m. out (there m)))

pub number_within : (names : List (List ℕ)) (n : List ℕ) → name_number names n ≤ length names
number_within names n =
    ⊎_elim (λ (m : In n names). omega (arith, (number_of-known names n m).0))
    (λ (out : In n names → ⊥). omega (arith, number_of-unknown names n out)) (decided (tells_has_row n names))

-- a number below that of names is the number of one of them
pub known_by_number : (names : List (List ℕ)) (n : List ℕ) → name_number names n < length names → In n names
known_by_number names n low =
    ⊎_elim (λ (m : In n names). m)
    (λ (out : In n names → ⊥). let z : ⊥ = omega (arith, number_of-unknown names n out) in absurd z) (decided (tells_has_row n names))

-- and there stands that name
pub name_of-number :
    (names : List (List ℕ)) (n : List ℕ) → name_number names n < length names → get_or names (name_number names n) [] ≡ n
name_of-number names n low = (number_of-known names n (known_by_number names n low)).1

-- names with one number are equal
pub equal_numbers :
    (names : List (List ℕ)) (a b : List ℕ) → In a names → In b names → name_number names a ≡ name_number names b → a ≡ b
equal_numbers names a b m k e =
    sym (number_of-known names a m).1 ∙ ap (λ (i : ℕ). get_or names i []) e ∙ (number_of-known names b k).1

-- ---- ascending names

-- so a name is told by its number
pub known_test : (names : List (List ℕ)) (n : List ℕ) → has_row n names ≡ ltb (name_number names n) (length names)
known_test names n =
    same_tests (tells_has_row n names) (tells_ltb (name_number names n) (length names)) (λ m. (number_of-known names n m).0)
    (known_by_number names n)

module _ (names : List (List ℕ)) (ascending : Ascends names) where
  -- a name stands before none that has a lower place, nor before itself
  not_before : (i j : ℕ) → i ≤ j → j < length names → before (get_or names j []) (get_or names i []) ≡ true → ⊥
  not_before i j l h o =
      ⊎_elim
      (λ (q : j ≤ i).
      let is : j ≡ i = omega arith in
      before_self (get_or names i []) (subst (λ (k : ℕ). before (get_or names k []) (get_or names i []) ≡ true) is o))
      (λ (q : i < j).
      before_self (get_or names i [])
      (before-trans (get_or names i []) (get_or names j []) (get_or names i []) (ascending.in_order i j q h) o))
      (le_or_lt j i)

  -- a name before the one at place j stands at no place from j on
  pub places_below :
      (n : List ℕ) (j : ℕ) → before n (get_or names j []) ≡ true →
      (i : ℕ) → i < length names → get_or names i [] ≡ n → i < j
  places_below n j o i h e =
      ⊎_elim
      (λ (l : j ≤ i). absurd (not_before j i l h (subst (λ (z : List ℕ). before z (get_or names j []) ≡ true) (sym e) o)))
      (λ (l : i < j). l) (le_or_lt j i)

  -- and a name after that one stands at no place up to j
  pub places_above :
      (n : List ℕ) (j : ℕ) → j < length names → before (get_or names j []) n ≡ true →
      (i : ℕ) → get_or names i [] ≡ n → j < i
  places_above n j h o i e =
      ⊎_elim
      (λ (l : i ≤ j). absurd (not_before i j l h (subst (λ (z : List ℕ). before (get_or names j []) z ≡ true) (sym e) o)))
      (λ (l : j < i). l) (le_or_lt i j)

  -- places of one name
  same_place : (i j : ℕ) → i < length names → get_or names i [] ≡ get_or names j [] → i ≤ j
  same_place i j h e =
      ⊎_elim (λ (l : i ≤ j). l)
      (λ (l : j < i).
      absurd
      (before_self (get_or names j [])
      (subst (λ (z : List ℕ). before (get_or names j []) z ≡ true) e (ascending.in_order j i l h))))
      (le_or_lt i j)

  -- the name at a place has that number
  pub number-at_place : (i : ℕ) → i < length names → name_number names (get_or names i []) ≡ i
  number-at_place i h =
      let n = name_number names (get_or names i []) in
      let known = number_of-known names (get_or names i []) (nth_in [] names i h) in
      let low : n ≤ i = same_place n i known.0 known.1 in
      let high : i ≤ n = same_place i n h (sym known.1) in
      omega arith

  -- and no other name has it
  pub number-only : (i : ℕ) → i < length names → (n : List ℕ) → eqb (name_number names n) i ≡ same n (get_or names i [])
  number-only i h n =
      same_tests (tells_eqb (name_number names n) i) (tells_same n (get_or names i []))
      (λ (e : name_number names n ≡ i).
      sym (name_of-number names n (omega arith)) ∙ ap (λ (k : ℕ). get_or names k []) e)
      (λ e. ap (name_number names) e ∙ number-at_place i h)
