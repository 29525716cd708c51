-- Places in lists: numbers in succession, the element at a place, and the place of an element (`index_in`) in a list, in one that
-- goes on, and in a mapped one. Assumes nothing.
use mathlib.Core.Path.{◌≡◌, refl, sym, ap, ◌∙◌, subst}
use mathlib.Core.Logic.{◌⊎◌, inl, inr, ⊎_elim}
use mathlib.Core.List.Memᴰ.{head as here}
use mathlib.Core.List.Memᴰ.{tail as there}
use mathlib.Core.List.{List, [], ◌∷◌, ◌++◌, map, Memᴰ as In}
use mathlib.Core.List.Memᴰ
use Prim.Native.Nat.{ℕ, zero, suc, ◌+◌, ◌≤◌, ◌<◌}
use native.Mathlib.Omega.{arith}
use lib.ListN.{length, get_or}
use borrow.Author.Tests.{eq-eqb, ne_eqb}
use native.Mathlib.Nat.{add-zero, not-suc-le-zero}
use Rattle.base.specs.Lists.{numbers_from, index_in, Distinct}
use Rattle.base.proofs.Tests.{eq_dec}

-- ---- numbers in succession

pub length-numbers_from : (n i : ℕ) → length (numbers_from n i) ≡ n
unfolding numbers_from
length-numbers_from zero i = refl
length-numbers_from (suc n) i = ap suc (length-numbers_from n (suc i))

-- they are those from i on, n of them
pub in_numbers_from : (n i j : ℕ) → i ≤ j → j < i + n → In j (numbers_from n i)
unfolding numbers_from
in_numbers_from zero i j low high = let z : ⊥ = omega arith in absurd z
in_numbers_from (suc n) i j low high =
    ⊎_elim (λ e. here e) (λ d. there (in_numbers_from n (suc i) j (omega (arith, d)) (omega arith))) (eq_dec j i)

pub numbers_from-in : (n i j : ℕ) → In j (numbers_from n i) → (i ≤ j) × (j < i + n)
unfolding numbers_from
numbers_from-in zero i j m = absurd (Memᴰ.not-nil m)
numbers_from-in (suc n) i j m =
    ⊎_elim (λ e. (omega (arith, e), omega (arith, e)))
    (λ k. let r = numbers_from-in n (suc i) j k in (omega (arith, r.0), omega (arith, r.1)))
    (Memᴰ.cases_cons m)

-- the v-th of them is i + v
pub nth_number : (n i v : ℕ) → v < n → get_or (numbers_from n i) v 0 ≡ i + v
unfolding numbers_from
nth_number zero i v h = absurd (not-suc-le-zero h)
nth_number (suc n) i zero h = sym (add-zero i)
nth_number (suc n) i (suc v) h =
    let rest : get_or (numbers_from n (suc i)) v 0 ≡ suc i + v = nth_number n (suc i) v (omega arith) in
    let sums : suc i + v ≡ i + suc v = omega arith in
    rest ∙ sums

-- the v-th number from 0 is v
pub number_at : (n v : ℕ) → v < n → get_or (numbers_from n 0) v 0 ≡ v
number_at n v h =
    let sum_is : 0 + v ≡ v = omega arith in
    nth_number n 0 v h ∙ sum_is

-- ---- lists by place

module _ {A : Type 0} (d : A) where
  -- the element at a place is in the list
  pub nth_in : (xs : List A) (i : ℕ) → i < length xs → In (get_or xs i d) xs
  nth_in [] i h = let z : ⊥ = omega arith in absurd z
  nth_in (x ∷ xs) zero h = here refl
  nth_in (x ∷ xs) (suc i) h = there (nth_in xs i (omega arith))

  -- and each element has a place
  pub place_of : (xs : List A) (x : A) → In x xs → (i : ℕ) × (i < length xs) × (get_or xs i d ≡ x)
  place_of [] x m = absurd (Memᴰ.not-nil m)
  place_of (y ∷ ys) x m = go (place_of ys x) (Memᴰ.cases_cons m)
    where
      go :
          (In x ys → (i : ℕ) × (i < length ys) × (get_or ys i d ≡ x)) → (x ≡ y) ⊎ In x ys →
          (i : ℕ) × (i < suc (length ys)) × (get_or (y ∷ ys) i d ≡ x)
      go again (inl e) = (0, omega arith, sym e)
      go again (inr n) =
          let r = again n in
          let low : r.0 < length ys = r.1 in
          (suc r.0, omega arith, r.2)

  -- one place, where none stands twice
  pub one_place :
      (xs : List A) (i j : ℕ) → Distinct xs → i < length xs → j < length xs → get_or xs i d ≡ get_or xs j d → i ≡ j
  one_place [] i j distinct h k e = let z : ⊥ = omega arith in absurd z
  one_place (x ∷ xs) zero zero distinct h k e = refl
  one_place (x ∷ xs) zero (suc j) distinct h k e =
      absurd (distinct.0 (Memᴰ.cast e (nth_in xs j (omega arith))))
  one_place (x ∷ xs) (suc i) zero distinct h k e =
      absurd (distinct.0 (Memᴰ.cast (sym e) (nth_in xs i (omega arith))))
  one_place (x ∷ xs) (suc i) (suc j) distinct h k e =
      ap suc (one_place xs i j distinct.1 (omega arith) (omega arith) e)

-- ---- the place of an element

-- the first is at place 0, others one further than in the rest
pub index_here : (x y : ℕ) (ys : List ℕ) → x ≡ y → index_in x (y ∷ ys) ≡ 0
unfolding index_in
index_here x y ys e = rw (eq-eqb x y e, index_in)

pub index_there : (x y : ℕ) (ys : List ℕ) → (x ≡ y → ⊥) → index_in x (y ∷ ys) ≡ suc (index_in x ys)
unfolding index_in
index_there x y ys d = rw (ne_eqb x y d, index_in)

-- the i-th of a list without repeats has the place i
pub index_of_nth : (xs : List ℕ) (i : ℕ) → Distinct xs → i < length xs → index_in (get_or xs i 0) xs ≡ i
index_of_nth [] i d h = let z : ⊥ = omega arith in absurd z
index_of_nth (x ∷ xs) zero d h = index_here x x xs refl
index_of_nth (x ∷ xs) (suc i) d h =
    let below : i < length xs = omega arith in
    index_there (get_or xs i 0) x xs (λ e. d.0 (Memᴰ.cast (sym e) (nth_in 0 xs i below)))
    ∙ ap suc (index_of_nth xs i d.1 below)

-- at the place of an element stands the element
pub nth_of_index : (xs : List ℕ) (x : ℕ) → In x xs → (index_in x xs < length xs) × (get_or xs (index_in x xs) 0 ≡ x)
nth_of_index [] x m = absurd (Memᴰ.not-nil m)
nth_of_index (y ∷ ys) x m = go (eq_dec x y) (nth_of_index ys x) (Memᴰ.cases_cons m)
  where
    Place : ℕ → Type 0
    Place i = (i < suc (length ys)) × (get_or (y ∷ ys) i 0 ≡ x)

    go :
        (x ≡ y) ⊎ (x ≡ y → ⊥) → (In x ys → (index_in x ys < length ys) × (get_or ys (index_in x ys) 0 ≡ x)) →
        (x ≡ y) ⊎ In x ys → (index_in x (y ∷ ys) < suc (length ys)) × (get_or (y ∷ ys) (index_in x (y ∷ ys)) 0 ≡ x)
    go (inl e) again n = subst Place (sym (index_here x y ys e)) (omega arith, sym e)
    go (inr d) again (inl e) = absurd (d e)
    go (inr d) again (inr n) =
        let r = again n in
        let low : index_in x ys < length ys = r.0 in
        subst Place (sym (index_there x y ys d)) (omega arith, r.1)

-- an element of the front has the same place in the whole
pub index_front : (x : ℕ) (xs ys : List ℕ) → In x xs → index_in x (xs ++ ys) ≡ index_in x xs
index_front x [] ys m = absurd (Memᴰ.not-nil m)
index_front x (z ∷ xs) ys m = go (eq_dec x z) (Memᴰ.cases_cons m) (λ n. index_front x xs ys n)
  where
    go :
        (x ≡ z) ⊎ (x ≡ z → ⊥) → (x ≡ z) ⊎ In x xs → (In x xs → index_in x (xs ++ ys) ≡ index_in x xs) →
        index_in x (z ∷ (xs ++ ys)) ≡ index_in x (z ∷ xs)
    go (inl e) n again = index_here x z (xs ++ ys) e ∙ sym (index_here x z xs e)
    go (inr d) (inl e) again = absurd (d e)
    go (inr d) (inr n) again = index_there x z (xs ++ ys) d ∙ ap suc (again n) ∙ sym (index_there x z xs d)

-- and so a place there
pub index_in-front : (x : ℕ) (xs ys : List ℕ) → In x xs → index_in x (xs ++ ys) < length xs
index_in-front x xs ys m =
    subst (λ (i : ℕ). i < length xs) (sym (index_front x xs ys m)) (nth_of_index xs x m).0

-- and one that is not there, but comes next, has the next place
pub index_after : (x : ℕ) (xs ys : List ℕ) → (In x xs → ⊥) → index_in x (xs ++ (x ∷ ys)) ≡ length xs
index_after x [] ys out = index_here x x ys refl
index_after x (z ∷ xs) ys out =
    index_there x z (xs ++ (x ∷ ys)) (λ e. out (here e)) ∙ ap suc (index_after x xs ys (λ m. out (there m)))

-- what a list becomes at the place of x is what x becomes
pub map-at_index :
    {A : Type 0} (f : ℕ → A) (d : A) (xs : List ℕ) (x : ℕ) → In x xs → get_or (map f xs) (index_in x xs) d ≡ f x
map-at_index f d [] x m = absurd (Memᴰ.not-nil m)
map-at_index {A} f d (y ∷ ys) x m = go (eq_dec x y) (map-at_index f d ys x) (Memᴰ.cases_cons m)
  where
    at : ℕ → A
    at i = get_or (map f (y ∷ ys)) i d

    go :
        (x ≡ y) ⊎ (x ≡ y → ⊥) → (In x ys → get_or (map f ys) (index_in x ys) d ≡ f x) → (x ≡ y) ⊎ In x ys →
        get_or (map f (y ∷ ys)) (index_in x (y ∷ ys)) d ≡ f x
    go (inl e) again n = ap at (index_here x y ys e) ∙ ap f (sym e)
    go (inr no-head) again (inl e) = absurd (no-head e)
    go (inr no-head) again (inr n) = ap at (index_there x y ys no-head) ∙ again n
