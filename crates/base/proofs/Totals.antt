-- Sums over lists and over places: taken apart, put together, exchanged, bounded, behind a test, and with one term that counts.
-- Assumes nothing.
use mathlib.Core.Path.{◌≡◌, refl, sym, ap, ap₂, ◌∙◌, subst}
use mathlib.Core.Logic.{◌⊎◌, inl, inr, ⊎_elim}
use mathlib.Core.Bool.{Bool, true, false}
use mathlib.Core.List.Memᴰ.{head as here}
use mathlib.Core.List.Memᴰ.{tail as there}
use mathlib.Core.List.{List, [], ◌∷◌, ◌++◌, map, flat_map, Memᴰ as In}
use mathlib.Core.List.Memᴰ
use Prim.Native.Nat.{ℕ, zero, suc, ◌+◌, ◌*◌, ◌≤◌, ◌<◌}
use native.Mathlib.Omega.{arith}
use lib.Dec.{eqb}
use lib.ListN.{length, get_or, length-append}
use borrow.Author.Tests.{eq-eqb, ne_eqb}
use Rattle.base.specs.Limits.{when}
use Rattle.base.specs.Lists.{total, how_many, sum_below, numbers_from, Distinct}
use Rattle.base.proofs.Tests.{eq_dec, le_or_lt}
use Rattle.base.proofs.Places.{numbers_from-in}

-- ---- over a list

-- what is counted where a test is true
pub when-le : (b : Bool) (n : ℕ) → when b n ≤ n
when-le true n = omega arith
when-le false n = omega arith

-- a test before nothing
pub when-zero : (b : Bool) → when b 0 ≡ 0
when-zero true = refl
when-zero false = refl

module _ {A : Type 0} where
  pub total-same : (f g : A → ℕ) (xs : List A) → ((x : A) → In x xs → f x ≡ g x) → total f xs ≡ total g xs
  unfolding total
  total-same f g [] e = refl
  total-same f g (x ∷ xs) e = ap₂ (λ (m n : ℕ). m + n) (e x (here refl)) (total-same f g xs (λ y m. e y (there m)))

  pub total-zero : (f : A → ℕ) (xs : List A) → ((x : A) → In x xs → f x ≡ 0) → total f xs ≡ 0
  unfolding total
  total-zero f [] e = refl
  total-zero f (x ∷ xs) e = omega (arith, e x (here refl), total-zero f xs (λ y m. e y (there m)))

  -- one for each element
  pub total-ones : (xs : List A) → total (λ (x : A). 1) xs ≡ length xs
  unfolding total
  total-ones [] = refl
  total-ones (x ∷ xs) = omega (arith, total-ones xs)

  -- a test before a sum is one before each term
  pub total-when : (b : Bool) (f : A → ℕ) (xs : List A) → when b (total f xs) ≡ total (λ (x : A). when b (f x)) xs
  total-when true f xs = refl
  total-when false f xs = sym (total-zero (λ (x : A). 0) xs (λ x m. refl))

  pub total-add : (f g : A → ℕ) (xs : List A) → total (λ (x : A). f x + g x) xs ≡ total f xs + total g xs
  unfolding total
  total-add f g [] = refl
  total-add f g (x ∷ xs) = omega (arith, total-add f g xs)

  pub total-append : (f : A → ℕ) (xs ys : List A) → total f (xs ++ ys) ≡ total f xs + total f ys
  unfolding total
  total-append f [] ys = omega arith
  total-append f (x ∷ xs) ys = omega (arith, total-append f xs ys)

  pub total-most : (f : A → ℕ) (m : ℕ) (xs : List A) → ((x : A) → In x xs → f x ≤ m) → total f xs ≤ m * length xs
  unfolding total
  total-most f m [] low = omega arith
  total-most f m (x ∷ xs) low = omega (arith, low x (here refl), total-most f m xs (λ y k. low y (there k)), more)
    where
      more : m * suc (length xs) ≡ m + m * length xs
      more = omega arith

  pub total-le : (f g : A → ℕ) (xs : List A) → ((x : A) → In x xs → f x ≤ g x) → total f xs ≤ total g xs
  unfolding total
  total-le f g [] low = omega arith
  total-le f g (x ∷ xs) low = omega (arith, low x (here refl), total-le f g xs (λ y k. low y (there k)))

  -- one term of the sum
  pub total-has : (f : A → ℕ) (xs : List A) (x : A) → In x xs → f x ≤ total f xs
  unfolding total
  total-has f [] x m = absurd (Memᴰ.not-nil m)
  total-has f (y ∷ ys) x m =
      ⊎_elim (λ (e : x ≡ y). let same = ap f e in omega arith) (λ k. let rest = total-has f ys x k in omega arith)
      (Memᴰ.cases_cons m)

  -- the only term that counts
  pub total-one :
      (f : A → ℕ) (xs : List A) (x : A) → Distinct xs → In x xs → ((y : A) → In y xs → (y ≡ x → ⊥) → f y ≡ 0) →
      total f xs ≡ f x
  unfolding total
  total-one f [] x d m none = absurd (Memᴰ.not-nil m)
  total-one f (y ∷ ys) x d m none =
      ⊎_elim
      (λ (e : x ≡ y).
      let rest : total f ys ≡ 0 =
      total-zero f ys (λ z k. none z (there k) (λ q. d.0 (subst (λ (u : A). In u ys) (q ∙ e) k))) in
      let same = ap f e in omega arith)
      (λ k.
      let first : f y ≡ 0 = none y (here refl) (λ q. d.0 (subst (λ (u : A). In u ys) (sym q) k)) in
      let rest = total-one f ys x d.1 k (λ z n. none z (there n)) in omega arith)
      (Memᴰ.cases_cons m)

  -- ---- how many pass a test

  pub many_few : (test : A → Bool) (xs : List A) → how_many test xs ≤ length xs
  many_few test xs =
      let all = total-most (λ (x : A). when (test x) 1) 1 xs (λ x m. when-le (test x) 1) in omega (arith, all)

  -- one passes exactly where the number is not 0
  pub many_some : (test : A → Bool) (xs : List A) (x : A) → In x xs → test x ≡ true → 0 < how_many test xs
  many_some test xs x m e =
      let one : when (test x) 1 ≡ 1 = ap (λ (b : Bool). when b 1) e in
      omega (arith, total-has (λ (y : A). when (test y) 1) xs x m)

  pub some_many : (test : A → Bool) (xs : List A) → 0 < how_many test xs → (x : A) × In x xs × (test x ≡ true)
  unfolding total
  some_many test [] h = let z : ⊥ = omega arith in absurd z
  some_many test (x ∷ xs) h = go (test x) refl (some_many test xs)
    where
      go :
          (b : Bool) → test x ≡ b → (0 < how_many test xs → (y : A) × In y xs × (test y ≡ true)) →
          (y : A) × In y (x ∷ xs) × (test y ≡ true)
      go true e rest = (x, here refl, e)
      go false e rest =
          let none : when (test x) 1 ≡ 0 = ap (λ (b : Bool). when b 1) e in
          let r = rest (omega (arith, h)) in
          (r.0, there r.1, r.2)

-- sums in either order
module _ {A B : Type 0} where
  pub total-swap :
      (f : A → B → ℕ) (xs : List A) (ys : List B) →
      total (λ (x : A). total (λ (y : B). f x y) ys) xs ≡ total (λ (y : B). total (λ (x : A). f x y) xs) ys
  unfolding total
  total-swap f [] ys = sym (total-zero (λ (y : B). 0) ys (λ y m. refl))
  total-swap f (x ∷ xs) ys =
      ap (λ (n : ℕ). total (f x) ys + n) (total-swap f xs ys)
      ∙ sym (total-add (f x) (λ (y : B). total (λ (z : A). f z y) xs) ys)

  pub total-map : (f : B → ℕ) (g : A → B) (xs : List A) → total f (map g xs) ≡ total (λ (x : A). f (g x)) xs
  unfolding total
  total-map f g [] = refl
  total-map f g (x ∷ xs) = ap (λ (n : ℕ). f (g x) + n) (total-map f g xs)

  pub total-flat_map :
      (f : B → ℕ) (g : A → List B) (xs : List A) → total f (flat_map g xs) ≡ total (λ (x : A). total f (g x)) xs
  unfolding total flat_map
  total-flat_map f g [] = refl
  total-flat_map f g (x ∷ xs) =
      total-append f (g x) (flat_map g xs) ∙ ap (λ (n : ℕ). total f (g x) + n) (total-flat_map f g xs)

  pub length-flat_map : (f : A → List B) (xs : List A) → length (flat_map f xs) ≡ total (λ (x : A). length (f x)) xs
  unfolding total flat_map
  length-flat_map f [] = refl
  length-flat_map f (x ∷ xs) = omega (arith, length-append (f x) (flat_map f xs), length-flat_map f xs)

-- ---- over numbers in succession

-- the term of one of them
pub total-number : (n i j k : ℕ) → i ≤ j → j < i + n → total (λ (p : ℕ). when (eqb j p) k) (numbers_from n i) ≡ k
unfolding total numbers_from
total-number zero i j k low high = let z : ⊥ = omega arith in absurd z
total-number (suc n) i j k low high = go (eq_dec j i) (total-number n (suc i) j k)
  where
    term : ℕ → ℕ
    term p = when (eqb j p) k

    other-term : (p : ℕ) → (j ≡ p → ⊥) → term p ≡ 0
    other-term p other = ap (λ (b : Bool). when b k) (ne_eqb j p other)

    go :
        (j ≡ i) ⊎ (j ≡ i → ⊥) → (suc i ≤ j → j < suc i + n → total term (numbers_from n (suc i)) ≡ k) →
        term i + total term (numbers_from n (suc i)) ≡ k
    go (inl same) again =
        let first : term i ≡ k = ap (λ (b : Bool). when b k) (eq-eqb j i same) in
        let rest : total term (numbers_from n (suc i)) ≡ 0 =
        total-zero term (numbers_from n (suc i)) (λ p m.
        other-term p (λ (e : j ≡ p). omega (arith, (numbers_from-in n (suc i) p m).0))) in
        omega arith
    go (inr other) again = omega (arith, other-term i other, again (omega (arith, other)) (omega arith))

-- ---- over places

pub sum_same : (n : ℕ) (f g : ℕ → ℕ) → ((v : ℕ) → v < n → f v ≡ g v) → sum_below n f ≡ sum_below n g
unfolding sum_below
sum_same zero f g e = refl
sum_same (suc n) f g e =
    ap₂ (λ (m k : ℕ). m + k) (sum_same n f g (λ v h. e v (omega arith))) (e n (omega arith))

pub sum-zero : (n : ℕ) (f : ℕ → ℕ) → ((v : ℕ) → v < n → f v ≡ 0) → sum_below n f ≡ 0
unfolding sum_below
sum-zero zero f e = refl
sum-zero (suc n) f e = omega (arith, sum-zero n f (λ v h. e v (omega arith)), e n (omega arith))

pub sum-le : (n : ℕ) (f g : ℕ → ℕ) → ((v : ℕ) → v < n → f v ≤ g v) → sum_below n f ≤ sum_below n g
unfolding sum_below
sum-le zero f g low = omega arith
sum-le (suc n) f g low = omega (arith, sum-le n f g (λ v h. low v (omega arith)), low n (omega arith))

-- fewer terms
pub sum_more : (k n : ℕ) (f : ℕ → ℕ) → k ≤ n → sum_below k f ≤ sum_below n f
unfolding sum_below
sum_more k zero f h = let e : k ≡ 0 = omega arith in let same = ap (λ (i : ℕ). sum_below i f) e in omega arith
sum_more k (suc n) f h = go (le_or_lt k n) (sum_more k n f)
  where
    go : (k ≤ n) ⊎ (n < k) → (k ≤ n → sum_below k f ≤ sum_below n f) → sum_below k f ≤ sum_below n f + f n
    go (inl low) rest = omega (arith, rest low)
    go (inr high) rest = let e : k ≡ suc n = omega arith in let same = ap (λ (i : ℕ). sum_below i f) e in omega arith

-- the first term taken out
sum_first : (n : ℕ) (f : ℕ → ℕ) → sum_below (suc n) f ≡ f 0 + sum_below n (λ (i : ℕ). f (suc i))
unfolding sum_below
sum_first zero f = omega arith
sum_first (suc n) f = omega (arith, sum_first n f)

-- a sum over a list by its places; the default is any
pub total-places :
    {A : Type 0} (d : A) (f : A → ℕ) (xs : List A) → total f xs ≡ sum_below (length xs) (λ (i : ℕ). f (get_or xs i d))
unfolding total sum_below
total-places d f [] = refl
total-places d f (x ∷ xs) =
    ap (λ (n : ℕ). f x + n) (total-places d f xs) ∙ sym (sum_first (length xs) (λ (i : ℕ). f (get_or (x ∷ xs) i d)))
