-- Laws of lists that have nothing to do with plans: membership in mapped, flattened and filtered lists, the last element,
-- lists without repeats, and the pigeonhole law. Assumes nothing.
use mathlib.Core.Path.{◌≡◌, refl, sym, ap, ◌∙◌, subst}
use mathlib.Core.Logic.{◌⊎◌, inl, inr, ⊎_elim}
use mathlib.Core.Bool.{Bool, true, false, cond, false≢true}
use mathlib.Core.List.Memᴰ.{head as here}
use mathlib.Core.List.Memᴰ.{tail as there}
use mathlib.Core.List.{List, [], ◌∷◌, ◌++◌, map, flat_map, Memᴰ as In}
use mathlib.Core.List.Memᴰ
use Prim.Native.Nat.{suc, ◌≤◌, ◌<◌}
use native.Mathlib.Omega.{arith}
use lib.ListN.{length}
use Rattle.base.specs.Lists.{filter_by, last_or, Distinct}

module _ {A B : Type 0} where
  -- an element of a mapped list is what an element became
  pub map-in : (f : A → B) (xs : List A) {y : B} → In y (map f xs) → (x : A) × In x xs × (y ≡ f x)
  map-in f xs m = let r = Memᴰ.of_map f xs m in (r.0, r.1, sym r.2)

  -- the elements of a flattened list, both ways
  pub in_flat_map : (f : A → List B) {x : A} {y : B} (xs : List A) → In x xs → In y (f x) → In y (flat_map f xs)
  unfolding flat_map
  in_flat_map f [] m n = absurd (Memᴰ.not-nil m)
  in_flat_map f {x} {y} (z ∷ zs) m n =
      ⊎_elim (λ e. Memᴰ.append_left (flat_map f zs) (subst (λ w. In y (f w)) e n))
      (λ r. Memᴰ.append_right (f z) (in_flat_map f zs r n))
      (Memᴰ.cases_cons m)

  pub flat_map-in : (f : A → List B) (xs : List A) {y : B} → In y (flat_map f xs) → (x : A) × In x xs × In y (f x)
  unfolding flat_map
  flat_map-in f [] m = absurd (Memᴰ.not-nil m)
  flat_map-in f (x ∷ xs) {y} m =
      ⊎_elim (λ n. (x, here refl, n)) (λ n. let r = flat_map-in f xs n in (r.0, there r.1, r.2))
      (Memᴰ.append_cases (f x) m)

module _ {A : Type 0} where
  -- the elements of a filtered list, both ways
  pub in_filter_by : (test : A → Bool) {x : A} (xs : List A) → In x xs → test x ≡ true → In x (filter_by test xs)
  unfolding filter_by
  in_filter_by test [] m t = absurd (Memᴰ.not-nil m)
  in_filter_by test {x} (y ∷ ys) m t = go (test y) refl (Memᴰ.cases_cons m) (λ n. in_filter_by test ys n t)
    where
      go :
          (b : Bool) → test y ≡ b → (x ≡ y) ⊎ In x ys → (In x ys → In x (filter_by test ys)) →
          In x (cond b (y ∷ filter_by test ys) (filter_by test ys))
      go true e (inl p) again = here p
      go true e (inr n) again = there (again n)
      go false e (inl p) again = absurd (false≢true (sym e ∙ subst (λ z. test z ≡ true) p t))
      go false e (inr n) again = again n

  pub filter_by-in : (test : A → Bool) {x : A} (xs : List A) → In x (filter_by test xs) → In x xs × (test x ≡ true)
  unfolding filter_by
  filter_by-in test [] m = absurd (Memᴰ.not-nil m)
  filter_by-in test {x} (y ∷ ys) m = go (test y) refl (λ n. filter_by-in test ys n) m
    where
      go :
          (b : Bool) → test y ≡ b → (In x (filter_by test ys) → In x ys × (test x ≡ true)) →
          In x (cond b (y ∷ filter_by test ys) (filter_by test ys)) → In x (y ∷ ys) × (test x ≡ true)
      go true e again n =
          ⊎_elim (λ p. (here p, subst (λ z. test z ≡ true) (sym p) e)) (λ r. (there (again r).0, (again r).1))
          (Memᴰ.cases_cons n)
      go false e again n = (there (again n).0, (again n).1)

  -- the last element of a list with one more at its end
  pub last_or-snoc : (d : A) (xs : List A) (x : A) → last_or d (xs ++ (x ∷ [])) ≡ x
  unfolding last_or
  last_or-snoc d [] x = refl
  last_or-snoc d (y ∷ xs) x = last_or-snoc y xs x

  -- one more at the end, if it is new
  pub distinct_snoc : (xs : List A) (y : A) → Distinct xs → (In y xs → ⊥) → Distinct (xs ++ (y ∷ []))
  distinct_snoc [] y d out = (λ m. Memᴰ.not-nil m, tt)
  distinct_snoc (x ∷ xs) y d out = (
    λ m. ⊎_elim (λ n. d.0 n) (λ n. out (here (sym (Memᴰ.eq_of_singleton n)))) (Memᴰ.append_cases xs m),
    distinct_snoc xs y d.1 (λ n. out (there n)),
  )

  -- some of the elements
  pub distinct_filter_by : (test : A → Bool) (xs : List A) → Distinct xs → Distinct (filter_by test xs)
  unfolding filter_by
  distinct_filter_by test [] d = tt
  distinct_filter_by test (x ∷ xs) d =
      go (test x) (distinct_filter_by test xs d.1) (λ m. d.0 (filter_by-in test xs m).0)
    where
      go :
          (b : Bool) → Distinct (filter_by test xs) → (In x (filter_by test xs) → ⊥) →
          Distinct (cond b (x ∷ filter_by test xs) (filter_by test xs))
      go true rest out = (out, rest)
      go false rest out = rest

  -- a list one shorter than ys that holds all its elements but x
  abbrev Without : A → List A → Type 0
  Without x ys = (zs : List A) × (length ys ≡ suc (length zs)) × ((z : A) → In z ys → (z ≡ x → ⊥) → In z zs)

  -- there is one, if x is in ys: what is left without one occurrence of x
  without : {x : A} (ys : List A) → In x ys → Without x ys
  without [] m = absurd (Memᴰ.not-nil m)
  without {x} (y ∷ ys) m = go (Memᴰ.cases_cons m) (λ n. without ys n)
    where
      go : (x ≡ y) ⊎ In x ys → (In x ys → Without x ys) → Without x (y ∷ ys)
      go (inl e) again = (ys, refl, λ z n d. ⊎_elim (λ p. absurd (d (p ∙ sym e))) (λ r. r) (Memᴰ.cases_cons n))
      go (inr n) again =
          let r = again n in
          (y ∷ r.0, ap suc r.1, λ z k d. ⊎_elim (λ p. here p) (λ q. there (r.2 z q d)) (Memᴰ.cases_cons k))

  -- pigeonhole: different elements of a list are no more than its length
  pub distinct_length : (xs ys : List A) → Distinct xs → ((x : A) → In x xs → In x ys) → length xs ≤ length ys
  distinct_length [] ys d h = omega arith
  distinct_length (x ∷ xs) ys d h =
      let r = without ys (h x (here refl)) in
      let rest : length xs ≤ length r.0 =
      distinct_length xs r.0 d.1 (λ z m. r.2 z (h z (there m)) (λ e. d.0 (Memᴰ.cast (sym e) m))) in
      let size : length ys ≡ suc (length r.0) = r.1 in
      omega arith

  -- and fewer where one is left out
  pub distinct_shorter :
      (xs ys : List A) (z : A) → Distinct xs → ((x : A) → In x xs → In x ys) → In z ys → (In z xs → ⊥) →
      length xs < length ys
  distinct_shorter xs ys z d h m out =
      distinct_length (z ∷ xs) ys (out, d) (λ x n. ⊎_elim (λ e. Memᴰ.cast e m) (λ k. h x k) (Memᴰ.cases_cons n))

  -- lists of the same elements without repeats are of one length
  pub same_length :
      (xs ys : List A) → Distinct xs → Distinct ys → ((x : A) → In x xs → In x ys) →
      ((x : A) → In x ys → In x xs) → length xs ≡ length ys
  same_length xs ys d e f g =
      let p : length xs ≤ length ys = distinct_length xs ys d f in
      let q : length ys ≤ length xs = distinct_length ys xs e g in
      omega arith
