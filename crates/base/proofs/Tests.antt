-- Tests and the facts that they tell, both ways at once: of numbers, of tests joined by and, or and not, of words and their
-- order, and of the elements of a list. Assumes nothing.
use mathlib.Core.Path.{◌≡◌, refl, sym, ap, ap₂, ◌∙◌, subst}
use mathlib.Core.Logic.{◌⊎◌, inl, inr, ⊎_elim}
use mathlib.Core.Bool.{Bool, true, false, ◌&&◌, ◌||◌, not, true≢false, false≢true, and-eq-true_iff}
use mathlib.Core.List.Memᴰ
use mathlib.Core.List.Memᴰ.{head as here}
use mathlib.Core.List.Memᴰ.{tail as there}
use mathlib.Core.List.{List, [], ◌∷◌, Memᴰ as In}
use mathlib.Core.List.{head-eq_of_cons-eq, tail-eq_of_cons-eq, nil≢cons, cons≢nil}
use Prim.Native.Nat.{ℕ, ◌≤◌, ◌<◌}
use native.Mathlib.Omega.{arith}
use lib.Dec.{eqb, ltb, leb}
use borrow.Author.Tests.{ltb-true, leb-true, eqb-true, lt-ltb, le-leb, eq-eqb}
use Rattle.base.specs.Lists.{any, any_two, all, same, before, has_row, is_in}

-- the test is true exactly when the fact holds
pub record Tells (b : Bool) (P : Type 0) : Type 0 where
  pub fact : b ≡ true → P
  pub test : P → b ≡ true

-- what a test that is not true tells
pub not_told : {b : Bool} {P : Type 0} → Tells b P → b ≡ false → P → ⊥
not_told t e p = true≢false (sym (t.test p) ∙ e)

-- a fact is decided by its test
pub decided : {b : Bool} {P : Type 0} → Tells b P → P ⊎ (P → ⊥)
decided {b} {P} t = go b refl
  where
    go : (x : Bool) → b ≡ x → P ⊎ (P → ⊥)
    go true e = inl (t.fact e)
    go false e = inr (not_told t e)

-- a test of what does not hold is false
pub told-false : {b : Bool} {P : Type 0} → Tells b P → (P → ⊥) → b ≡ false
told-false {b} {P} t no-fact = go b refl
  where
    go : (x : Bool) → b ≡ x → b ≡ false
    go true e = absurd (no-fact (t.fact e))
    go false e = e

-- a test tells that it is true
pub tells_itself : (b : Bool) → Tells b (b ≡ true)
tells_itself b = record { fact = λ e. e; test = λ e. e }

-- tests of facts that follow from each other are equal
pub same_tests : {b c : Bool} {P Q : Type 0} → Tells b P → Tells c Q → (P → Q) → (Q → P) → b ≡ c
same_tests {b} {c} {P} {Q} s t f g = go b c refl refl
  where
    go : (x y : Bool) → b ≡ x → c ≡ y → b ≡ c
    go true true d e = d ∙ sym e
    go false false d e = d ∙ sym e
    go true false d e = d ∙ sym (t.test (f (s.fact d)))
    go false true d e = s.test (g (t.fact e)) ∙ sym e

-- ---- numbers, and, or, not

pub tells_eqb : (x y : ℕ) → Tells (eqb x y) (x ≡ y)
tells_eqb x y = record { fact = eqb-true x y; test = eq-eqb x y }

pub tells_ltb : (x y : ℕ) → Tells (ltb x y) (x < y)
tells_ltb x y = record { fact = ltb-true x y; test = lt-ltb x y }

pub tells_leb : (x y : ℕ) → Tells (leb x y) (x ≤ y)
tells_leb x y = record { fact = leb-true x y; test = le-leb x y }

-- equal numbers are decided
pub eq_dec : (x y : ℕ) → (x ≡ y) ⊎ (x ≡ y → ⊥)
eq_dec x y = decided (tells_eqb x y)

-- and so is which of two numbers is the lower
pub le_or_lt : (x y : ℕ) → (x ≤ y) ⊎ (y < x)
le_or_lt x y = ⊎_elim inl (λ (above : x ≤ y → ⊥). inr (omega arith)) (decided (tells_leb x y))

pub tells_and : {a b : Bool} {P Q : Type 0} → Tells a P → Tells b Q → Tells (a && b) (P × Q)
tells_and {a} {b} s t =
    record {
      fact = λ e. let both = (and-eq-true_iff a b).0 e in (s.fact both.0, t.fact both.1);
      test = λ pq. ap₂ (λ (x y : Bool). x && y) (s.test pq.0) (t.test pq.1);
    }

or_cases : (a b : Bool) → (a || b) ≡ true → (a ≡ true) ⊎ (b ≡ true)
or_cases true b e = inl refl
or_cases false b e = inr e

or_right : (a b : Bool) → b ≡ true → (a || b) ≡ true
or_right true b e = refl
or_right false b e = e

-- an `or` that is false, by its parts
pub or_false : {a b : Bool} → a ≡ false → b ≡ false → (a || b) ≡ false
or_false p q = rw (p, q)

pub false_or : (a b : Bool) → (a || b) ≡ false → (a ≡ false) × (b ≡ false)
false_or true b e = absurd (true≢false e)
false_or false b e = (refl, e)

pub tells_or : {a b : Bool} {P Q : Type 0} → Tells a P → Tells b Q → Tells (a || b) (P ⊎ Q)
tells_or {a} {b} {P} {Q} s t =
    record {
      fact = λ e. ⊎_elim (λ p. inl (s.fact p)) (λ q. inr (t.fact q)) (or_cases a b e);
      test = λ pq. ⊎_elim (λ p. ap (λ (x : Bool). x || b) (s.test p)) (λ q. or_right a b (t.test q)) pq;
    }

pub tells_not : {a : Bool} {P : Type 0} → Tells a P → Tells (not a) (P → ⊥)
tells_not {a} {P} t =
    record {
      fact = λ e p. false≢true (sym (ap not (t.test p)) ∙ e);
      test = λ n. ap not (told-false t n);
    }

-- a told fact put another way
pub tells_by : {b : Bool} {P Q : Type 0} → Tells b P → (P → Q) → (Q → P) → Tells b Q
tells_by t f g = record { fact = λ e. f (t.fact e); test = λ q. t.test (g q) }

-- words are told equal number by number
pub tells_same : (xs ys : List ℕ) → Tells (same xs ys) (xs ≡ ys)
unfolding same
tells_same [] [] = record { fact = λ e. refl; test = λ e. refl }
tells_same [] (y ∷ ys) = record { fact = λ e. absurd (false≢true e); test = λ e. absurd (nil≢cons e) }
tells_same (x ∷ xs) [] = record { fact = λ e. absurd (false≢true e); test = λ e. absurd (cons≢nil e) }
tells_same (x ∷ xs) (y ∷ ys) =
    tells_by (tells_and (tells_eqb x y) (tells_same xs ys))
    (λ e. ap₂ (λ (a : ℕ) (as' : List ℕ). a ∷ as') e.0 e.1)
    (λ e. (head-eq_of_cons-eq e, tail-eq_of_cons-eq e))

-- equal words are decided
pub word_dec : (xs ys : List ℕ) → (xs ≡ ys) ⊎ (xs ≡ ys → ⊥)
word_dec xs ys = decided (tells_same xs ys)

-- byte order: the first numbers decide, or they are equal and what follows decides
tells_before :
    (x y : ℕ) (xs ys : List ℕ) → Tells (before (x ∷ xs) (y ∷ ys)) ((x < y) ⊎ ((x ≡ y) × (before xs ys ≡ true)))
unfolding before
tells_before x y xs ys = tells_or (tells_ltb x y) (tells_and (tells_eqb x y) (tells_itself (before xs ys)))

-- nothing stands before itself
pub before_self : (a : List ℕ) → before a a ≡ true → ⊥
unfolding before
before_self [] e = false≢true e
before_self (x ∷ a) e =
    ⊎_elim (λ (low : x < x). let z : ⊥ = omega arith in z) (λ r. before_self a r.1) ((tells_before x x a a).fact e)

-- it is transitive
pub before-trans : (xs ys zs : List ℕ) → before xs ys ≡ true → before ys zs ≡ true → before xs zs ≡ true
unfolding before
before-trans [] [] zs e f = absurd (false≢true e)
before-trans [] (y ∷ ys) [] e f = absurd (false≢true f)
before-trans [] (y ∷ ys) (z ∷ zs) e f = refl
before-trans (x ∷ xs) [] zs e f = absurd (false≢true e)
before-trans (x ∷ xs) (y ∷ ys) [] e f = absurd (false≢true f)
before-trans (x ∷ xs) (y ∷ ys) (z ∷ zs) e f =
    (tells_before x z xs zs).test
    (⊎_elim (λ low. ⊎_elim (λ p. inl (omega arith)) (λ p. inl (omega (arith, p.0))) ((tells_before y z ys zs).fact f))
    (λ p.
    ⊎_elim (λ low. inl (omega (arith, p.0))) (λ q. inr (p.0 ∙ q.0, before-trans xs ys zs p.1 q.1))
    ((tells_before y z ys zs).fact f))
    ((tells_before x y xs ys).fact e))

-- ---- the elements of a list

module _ {A : Type 0} {test : A → Bool} {P : A → Type 0} (told : (x : A) → Tells (test x) (P x)) where
  -- some element is one of which the fact holds
  pub tells_any : (xs : List A) → Tells (any test xs) ((x : A) × In x xs × P x)
  unfolding any
  tells_any [] = record { fact = λ e. absurd (false≢true e); test = λ h. absurd (Memᴰ.not-nil h.1) }
  tells_any (y ∷ ys) =
      tells_by (tells_or (told y) (tells_any ys))
      (λ h. ⊎_elim (λ p. (y, here refl, p)) (λ r. (r.0, there r.1, r.2)) h)
      (λ h. ⊎_elim (λ e. inl (subst P e h.2)) (λ m. inr (h.0, m, h.2)) (Memᴰ.cases_cons h.1))

  -- the fact holds of every element
  pub tells_all : (xs : List A) → Tells (all test xs) ((x : A) → In x xs → P x)
  unfolding all
  tells_all [] = record { fact = λ e x m. absurd (Memᴰ.not-nil m); test = λ h. refl }
  tells_all (y ∷ ys) =
      tells_by (tells_and (told y) (tells_all ys))
      (λ h x m. ⊎_elim (λ e. subst P (sym e) h.0) (λ r. h.1 x r) (Memᴰ.cases_cons m))
      (λ h. (h y (here refl), λ x m. h x (there m)))

module _ {A : Type 0} {test : A → A → Bool} {P : A → A → Type 0} (told : (x y : A) → Tells (test x y) (P x y)) where
  -- it holds of some two elements, one after the other or the same
  pub tells_any_two : (xs : List A) → Tells (any_two test xs) ((x y : A) × In x xs × In y xs × P x y)
  unfolding any_two
  tells_any_two xs =
      tells_by (tells_any (λ x. tells_any (λ y. told x y) xs) xs)
      (λ h. (h.0, h.2.0, h.1, h.2.1, h.2.2))
      (λ h. (h.0, h.2, (h.1, h.3, h.4)))

pub tells_is_in : (x : ℕ) (ys : List ℕ) → Tells (is_in x ys) (In x ys)
unfolding is_in
tells_is_in x ys =
    tells_by (tells_any (λ y. tells_eqb x y) ys) (λ h. subst (λ z. In z ys) (sym h.2) h.1) (λ m. (x, m, refl))

pub tells_has_row : (x : List ℕ) (ys : List (List ℕ)) → Tells (has_row x ys) (In x ys)
unfolding has_row
tells_has_row x ys =
    tells_by (tells_any (λ y. tells_same x y) ys) (λ h. subst (λ z. In z ys) (sym h.2) h.1) (λ m. (x, m, refl))
