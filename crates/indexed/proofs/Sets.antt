-- The seen set of a word as an ascending list: its members are the word's names, and sets of the same members are equal.
-- Assumes nothing.
use mathlib.Core.Path.{◌≡◌, refl, sym, ap₂, ◌∙◌, subst}
use mathlib.Core.Logic.{◌⊎◌, inl, inr, ⊎_elim, ◌↔◌}
use mathlib.Core.Bool.{Bool, true, false}
use mathlib.Core.List.Memᴰ.{head as here}
use mathlib.Core.List.Memᴰ.{tail as there}
use mathlib.Core.List.{List, [], ◌∷◌, Memᴰ as In}
use mathlib.Core.List.Memᴰ
use Prim.Native.Nat.{ℕ, suc, ◌<◌, ◌≤◌}
use native.Mathlib.Omega.{arith}
use lib.Dec.{eqb, ltb}
use borrow.Author.Tests.{eqb-true, eqb-false, ltb-true, ltb-false}
use Rattle.model.specs.Classes.{Word, put_name, seen_set}

-- where a name is put: it is there already, before a higher one, or after a lower one
data Put (x y : ℕ) (ys zs : List ℕ) : Type 0 where
  same : x ≡ y → zs ≡ y ∷ ys → Put x y ys zs
  before : x < y → zs ≡ x ∷ (y ∷ ys) → Put x y ys zs
  after : y < x → zs ≡ y ∷ put_name x ys → Put x y ys zs

put_cases : (x y : ℕ) (ys : List ℕ) → Put x y ys (put_name x (y ∷ ys))
unfolding put_name
put_cases x y ys = go (eqb x y) refl (ltb x y) refl
  where
    go :
        (b : Bool) → eqb x y ≡ b → (d : Bool) → ltb x y ≡ d →
        Put x y ys (elim b [ true ↦ y ∷ ys | false ↦ elim d [ true ↦ x ∷ (y ∷ ys) | false ↦ y ∷ put_name x ys ] ])
    go true e d f = same (eqb-true x y e) refl
    go false e true f = before (ltb-true x y f) refl
    go false e false f =
        let other : x ≡ y → ⊥ = eqb-false x y e in
        let low : y ≤ x = ltb-false x y f in
        after (omega arith) refl

-- the members after a name is put
pub put_in : (a x : ℕ) (ys : List ℕ) → In a (put_name x ys) → (a ≡ x) ⊎ In a ys
unfolding put_name
put_in a x [] m = Memᴰ.cases_cons m
put_in a x (y ∷ ys) m = go (put_cases x y ys) (put_in a x ys)
  where
    go : Put x y ys (put_name x (y ∷ ys)) → (In a (put_name x ys) → (a ≡ x) ⊎ In a ys) → (a ≡ x) ⊎ In a (y ∷ ys)
    go (same e f) again = inr (rw f at m)
    go (before h f) again = Memᴰ.cases_cons (rw f at m)
    go (after h f) again =
        ⊎_elim (λ e. inr (here e)) (λ n. ⊎_elim (λ e. inl e) (λ k. inr (there k)) (again n)) (Memᴰ.cases_cons (rw f at m))

pub in_put : (a x : ℕ) (ys : List ℕ) → (a ≡ x) ⊎ In a ys → In a (put_name x ys)
unfolding put_name
in_put a x [] m = ⊎_elim (λ e. here e) (λ n. there n) m
in_put a x (y ∷ ys) m = go (put_cases x y ys) (in_put a x ys) m
  where
    go :
        Put x y ys (put_name x (y ∷ ys)) → ((a ≡ x) ⊎ In a ys → In a (put_name x ys)) → (a ≡ x) ⊎ In a (y ∷ ys) →
        In a (put_name x (y ∷ ys))
    go (same e f) again (inl p) = rw f (here (p ∙ e))
    go (same e f) again (inr n) = rw f n
    go (before h f) again (inl p) = rw f (here p)
    go (before h f) again (inr n) = rw f (there n)
    go (after h f) again (inl p) = rw f (there (again (inl p)))
    go (after h f) again (inr n) =
        rw f (⊎_elim (λ e. here e) (λ k. there (again (inr k))) (Memᴰ.cases_cons n))

-- ascending strictly, from the given number on
abbrev Ascending : ℕ → List ℕ → Type 0
Ascending low [] = Unit {0}
Ascending low (x ∷ xs) = (low ≤ x) × Ascending (suc x) xs

ascending_in : (low a : ℕ) (xs : List ℕ) → Ascending low xs → In a xs → low ≤ a
ascending_in low a [] up m = absurd (Memᴰ.not-nil m)
ascending_in low a (x ∷ xs) up m =
    let first : low ≤ x = up.0 in
    ⊎_elim (λ e. omega arith) (λ n. omega (arith, ascending_in (suc x) a xs up.1 n)) (Memᴰ.cases_cons m)

put_ascending : (low x : ℕ) (ys : List ℕ) → low ≤ x → Ascending low ys → Ascending low (put_name x ys)
unfolding put_name
put_ascending low x [] h up = (h, tt)
put_ascending low x (y ∷ ys) h up = go (put_cases x y ys) (λ k. put_ascending (suc y) x ys k up.1)
  where
    go :
        Put x y ys (put_name x (y ∷ ys)) → (suc y ≤ x → Ascending (suc y) (put_name x ys)) →
        Ascending low (put_name x (y ∷ ys))
    go (same e f) again = subst (Ascending low) (sym f) up
    go (before k f) again = subst (Ascending low) (sym f) (h, (k, up.1))
    go (after k f) again = subst (Ascending low) (sym f) (up.0, again k)

seen_ascending : (w : Word) → Ascending 0 (seen_set w)
unfolding seen_set
seen_ascending [] = tt
seen_ascending (x ∷ w) = put_ascending 0 x (seen_set w) (omega arith) (seen_ascending w)

-- ascending lists of the same members are equal
ascending_ext :
    (low : ℕ) (xs ys : List ℕ) → Ascending low xs → Ascending low ys → ((a : ℕ) → In a xs → In a ys) →
    ((a : ℕ) → In a ys → In a xs) → xs ≡ ys
ascending_ext low [] [] up up' f g = refl
ascending_ext low [] (y ∷ ys) up up' f g = absurd (Memᴰ.not-nil (g y (here refl)))
ascending_ext low (x ∷ xs) [] up up' f g = absurd (Memᴰ.not-nil (f x (here refl)))
ascending_ext low (x ∷ xs) (y ∷ ys) up up' f g =
    let heads : x ≡ y = equal (Memᴰ.cases_cons (f x (here refl))) (Memᴰ.cases_cons (g y (here refl))) in
    let up-ys : Ascending (suc x) ys = subst (λ (z : ℕ). Ascending (suc z) ys) (sym heads) up'.1 in
    let rest : xs ≡ ys =
    ascending_ext (suc x) xs ys up.1 up-ys
    (λ a m. later a x y xs ys up.1 heads m (f a (there m)))
    (λ a m. later a y x ys xs up'.1 (sym heads) m (g a (there m))) in
    ap₂ (λ (z : ℕ) (zs : List ℕ). z ∷ zs) heads rest
  where
    equal : (x ≡ y) ⊎ In x ys → (y ≡ x) ⊎ In y xs → x ≡ y
    equal (inl e) m = e
    equal (inr n) (inl e) = sym e
    equal (inr n) (inr m) =
        let above : suc y ≤ x = ascending_in (suc y) x ys up'.1 n in
        let below : suc x ≤ y = ascending_in (suc x) y xs up.1 m in
        omega arith

    -- a member of one tail is in the other: it is not the other's head
    later : (a h k : ℕ) (hs ks : List ℕ) → Ascending (suc h) hs → h ≡ k → In a hs → In a (k ∷ ks) → In a ks
    later a h k hs ks high e m n =
        let above : suc h ≤ a = ascending_in (suc h) a hs high m in
        ⊎_elim (λ q. let z : ⊥ = omega arith in absurd z) (λ r. r) (Memᴰ.cases_cons n)

pub seen_in : (a : ℕ) (w : Word) → In a (seen_set w) ↔ In a w
unfolding seen_set
seen_in a [] = (λ m. m, λ m. m)
seen_in a (x ∷ w) = go (seen_in a w)
  where
    go : In a (seen_set w) ↔ In a w → In a (put_name x (seen_set w)) ↔ In a (x ∷ w)
    go rest = (
      λ m. ⊎_elim (λ e. here e) (λ n. there (rest.0 n)) (put_in a x (seen_set w) m),
      λ m. in_put a x (seen_set w) (⊎_elim (λ e. inl e) (λ n. inr (rest.1 n)) (Memᴰ.cases_cons m)),
    )

-- words of the same names have the same seen set
pub seen_same : (u w : Word) → ((a : ℕ) → In a u ↔ In a w) → seen_set u ≡ seen_set w
seen_same u w agree =
    ascending_ext 0 (seen_set u) (seen_set w) (seen_ascending u) (seen_ascending w)
    (λ a m. (seen_in a w).1 ((agree a).0 ((seen_in a u).0 m)))
    (λ a m. (seen_in a u).1 ((agree a).1 ((seen_in a w).0 m)))
