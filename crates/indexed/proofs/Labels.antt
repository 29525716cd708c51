-- A partition of n states by number from a test that tells an equivalence: each state goes by the first state that it is
-- equivalent to. Assumes nothing.
use mathlib.Core.Path.{◌≡◌, refl, sym, ap, ap₂, ◌∙◌}
use mathlib.Core.Logic.{◌↔◌}
use mathlib.Core.Bool.{Bool, true, false, true≢false}
use mathlib.Core.List.{List, [], ◌∷◌}
use Prim.Native.Nat.{ℕ, zero, suc, ◌+◌, ◌<◌, ◌≤◌}
use native.Mathlib.Nat.{not-suc-le-zero}
use native.Mathlib.Omega.{arith}
use lib.ListN.{get_or}
use Rattle.base.proofs.Tests.{Tells}

-- the first of n numbers from i that passes the test
first : (ℕ → Bool) → ℕ → ℕ → ℕ
first test zero i = i
first test (suc n) i = elim (test i) [ true ↦ i | false ↦ first test n (suc i) ]

-- a number that passes the test is found, or an earlier one
first_found :
    (test : ℕ → Bool) (n i u : ℕ) → i ≤ u → u < i + n → test u ≡ true →
    (first test n i ≤ u) × (test (first test n i) ≡ true)
unfolding first
first_found test zero i u low high hit = let z : ⊥ = omega arith in absurd z
first_found test (suc n) i u low high hit = go (test i) refl (first_found test n (suc i) u)
  where
    go :
        (b : Bool) → test i ≡ b →
        (suc i ≤ u → u < suc i + n → test u ≡ true → (first test n (suc i) ≤ u) × (test (first test n (suc i)) ≡ true)) →
        (elim b [ true ↦ i | false ↦ first test n (suc i) ] ≤ u)
        × (test (elim b [ true ↦ i | false ↦ first test n (suc i) ]) ≡ true)
    go true e again = (low, e)
    go false e again =
        let other : i ≡ u → ⊥ = λ q. true≢false (sym hit ∙ ap test (sym q) ∙ e) in
        again (omega arith) (omega arith) hit

first_same :
    (test test' : ℕ → Bool) (n i : ℕ) → ((u : ℕ) → u < i + n → test u ≡ test' u) → first test n i ≡ first test' n i
unfolding first
first_same test test' zero i agree = refl
first_same test test' (suc n) i agree =
    let here : test i ≡ test' i = agree i (omega arith) in
    let rest : first test n (suc i) ≡ first test' n (suc i) = first_same test test' n (suc i) (λ u h. agree u (omega arith)) in
    ap₂ (λ (b : Bool) (m : ℕ). elim b as (λ x. ℕ) [ true ↦ i | false ↦ m ]) here rest

-- the values at n numbers from i on
listed : (ℕ → ℕ) → ℕ → ℕ → List ℕ
listed f zero i = []
listed f (suc n) i = f i ∷ listed f n (suc i)

listed_at : (f : ℕ → ℕ) (n i v : ℕ) → v < n → get_or (listed f n i) v 0 ≡ f (i + v)
unfolding listed
listed_at f zero i v h = absurd (not-suc-le-zero h)
listed_at f (suc n) i zero h =
    let sum_is : i ≡ i + 0 = omega arith in
    ap f sum_is
listed_at f (suc n) i (suc v) h =
    let sum_is : suc i + v ≡ i + suc v = omega arith in
    listed_at f n (suc i) v (omega arith) ∙ ap f sum_is

-- what the test tells is an equivalence
pub record Equivalence (test : ℕ → ℕ → Bool) (R : ℕ → ℕ → Type 0) : Type 0 where
  pub told : (v w : ℕ) → Tells (test v w) (R v w)
  pub reflexive : (v : ℕ) → R v v
  pub symmetric : (v w : ℕ) → R v w → R w v
  pub transitive : (u v w : ℕ) → R u v → R v w → R u w

-- for each of n states the first that it is equivalent to
pub labels : (ℕ → ℕ → Bool) → ℕ → List ℕ
labels test n = listed (λ (v : ℕ). first (test v) n 0) n 0

module _ (n : ℕ) (test : ℕ → ℕ → Bool) (R : ℕ → ℕ → Type 0) (equivalence : Equivalence test R) where
  label_at : (v : ℕ) → v < n → get_or (labels test n) v 0 ≡ first (test v) n 0
  unfolding labels
  label_at v h =
      let sum_is : 0 + v ≡ v = omega arith in
      listed_at (λ (u : ℕ). first (test u) n 0) n 0 v h ∙ ap (λ (u : ℕ). first (test u) n 0) sum_is

  -- a state's label is a state that comes no later and is equivalent to it
  label_found : (v : ℕ) → v < n → (get_or (labels test n) v 0 ≤ v) × R v (get_or (labels test n) v 0)
  label_found v h =
      let itself : test v v ≡ true = (equivalence.told v v).test (equivalence.reflexive v) in
      let found = first_found (test v) n 0 v (omega arith) (omega arith) itself in
      rw (label_at v h) (found.0, (equivalence.told v (first (test v) n 0)).fact found.1)

  both : (a b : Bool) → (a ≡ true → b ≡ true) → (b ≡ true → a ≡ true) → a ≡ b
  both true b f g = sym (f refl)
  both false true f g = g refl
  both false false f g = refl

  pub labels_alike : (v w : ℕ) → v < n → w < n → (get_or (labels test n) v 0 ≡ get_or (labels test n) w 0) ↔ R v w
  labels_alike v w hv hw = (there, back)
    where
      there : get_or (labels test n) v 0 ≡ get_or (labels test n) w 0 → R v w
      there e =
          let at-v : R v (get_or (labels test n) v 0) = (label_found v hv).1 in
          let at-w : R w (get_or (labels test n) v 0) = rw e (label_found w hw).1 in
          equivalence.transitive v (get_or (labels test n) v 0) w at-v
          (equivalence.symmetric w (get_or (labels test n) v 0) at-w)

      back : R v w → get_or (labels test n) v 0 ≡ get_or (labels test n) w 0
      back r =
          let back-r : R w v = equivalence.symmetric v w r in
          let agree : (u : ℕ) → u < 0 + n → test v u ≡ test w u = λ u h.
          both (test v u) (test w u)
          (λ t. (equivalence.told w u).test (equivalence.transitive w v u back-r ((equivalence.told v u).fact t)))
          (λ t. (equivalence.told v u).test (equivalence.transitive v w u r ((equivalence.told w u).fact t))) in
          label_at v hv ∙ first_same (test v) (test w) n 0 agree ∙ sym (label_at w hw)
