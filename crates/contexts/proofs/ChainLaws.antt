-- Laws of the arcs on a chain: two steps down it, each of which may join; and that the arcs from a head or a link down are those
-- listed before it. Assumes nothing.
use mathlib.Core.Path.{◌≡◌, refl, sym, ap, ◌∙◌, subst}
use mathlib.Core.Logic.{◌⊎◌, inl, inr, ⊎_elim}
use mathlib.Core.Bool.{Bool, true, false, ◌||◌, true≢false, false≢true}
use mathlib.Core.List.{List}
use Prim.Native.Nat.{ℕ, zero, suc, ◌<◌, ◌≤◌}
use native.Mathlib.Omega.{arith}
use lib.ListN.{get_or}
use Rattle.base.proofs.Tests.{eq_dec}
use Rattle.indexed.specs.Chains.{Chained}
use Rattle.indexed.specs.Partitions.{sum}
use Rattle.contexts.specs.Sweeps.{link_down, OnChain, Falling}

-- two steps, each of which may join: nothing in neither, or the sum fell
pub both_none :
    (a b : Bool) (base groups groups' : List ℕ) → (a ≡ false → groups ≡ base) → (b ≡ false → groups' ≡ groups) →
    (a || b) ≡ false → groups' ≡ base
both_none true b base groups groups' first second e = absurd (true≢false e)
both_none false b base groups groups' first second e = second e ∙ first refl

pub both_some :
    (a b : Bool) (base groups groups' : List ℕ) → (a ≡ false → groups ≡ base) → (b ≡ false → groups' ≡ groups) →
    (a ≡ true → sum groups < sum base) → (b ≡ true → sum groups' < sum groups) → (a || b) ≡ true → sum groups' < sum base
both_some true true base groups groups' first second less less' e = omega (arith, less refl, less' refl)
both_some true false base groups groups' first second less less' e = omega (arith, less refl, ap sum (second refl))
both_some false true base groups groups' first second less less' e = omega (arith, less' refl, ap sum (first refl))
both_some false false base groups groups' first second less less' e = absurd (false≢true e)

-- ---- the states on a chain

module _ (links : List ℕ) where
  pub on_here : (at v : ℕ) → at ≡ suc v → OnChain links at v
  unfolding link_down
  on_here at v e = (0, e)

  pub on_later : (at v y : ℕ) → at ≡ suc v → OnChain links (get_or links v 0) y → OnChain links at y
  unfolding link_down
  on_later at v y e on = subst (λ (a : ℕ). OnChain links a y) (sym e) (suc on.0, on.1)

  pub on_split : (at v y : ℕ) → at ≡ suc v → OnChain links at y → (y ≡ v) ⊎ OnChain links (get_or links v 0) y
  unfolding link_down
  on_split at v y e on = go on.0 (subst (λ (a : ℕ). link_down links on.0 a ≡ suc y) e on.1)
    where
      go : (k : ℕ) → link_down links k (suc v) ≡ suc y → (y ≡ v) ⊎ OnChain links (get_or links v 0) y
      go zero here = inl (omega (arith, here))
      go (suc k) later = inr (k, later)

  pub on_none : (at y : ℕ) → at ≡ 0 → OnChain links at y → ⊥
  unfolding link_down
  on_none at y e on = go on.0 (subst (λ (a : ℕ). link_down links on.0 a ≡ suc y) e on.1)
    where
      go : (k : ℕ) → link_down links k 0 ≡ suc y → ⊥
      go zero here = omega (arith, here)
      go (suc k) later = omega (arith, later)

  -- from a head or a link of a list down are the arcs of the list that come before
  module _ {i : ℕ} {In : ℕ → ℕ → Type 0} {heads : List ℕ} (chained : Chained i In links heads) (b : ℕ) where
    abbrev pub From : ℕ → Type 0
    From at = (at ≤ i) × ((w : ℕ) → at ≡ suc w → In b w)

    pub from-head : From (get_or heads b 0)
    from-head = (chained.head_low b, λ w e. chained.head_in b w e)

    pub from-link : (v : ℕ) → v < i → In b v → From (get_or links v 0)
    from-link v inside in-v = (omega (arith, chained.link_low b v inside in-v), λ w e. chained.link_in b v w inside in-v e)

    from_next : (w : ℕ) → From (suc w) → From (get_or links w 0)
    from_next w from = from-link w (omega (arith, from.0)) (from.1 w refl)

    pub on-listed : (at : ℕ) → From at → (w : ℕ) → OnChain links at w → (w < i) × In b w
    unfolding link_down
    on-listed at from w on = go on.0 at from on.1
      where
        go : (k at : ℕ) → From at → link_down links k at ≡ suc w → (w < i) × In b w
        go zero at from e = (omega (arith, from.0, e), from.1 w e)
        go (suc k) zero from e = let z : ⊥ = omega (arith, e) in absurd z
        go (suc k) (suc u) from e = go k (get_or links u 0) (from_next u from) e

    pub listed-on : (u at : ℕ) → From at → u < at → In b u → OnChain links at u
    listed-on u at from under in-u = go at at (omega arith) from under
      where
        not-above : (at : ℕ) → (at ≤ u → ⊥) → u < at
        not-above at none = omega arith

        go : (fuel at : ℕ) → at ≤ fuel → From at → u < at → OnChain links at u
        go zero at enough from under = let z : ⊥ = omega arith in absurd z
        go (suc fuel) zero enough from under = let z : ⊥ = omega arith in absurd z
        go (suc fuel) (suc w) enough from under =
            let low-w : w < i = omega (arith, from.0) in
            let in-w : In b w = from.1 w refl in
            ⊎_elim (λ e. on_here (suc w) u (ap suc (sym e)))
            (λ apart. on_later (suc w) w u refl
            (go fuel (get_or links w 0) (omega (arith, chained.link_low b w low-w in-w)) (from_next w from)
            (not-above (get_or links w 0)
            (λ above. chained.link_last b w u low-w in-w above (omega arith) in-u)))) (eq_dec u w)

    pub chain-falls : (at : ℕ) → From at → Falling links at i
    chain-falls at from w on =
        let here = on-listed at from w on in
        (here.0, chained.link_low b w here.0 here.1)
