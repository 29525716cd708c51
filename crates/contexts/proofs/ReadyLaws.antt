-- Where the links of the arcs lead, when the far ones are linked too: from each arc with a class to near arcs of this class, from
-- a far arc to all of them, from a near one to those before it. Assumes nothing.
use mathlib.Core.Path.{◌≡◌, sym, ap, ◌∙◌, subst}
use mathlib.Core.Logic.{◌⊎◌, inl, inr}
use mathlib.Core.List.{List}
use Prim.Native.Nat.{ℕ, ◌<◌, ◌≤◌}
use native.Mathlib.Omega.{arith}
use lib.ListN.{get_or}
use Rattle.base.proofs.Tests.{eq_dec, decided, tells_ltb}
use Rattle.contexts.specs.Distances.{distance_of}
use Rattle.contexts.specs.Sweeps.{Listed, Near, Far, ListedNear, ArcsReady, OnChain, Falling}
use Rattle.contexts.proofs.ChainLaws.{on_none, From, from-head, from-link, on-listed, listed-on, chain-falls}

module _ {n j : ℕ} {parents names classes groups dist next links heads : List ℕ}
    (arcs : ArcsReady n j parents names classes groups dist next links heads) where
  -- an arc with others on its chain has a class
  pub paired-listed :
      (v w : ℕ) → v < n → OnChain links (get_or links v 0) w → Listed parents names classes groups (get_or classes v 0) v
  paired-listed v w inside on = go (eq_dec (get_or links v 0) 0)
    where
      go :
          (get_or links v 0 ≡ 0) ⊎ (get_or links v 0 ≡ 0 → ⊥) → Listed parents names classes groups (get_or classes v 0) v
      go (inl none) = absurd (on_none links (get_or links v 0) w none on)
      go (inr some) = arcs.listed v inside (omega arith)

  -- a far arc links to the head of its class
  far_link :
      (b v : ℕ) → v < n → Listed parents names classes groups b v → Far j groups dist v → get_or links v 0 ≡ get_or heads b 0
  far_link b v inside listed far =
      let own : Listed parents names classes groups (get_or classes v 0) v =
      subst (λ (c : ℕ). Listed parents names classes groups c v) (sym listed.class_is) listed in
      arcs.far v inside own far ∙ ap (λ (c : ℕ). get_or heads c 0) listed.class_is

  -- the link of an arc leads down the chain of its class
  link_from :
      (b v : ℕ) → v < n → Listed parents names classes groups b v → From links arcs.chained b (get_or links v 0)
  link_from b v inside listed = go (decided (tells_ltb (distance_of groups dist v) j))
    where
      go : Near j groups dist v ⊎ (Near j groups dist v → ⊥) → From links arcs.chained b (get_or links v 0)
      go (inl near) = from-link links arcs.chained b v inside (record { listed = listed; near = near })
      go (inr not-near) =
          subst (λ (at : ℕ). From links arcs.chained b at) (sym (far_link b v inside listed (omega arith)))
          (from-head links arcs.chained b)

  -- from a far arc to all near ones of its class, from a near one to those before it
  pub link_on :
      (b v w : ℕ) → v < n → w < n → Listed parents names classes groups b v →
      ListedNear j parents names classes groups dist b w → Far j groups dist v ⊎ (w < v) → OnChain links (get_or links v 0) w
  link_on b v w hv hw in-v in-w which =
      listed-on links arcs.chained b w (get_or links v 0) (link_from b v hv in-v)
      (go which (decided (tells_ltb (distance_of groups dist v) j))) in-w
    where
      go : Far j groups dist v ⊎ (w < v) → Near j groups dist v ⊎ (Near j groups dist v → ⊥) → w < get_or links v 0
      go which (inr not-near) =
          let last : get_or heads b 0 ≤ w → ⊥ = λ above. arcs.chained.head_last b w hw above in-w in
          omega (arith, far_link b v hv in-v (omega arith))
      go (inl far) (inl near) = let z : ⊥ = omega arith in absurd z
      go (inr earlier) (inl near) =
          let last : get_or links v 0 ≤ w → ⊥ =
          λ above. arcs.chained.link_last b v w hv (record { listed = in-v; near = near }) above earlier in-w in
          omega arith

  -- what is on the chain of an arc is near and of its class
  pub paired_near :
      (v w : ℕ) → v < n → OnChain links (get_or links v 0) w →
      (w < n) × ListedNear j parents names classes groups dist (get_or classes v 0) w
  paired_near v w inside on =
      on-listed links arcs.chained (get_or classes v 0) (get_or links v 0)
      (link_from (get_or classes v 0) v inside (paired-listed v w inside on)) w on

  -- so all that is on the chain of an arc is a state's arc, and links down
  pub arcs_fall : (v : ℕ) → v < n → Falling links (get_or links v 0) n
  arcs_fall v inside w on =
      chain-falls links arcs.chained (get_or classes v 0) (get_or links v 0)
      (link_from (get_or classes v 0) v inside (paired-listed v w inside on)) w on
