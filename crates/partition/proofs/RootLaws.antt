-- Laws of two roots: found one after the other; and what their join says of the groups of both states.
-- Assumes nothing.
use mathlib.Core.Path.{◌≡◌, sym, ap, ap₂, ◌∙◌, subst, subst₂}
use mathlib.Core.Logic.{⊎_elim}
use mathlib.Core.Bool.{Bool, true, false}
use mathlib.Core.List.{List}
use Prim.Native.Nat.{ℕ, ◌<◌}
use native.Mathlib.Omega.{arith}
use lib.ListN.{length, get_or}
use Rattle.base.proofs.Tests.{eq_dec}
use Rattle.indexed.specs.Partitions.{Labelled}
use Rattle.indexed.specs.Passes.{relabelled}
use Rattle.partition.specs.Joins.{JoinedTwo}
use Rattle.partition.specs.Forests.{Forest, root_of, roots_of, FoundRoot, JoinedRoots}
use Rattle.partition.proofs.ForestLaws.{root_root, roots_at, roots_labelled}
use Rattle.partition.proofs.JoinLaws.{joined_none, joined_first, joined_flip}

-- a root found first is a root still when a second one has been found
pub first_own :
    {n : ℕ} {above above₁ above₂ : List ℕ} {v w x y : ℕ} → FoundRoot n above above₁ v x →
    FoundRoot (length above₁) above₁ above₂ w y → v < n → get_or above₂ x 0 ≡ x
first_own {n} {above} {above₁} {above₂} {v} {w} {x} {y} one two inside =
    subst (λ (r : ℕ). get_or above₂ r 0 ≡ r) (sym root) (root_root (length above₁) above₂ two.forest v inside')
  where
    inside' : v < length above₁
    inside' = omega (arith, one.forest.size)

    root : x ≡ root_of above₂ v
    root =
        one.is_root ∙ ap (λ (l : List ℕ). get_or l v 0) (sym (two.kept ∙ one.kept))
        ∙ roots_at (length above₁) above₂ two.forest v inside'

-- the partition by roots is that of two groups made one
pub roots_two :
    (n : ℕ) (above above' : List ℕ) (v w to from : ℕ) → Forest n above → v < n → w < n →
    JoinedRoots n above above' v w to from → (joined : Bool) × JoinedTwo n v w (roots_of above) (roots_of above') joined
roots_two n above above' v w to from forest hv hw roots =
    ⊎_elim (λ same. (false, one_group same))
    (λ apart. (
      true,
      ⊎_elim (two-groups v w hv hw (omega (arith, roots.order)))
          (λ e. joined_flip n v w (roots_of above) (roots_of above') true (two-groups w v hw hv (omega (arith, roots.order)) e))
          roots.ends,
    ))
    (eq_dec to from)
  where
    labelled : Labelled n (roots_of above)
    labelled = roots_labelled n above forest

    one : to ≡ from → get_or (roots_of above) v 0 ≡ get_or (roots_of above) w 0
    one same = ⊎_elim (λ e. sym e.0 ∙ same ∙ e.1) (λ e. sym e.1 ∙ sym same ∙ e.0) roots.ends

    one_group : to ≡ from → JoinedTwo n v w (roots_of above) (roots_of above') false
    one_group same =
        subst (λ (l : List ℕ). JoinedTwo n v w (roots_of above) l false) (sym (roots.kept same))
        (joined_none n v w (roots_of above) labelled (one same))

    -- a has the lower root
    two-groups :
        (a b : ℕ) → a < n → b < n → to < from → (to ≡ get_or (roots_of above) a 0) × (from ≡ get_or (roots_of above) b 0) →
        JoinedTwo n a b (roots_of above) (roots_of above') true
    two-groups a b ha hb lower e =
        joined_first n a b (roots_of above) (roots_of above') labelled ha hb (subst₂ ◌<◌ e.0 e.1 lower)
        (roots.joined lower ∙ ap₂ (λ (x y : ℕ). relabelled x y (roots_of above)) e.0 e.1)
