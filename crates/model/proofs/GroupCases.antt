-- The definitions of groups case by case: the group of the first node and of a later one, the first member, the group that a
-- merge leaves, and the different groups with one more in front. Assumes nothing.
use mathlib.Core.Path.{◌≡◌, refl, ap}
use mathlib.Core.Logic.{◌⊎◌, inl, inr}
use mathlib.Core.Bool.{Bool, true, false, ◌||◌, cond}
use mathlib.Core.List.Memᴰ
use mathlib.Core.List.{List, [], ◌∷◌, Memᴰ as In}
use Prim.Native.Nat.{ℕ, zero, suc}
use native.Mathlib.Omega.{arith}
use lib.Dec.{eqb, ltb}
use lib.ListN.{length}
use Rattle.model.specs.Classes.{Word}
use Rattle.model.specs.Joinings.{group_at, groups_in, merged_to, member_of}
use Rattle.base.proofs.Tests.{Tells, tells_eqb, tells_same, tells_or, tells_is_in, told-false, word_dec}
use Rattle.model.proofs.Notions.{Fits}

-- ---- one node after another

-- the group of the first node
pub group_at-first :
    (node : Word) (nodes : List Word) (g : ℕ) (groups : List ℕ) (w : Word) → w ≡ node →
    group_at (node ∷ nodes) (g ∷ groups) w ≡ g
unfolding group_at
group_at-first node nodes g groups w e =
    ap (λ (b : Bool). elim b as (λ z. ℕ) [ true ↦ g | false ↦ group_at nodes groups w ]) ((tells_same w node).test e)

-- the group of another node
pub group_at-later :
    (node : Word) (nodes : List Word) (g : ℕ) (groups : List ℕ) (w : Word) → (w ≡ node → ⊥) →
    group_at (node ∷ nodes) (g ∷ groups) w ≡ group_at nodes groups w
unfolding group_at
group_at-later node nodes g groups w d =
    ap (λ (b : Bool). elim b as (λ z. ℕ) [ true ↦ g | false ↦ group_at nodes groups w ]) (told-false (tells_same w node) d)

-- a node of a longer list of nodes is the first, or is another one and stands later
pub first_or_later : (node w : Word) (nodes : List Word) → In w (node ∷ nodes) → (w ≡ node) ⊎ ((w ≡ node → ⊥) × In w nodes)
first_or_later node w nodes m = go (word_dec w node) (Memᴰ.cases_cons m)
  where
    go : (w ≡ node) ⊎ (w ≡ node → ⊥) → (w ≡ node) ⊎ In w nodes → (w ≡ node) ⊎ ((w ≡ node → ⊥) × In w nodes)
    go (inl e) n = inl e
    go (inr d) (inl e) = absurd (d e)
    go (inr d) (inr n) = inr (d, n)

-- nodes without groups do not fit
pub no_groups : (node : Word) (nodes : List Word) → Fits (node ∷ nodes) [] → ⊥
no_groups node nodes fits = let e : zero ≡ suc (length nodes) = fits.lengths in omega arith

-- after the first node and its group
pub fits_rest : (node : Word) (nodes : List Word) (g : ℕ) (groups : List ℕ) → Fits (node ∷ nodes) (g ∷ groups) → Fits nodes groups
fits_rest node nodes g groups fits =
    let e : suc (length groups) ≡ suc (length nodes) = fits.lengths in
    record { lengths = omega arith }

-- ---- the first member

-- the first node is it, if the group is its own
pub member_of-first :
    (w : Word) (nodes : List Word) (x : ℕ) (groups : List ℕ) (g : ℕ) → g ≡ x → member_of (w ∷ nodes) (x ∷ groups) g ≡ w
unfolding member_of
member_of-first w nodes x groups g e =
    ap (λ (b : Bool). elim b as (λ z. Word) [ true ↦ w | false ↦ member_of nodes groups g ]) ((tells_eqb g x).test e)

-- else a later one
pub member_of-later :
    (w : Word) (nodes : List Word) (x : ℕ) (groups : List ℕ) (g : ℕ) → (g ≡ x → ⊥) →
    member_of (w ∷ nodes) (x ∷ groups) g ≡ member_of nodes groups g
unfolding member_of
member_of-later w nodes x groups g d =
    ap (λ (b : Bool). elim b as (λ z. Word) [ true ↦ w | false ↦ member_of nodes groups g ]) (told-false (tells_eqb g x) d)

-- ---- the group that a merge leaves

-- the one of two numbers that stays
pub lower : ℕ → ℕ → ℕ
lower x y = cond (ltb x y) x y

-- it is one of the two
pub lower_cases : (x y : ℕ) → (lower x y ≡ x) ⊎ (lower x y ≡ y)
unfolding lower
lower_cases x y = go (ltb x y)
  where
    go : (b : Bool) → (cond b x y ≡ x) ⊎ (cond b x y ≡ y)
    go true = inl refl
    go false = inr refl

-- a group is one of the two merged
pub told-either : (x y g : ℕ) → Tells (eqb g x || eqb g y) ((g ≡ x) ⊎ (g ≡ y))
told-either x y g = tells_or (tells_eqb g x) (tells_eqb g y)

-- if so it becomes the lower one
pub merged-either : (x y g : ℕ) → (g ≡ x) ⊎ (g ≡ y) → merged_to x y g ≡ lower x y
unfolding merged_to lower
merged-either x y g h = ap (λ (b : Bool). cond b (cond (ltb x y) x y) g) ((told-either x y g).test h)

-- if not it stays
pub merged-neither : (x y g : ℕ) → ((g ≡ x) ⊎ (g ≡ y) → ⊥) → merged_to x y g ≡ g
unfolding merged_to
merged-neither x y g h = ap (λ (b : Bool). cond b (cond (ltb x y) x y) g) (told-false (told-either x y g) h)

-- ---- the different groups

-- what the different groups are when one group more comes in front
pub groups_in-kept : (g : ℕ) (groups : List ℕ) → In g (groups_in groups) → groups_in (g ∷ groups) ≡ groups_in groups
unfolding groups_in
groups_in-kept g groups m =
    ap (λ (b : Bool). cond b (groups_in groups) (g ∷ groups_in groups)) ((tells_is_in g (groups_in groups)).test m)

pub groups_in-new : (g : ℕ) (groups : List ℕ) → (In g (groups_in groups) → ⊥) → groups_in (g ∷ groups) ≡ g ∷ groups_in groups
unfolding groups_in
groups_in-new g groups d =
    ap (λ (b : Bool). cond b (groups_in groups) (g ∷ groups_in groups)) (told-false (tells_is_in g (groups_in groups)) d)
