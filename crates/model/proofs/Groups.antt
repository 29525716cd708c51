-- Partitions by their nodes: the group of a node before and after a merge, members of groups, the different groups, accepting
-- groups. Assumes nothing.
use mathlib.Core.Path.{◌≡◌, refl, sym, ap, ◌∙◌, subst}
use mathlib.Core.Logic.{◌⊎◌, inl, inr, ⊎_elim}
use mathlib.Core.List.Memᴰ.{head as here}
use mathlib.Core.List.Memᴰ.{tail as there}
use mathlib.Core.List.{List, [], ◌∷◌, map, Memᴰ as In}
use mathlib.Core.List.Memᴰ
use Prim.Native.Nat.{ℕ, zero, suc, ◌≤◌, ◌<◌}
use native.Mathlib.Omega.{arith}
use lib.ListN.{length, length-map}
use Rattle.model.specs.Classes.{Word}
use Rattle.base.specs.Lists.{numbers_from, Distinct}
use Rattle.model.specs.Joinings.{apart, group_at, groups_in, merged_to, merged, member_of, group_accepts}
use Rattle.base.proofs.Tests.{Tells, tells_eqb, tells_and, tells_any, tells_by, tells_is_in, tells_has_row, decided, eq_dec}
use Rattle.base.proofs.Lists.{map-in, distinct_length, distinct_shorter}
use Rattle.base.proofs.Places.{length-numbers_from}
use Rattle.model.proofs.GroupCases.{group_at-first, group_at-later, first_or_later, no_groups, fits_rest, member_of-first}
use Rattle.model.proofs.GroupCases.{member_of-later, lower, lower_cases, told-either, merged-either, merged-neither}
use Rattle.model.proofs.GroupCases.{groups_in-kept, groups_in-new}
use Rattle.model.proofs.Notions.{Fits}

-- ---- the groups at the start

-- at the start there is a group for each node
pub apart_fits : (nodes : List Word) → Fits nodes (apart nodes)
unfolding apart
apart_fits nodes = record { lengths = length-numbers_from (length nodes) 0 }

-- numbered from i on, no node has a group below i
low_groups : (nodes : List Word) (i : ℕ) (w : Word) → In w nodes → i ≤ group_at nodes (numbers_from (length nodes) i) w
unfolding numbers_from
low_groups [] i w m = absurd (Memᴰ.not-nil m)
low_groups (node ∷ nodes) i w m = go (first_or_later node w nodes m) (λ n. low_groups nodes (suc i) w n)
  where
    go :
        (w ≡ node) ⊎ ((w ≡ node → ⊥) × In w nodes) →
        (In w nodes → suc i ≤ group_at nodes (numbers_from (length nodes) (suc i)) w) →
        i ≤ group_at (node ∷ nodes) (i ∷ numbers_from (length nodes) (suc i)) w
    go (inl e) again = omega (arith, group_at-first node nodes i (numbers_from (length nodes) (suc i)) w e)
    go (inr r) again = omega (arith, group_at-later node nodes i (numbers_from (length nodes) (suc i)) w r.0, again r.1)

-- and no two nodes have the same
single-from :
    (nodes : List Word) (i : ℕ) (u w : Word) → In u nodes → In w nodes →
    group_at nodes (numbers_from (length nodes) i) u ≡ group_at nodes (numbers_from (length nodes) i) w → u ≡ w
unfolding numbers_from
single-from [] i u w m n e = absurd (Memᴰ.not-nil m)
single-from (node ∷ nodes) i u w m n e =
    go (first_or_later node u nodes m) (first_or_later node w nodes n) (λ k l. single-from nodes (suc i) u w k l)
  where
    rest : List ℕ
    rest = numbers_from (length nodes) (suc i)

    -- the first node is alone in its group
    first_alone :
        (v x : Word) → v ≡ node → (x ≡ node → ⊥) → In x nodes →
        group_at (node ∷ nodes) (i ∷ rest) v ≡ group_at (node ∷ nodes) (i ∷ rest) x → ⊥
    first_alone v x p d k same =
        omega (
          arith,
          same,
          group_at-first node nodes i rest v p,
          group_at-later node nodes i rest x d,
          low_groups nodes (suc i) x k,
        )

    go :
        (u ≡ node) ⊎ ((u ≡ node → ⊥) × In u nodes) → (w ≡ node) ⊎ ((w ≡ node → ⊥) × In w nodes) →
        (In u nodes → In w nodes → group_at nodes rest u ≡ group_at nodes rest w → u ≡ w) → u ≡ w
    go (inl p) (inl q) again = p ∙ sym q
    go (inl p) (inr q) again = absurd (first_alone u w p q.0 q.1 e)
    go (inr p) (inl q) again = absurd (first_alone w u q p.0 p.1 (sym e))
    go (inr p) (inr q) again =
        again p.1 q.1 (sym (group_at-later node nodes i rest u p.0) ∙ e ∙ group_at-later node nodes i rest w q.0)

-- at the start no two nodes are in one group
pub apart-single :
    (nodes : List Word) (u w : Word) → In u nodes → In w nodes →
    group_at nodes (apart nodes) u ≡ group_at nodes (apart nodes) w → u ≡ w
unfolding apart
apart-single nodes u w m n e = single-from nodes 0 u w m n e

-- ---- merges

-- a merge leaves a group for each node
pub merged-fits : (nodes : List Word) (groups : List ℕ) (x y : ℕ) → Fits nodes groups → Fits nodes (merged x y groups)
unfolding merged
merged-fits nodes groups x y fits = record { lengths = length-map groups (merged_to x y) ∙ fits.lengths }

-- the group of a node after a merge
pub group_at-merged :
    (nodes : List Word) (groups : List ℕ) (x y : ℕ) (w : Word) → Fits nodes groups → In w nodes →
    group_at nodes (merged x y groups) w ≡ merged_to x y (group_at nodes groups w)
unfolding merged
group_at-merged [] groups x y w fits m = absurd (Memᴰ.not-nil m)
group_at-merged (node ∷ nodes) [] x y w fits m = absurd (no_groups node nodes fits)
group_at-merged (node ∷ nodes) (g ∷ groups) x y w fits m =
    go (first_or_later node w nodes m) (λ n. group_at-merged nodes groups x y w (fits_rest node nodes g groups fits) n)
  where
    rest : List ℕ
    rest = map (merged_to x y) groups

    go :
        (w ≡ node) ⊎ ((w ≡ node → ⊥) × In w nodes) →
        (In w nodes → group_at nodes rest w ≡ merged_to x y (group_at nodes groups w)) →
        group_at (node ∷ nodes) (merged_to x y g ∷ rest) w ≡ merged_to x y (group_at (node ∷ nodes) (g ∷ groups) w)
    go (inl e) again =
        group_at-first node nodes (merged_to x y g) rest w e ∙ sym (ap (merged_to x y) (group_at-first node nodes g groups w e))
    go (inr r) again =
        group_at-later node nodes (merged_to x y g) rest w r.0 ∙ again r.1
        ∙ sym (ap (merged_to x y) (group_at-later node nodes g groups w r.0))

-- what a group that a merge leaves was before: the two are one group, or each is x or y
pub merged_to-cases :
    (x y g h : ℕ) → merged_to x y g ≡ merged_to x y h →
    (g ≡ h) ⊎ (((g ≡ x) ⊎ (g ≡ y)) × ((h ≡ x) ⊎ (h ≡ y)))
merged_to-cases x y g h e = go (decided (told-either x y g)) (decided (told-either x y h))
  where
    of_two : (k : ℕ) → k ≡ lower x y → (k ≡ x) ⊎ (k ≡ y)
    of_two k p = ⊎_elim (λ q. inl (p ∙ q)) (λ q. inr (p ∙ q)) (lower_cases x y)

    go :
        ((g ≡ x) ⊎ (g ≡ y)) ⊎ ((g ≡ x) ⊎ (g ≡ y) → ⊥) →
        ((h ≡ x) ⊎ (h ≡ y)) ⊎ ((h ≡ x) ⊎ (h ≡ y) → ⊥) →
        (g ≡ h) ⊎ (((g ≡ x) ⊎ (g ≡ y)) × ((h ≡ x) ⊎ (h ≡ y)))
    go (inl p) (inl q) = inr (p, q)
    go (inl p) (inr q) = inr (p, of_two h (sym (merged-neither x y h q) ∙ sym e ∙ merged-either x y g p))
    go (inr p) (inl q) = inr (of_two g (sym (merged-neither x y g p) ∙ e ∙ merged-either x y h q), q)
    go (inr p) (inr q) = inl (sym (merged-neither x y g p) ∙ e ∙ merged-neither x y h q)

-- ---- groups are those of nodes

-- the group of a node is one of the groups
pub group_in :
    (nodes : List Word) (groups : List ℕ) (w : Word) → Fits nodes groups → In w nodes →
    In (group_at nodes groups w) groups
group_in [] groups w fits m = absurd (Memᴰ.not-nil m)
group_in (node ∷ nodes) [] w fits m = absurd (no_groups node nodes fits)
group_in (node ∷ nodes) (g ∷ groups) w fits m =
    ⊎_elim (λ e. here (group_at-first node nodes g groups w e))
    (λ r.
    let later = group_in nodes groups w (fits_rest node nodes g groups fits) r.1 in
    there (Memᴰ.cast (group_at-later node nodes g groups w r.0) later))
    (first_or_later node w nodes m)

-- a group's first state is a node of that group
pub member_of_lem :
    (nodes : List Word) (groups : List ℕ) (g : ℕ) → Distinct nodes → Fits nodes groups → In g groups →
    In (member_of nodes groups g) nodes × (group_at nodes groups (member_of nodes groups g) ≡ g)
member_of_lem [] [] g d fits m = absurd (Memᴰ.not-nil m)
member_of_lem [] (x ∷ groups) g d fits m = let e : suc (length groups) ≡ zero = fits.lengths in let z : ⊥ = omega arith in absurd z
member_of_lem (node ∷ nodes) [] g d fits m = absurd (no_groups node nodes fits)
member_of_lem (node ∷ nodes) (x ∷ groups) g d fits m =
    go (eq_dec g x) (Memᴰ.cases_cons m) (λ n. member_of_lem nodes groups g d.1 (fits_rest node nodes x groups fits) n)
  where
    MemberOf : Word → Type 0
    MemberOf w = In w (node ∷ nodes) × (group_at (node ∷ nodes) (x ∷ groups) w ≡ g)

    go :
        (g ≡ x) ⊎ (g ≡ x → ⊥) → (g ≡ x) ⊎ In g groups →
        (In g groups → In (member_of nodes groups g) nodes × (group_at nodes groups (member_of nodes groups g) ≡ g)) →
        MemberOf (member_of (node ∷ nodes) (x ∷ groups) g)
    go (inl e) n again =
        subst MemberOf (sym (member_of-first node nodes x groups g e))
        (here refl, group_at-first node nodes x groups node refl ∙ sym e)
    go (inr k) (inl e) again = absurd (k e)
    go (inr k) (inr n) again =
        let r = again n in
        subst MemberOf (sym (member_of-later node nodes x groups g k))
        (there r.0, group_at-later node nodes x groups (member_of nodes groups g) (λ p. d.0 (Memᴰ.cast (sym p) r.0)) ∙ r.1)

-- a group accepts exactly when one of its nodes is a row
pub tells_accepts :
    (rows nodes : List Word) (groups : List ℕ) (g : ℕ) →
    Tells (group_accepts rows nodes groups g) ((w : Word) × In w nodes × (group_at nodes groups w ≡ g) × In w rows)
unfolding group_accepts
tells_accepts rows nodes groups g =
    tells_by (tells_any (λ w. tells_and (tells_eqb (group_at nodes groups w) g) (tells_has_row w rows)) nodes)
    (λ h. (h.0, h.1, h.2.0, h.2.1))
    (λ h. (h.0, h.1, (h.2, h.3)))

-- ---- the different groups

-- the different groups are the groups, each once
pub in_groups_in : (groups : List ℕ) (g : ℕ) → In g groups → In g (groups_in groups)
in_groups_in [] g m = absurd (Memᴰ.not-nil m)
in_groups_in (x ∷ groups) g m =
    go (decided (tells_is_in x (groups_in groups)))
    (⊎_elim (λ e. inl e) (λ n. inr (in_groups_in groups g n)) (Memᴰ.cases_cons m))
  where
    go :
        In x (groups_in groups) ⊎ (In x (groups_in groups) → ⊥) → (g ≡ x) ⊎ In g (groups_in groups) →
        In g (groups_in (x ∷ groups))
    go (inl k) (inl e) = subst (In g) (sym (groups_in-kept x groups k)) (Memᴰ.cast e k)
    go (inl k) (inr n) = subst (In g) (sym (groups_in-kept x groups k)) n
    go (inr k) (inl e) = subst (In g) (sym (groups_in-new x groups k)) (here e)
    go (inr k) (inr n) = subst (In g) (sym (groups_in-new x groups k)) (there n)

pub groups_in-in : (groups : List ℕ) (g : ℕ) → In g (groups_in groups) → In g groups
unfolding groups_in
groups_in-in [] g m = absurd (Memᴰ.not-nil m)
groups_in-in (x ∷ groups) g m =
    ⊎_elim (λ k. there (groups_in-in groups g (subst (In g) (groups_in-kept x groups k) m)))
    (λ k. ⊎_elim (λ e. here e) (λ n. there (groups_in-in groups g n))
    (Memᴰ.cases_cons (subst (In g) (groups_in-new x groups k) m)))
    (decided (tells_is_in x (groups_in groups)))

pub groups_in-distinct : (groups : List ℕ) → Distinct (groups_in groups)
unfolding groups_in
groups_in-distinct [] = tt
groups_in-distinct (x ∷ groups) = go (decided (tells_is_in x (groups_in groups))) (groups_in-distinct groups)
  where
    go : In x (groups_in groups) ⊎ (In x (groups_in groups) → ⊥) → Distinct (groups_in groups) → Distinct (groups_in (x ∷ groups))
    go (inl k) again = subst (λ (l : List ℕ). Distinct l) (sym (groups_in-kept x groups k)) again
    go (inr k) again = subst (λ (l : List ℕ). Distinct l) (sym (groups_in-new x groups k)) (k, again)

-- so they are no more than the groups listed
pub groups_in-length : (groups : List ℕ) → length (groups_in groups) ≤ length groups
groups_in-length groups = distinct_length (groups_in groups) groups (groups_in-distinct groups) (λ g m. groups_in-in groups g m)

-- a merge of two groups leaves groups that were there
merged-in : (groups : List ℕ) (x y : ℕ) → In x groups → In y groups → (g : ℕ) → In g (merged x y groups) → In g groups
unfolding merged
merged-in groups x y m n g k =
    let r = map-in (merged_to x y) groups k in
    ⊎_elim (λ p. Memᴰ.cast (r.2 ∙ merged-either x y r.0 p) lower_in)
    (λ p. Memᴰ.cast (r.2 ∙ merged-neither x y r.0 p) r.1)
    (decided (told-either x y r.0))
  where
    lower_in : In (lower x y) groups
    lower_in = ⊎_elim (λ e. Memᴰ.cast e m) (λ e. Memᴰ.cast e n) (lower_cases x y)

-- and of the two only the lower one
merged-out :
    (groups : List ℕ) (x y g : ℕ) → (g ≡ x) ⊎ (g ≡ y) → (g ≡ lower x y → ⊥) → In g (merged x y groups) → ⊥
unfolding merged
merged-out groups x y g h d k =
    let r = map-in (merged_to x y) groups k in
    ⊎_elim (λ p. d (r.2 ∙ merged-either x y r.0 p))
    (λ p. p (subst (λ z. (z ≡ x) ⊎ (z ≡ y)) (r.2 ∙ merged-neither x y r.0 p) h))
    (decided (told-either x y r.0))

-- a merge of two different groups leaves fewer
pub merged-fewer :
    (groups : List ℕ) (x y : ℕ) → In x groups → In y groups → (x ≡ y → ⊥) →
    length (groups_in (merged x y groups)) < length (groups_in groups)
merged-fewer groups x y m n d =
    ⊎_elim (λ e. fewer y (inr refl) (λ p. d (sym (p ∙ e))) n) (λ e. fewer x (inl refl) (λ p. d (p ∙ e)) m) (lower_cases x y)
  where
    fewer :
        (g : ℕ) → (g ≡ x) ⊎ (g ≡ y) → (g ≡ lower x y → ⊥) → In g groups →
        length (groups_in (merged x y groups)) < length (groups_in groups)
    fewer g h k l =
        distinct_shorter (groups_in (merged x y groups)) (groups_in groups) g (groups_in-distinct (merged x y groups))
        (λ z w. in_groups_in groups z (merged-in groups x y m n z (groups_in-in (merged x y groups) z w)))
        (in_groups_in groups g l)
        (λ w. merged-out groups x y g h k (groups_in-in (merged x y groups) g w))
