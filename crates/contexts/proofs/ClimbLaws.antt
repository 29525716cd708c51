-- Laws of climbing: one step more, one state more, all states, and what the climbs from states with the same last k names give: a
-- partition that the context rule joins too, and where k is h + 1, one that is closed. Assumes nothing.
use mathlib.Core.Path.{◌≡◌, refl, sym, ap, ◌∙◌, subst}
use mathlib.Core.Logic.{◌⊎◌, inl, inr, ⊎_elim}
use mathlib.Core.Bool.{Bool}
use mathlib.Core.List.{List}
use Prim.Native.Nat.{ℕ, zero, suc, ◌+◌, ◌<◌, ◌≤◌}
use native.Mathlib.Omega.{arith}
use lib.ListN.{get_or}
use Rattle.base.proofs.Tests.{eq_dec}
use Rattle.indexed.specs.Trees.{Arrays, SameSuffix, up}
use Rattle.indexed.specs.Partitions.{Refines, Labelled, ForkClosed, ContextClosed}
use Rattle.indexed.specs.Passes.{BySuffix, ContextJoined}
use Rattle.indexed.proofs.Suffixes.{up-below, up-parent, parent_below, climb_sound, suffix_cast}
use Rattle.indexed.proofs.Contexts.{suffix_closed, climbed_closed}
use Rattle.std.specs.Prelude.{MatchOption, Option, None, Some}
use Rattle.partition.specs.Forests.{JoinedRoots}
use Rattle.partition.specs.Joins.{JoinedTwo}
use Rattle.contexts.specs.Climbs.{Above, Upward, StepsJoined, ParentsJoined, ClimbedAt, ClimbedBelow}

-- what holds below i and at i holds below suc i
pub below_suc : (P : ℕ → Type 0) (i : ℕ) → ((v : ℕ) → v < i → P v) → P i → (v : ℕ) → v < suc i → P v
below_suc P i before here v h = ⊎_elim (λ e. subst P (sym e) here) (λ apart. before v (omega arith)) (eq_dec v i)

-- the roots of two groups that are made one, or of one group that they were already
pub joined-roots :
    {R : Type 0} {n : ℕ} {above above' : List ℕ} {v w : ℕ} (g : ℕ) (to from : R → ℕ) (roots : Option R) →
    MatchOption roots (JoinedRoots n above above' v w g g)
    (λ r. (to r < from r) × JoinedRoots n above above' v w (to r) (from r)) →
    (t f : ℕ) × JoinedRoots n above above' v w t f
joined-roots g to from None one = (g, g, one)
joined-roots g to from (Some r) two = (to r, from r, two.1)

-- i steps of the climb from v and w are done, and have come to a and b
pub record Climbing (n m : ℕ) (parents : List ℕ) (v w i a b : ℕ) (groups groups' : List ℕ) : Type 0 where
  pub at_a : a ≡ up parents i v
  pub at_b : b ≡ up parents i w
  pub a_below : a < n
  pub b_below : b < n
  pub labelled : Labelled n groups'
  pub coarser : Refines n groups groups'
  pub sound : (others : List ℕ) → Upward m parents others v w → Refines n groups others → Refines n groups' others
  pub steps : StepsJoined i parents groups' v w

-- the ancestors of v and its start are in one group, or the parents of both have one start
abbrev StepsOrNone : ℕ → List ℕ → List ℕ → List ℕ → ℕ → Type 0
StepsOrNone m parents starts groups v =
    StepsJoined m parents groups v (get_or starts v 0) ⊎ ParentsJoined parents starts v (get_or starts v 0)

-- the first i states have had their climbs, if any
pub record Climbs (n i m : ℕ) (parents starts groups groups' : List ℕ) : Type 0 where
  pub labelled : Labelled n groups'
  pub coarser : Refines n groups groups'
  pub sound :
      (others : List ℕ) → ((v : ℕ) → v < n → Upward m parents others v (get_or starts v 0)) → Refines n groups others →
      Refines n groups' others
  pub steps : (v : ℕ) → v < i → StepsOrNone m parents starts groups' v

module _ (n m : ℕ) (parents : List ℕ) (above : Above n parents) where
  pub climbing_none : (v w : ℕ) (groups : List ℕ) → v < n → w < n → Labelled n groups → Climbing n m parents v w 0 v w groups groups
  unfolding up
  climbing_none v w groups hv hw labelled =
      record {
        at_a = refl;
        at_b = refl;
        a_below = hv;
        b_below = hw;
        labelled = labelled;
        coarser = λ x y hx hy e. e;
        sound = λ others upward refines. refines;
        steps = λ k pos le. let z : ⊥ = omega arith in absurd z;
      }

  module _ (v w i a b x y : ℕ) (groups now-groups next-groups : List ℕ) (joined : Bool) (hv : v < n) (hw : w < n) (left : i < m)
      (x_is : x ≡ get_or parents a 0) (y_is : y ≡ get_or parents b 0) (climbing : Climbing n m parents v w i a b groups now-groups)
      (two : JoinedTwo n x y now-groups next-groups joined) where
    a-up : x ≡ up parents (suc i) v
    a-up = x_is ∙ ap (λ (x : ℕ). get_or parents x 0) climbing.at_a ∙ up-parent parents i v

    b-up : y ≡ up parents (suc i) w
    b-up = y_is ∙ ap (λ (x : ℕ). get_or parents x 0) climbing.at_b ∙ up-parent parents i w

    more-sound : (others : List ℕ) → Upward m parents others v w → Refines n groups others → Refines n next-groups others
    more-sound others upward refines =
        let one : get_or others x 0 ≡ get_or others y 0 =
        ap (λ (z : ℕ). get_or others z 0) a-up ∙ upward (suc i) left ∙ ap (λ (z : ℕ). get_or others z 0) (sym b-up) in
        two.sound others one (climbing.sound others upward refines)

    -- this step joins its ancestors, and keeps those of the steps before joined
    more-steps : StepsJoined (suc i) parents next-groups v w
    more-steps k pos le =
        ⊎_elim
        (λ e. subst (λ (d : ℕ). get_or next-groups (up parents d v) 0 ≡ get_or next-groups (up parents d w) 0) (sym e)
        (ap (λ (z : ℕ). get_or next-groups z 0) (sym a-up) ∙ two.together ∙ ap (λ (z : ℕ). get_or next-groups z 0) b-up))
        (λ apart. two.coarser (up parents k v) (up parents k w) (up-below n parents above.below k v hv)
        (up-below n parents above.below k w hw) (climbing.steps k pos (omega arith))) (eq_dec k (suc i))

    pub climbing-more : Climbing n m parents v w (suc i) x y groups next-groups
    climbing-more =
        record {
          at_a = a-up;
          at_b = b-up;
          a_below = rw x_is (above.below a climbing.a_below);
          b_below = rw y_is (above.below b climbing.b_below);
          labelled = two.labelled;
          coarser = λ p q hp hq e. two.coarser p q hp hq (climbing.coarser p q hp hq e);
          sound = more-sound;
          steps = more-steps;
        }

  module _ (starts : List ℕ) (starts-labelled : Labelled n starts) where
    start-below : (v : ℕ) → v < n → get_or starts v 0 < n
    start-below v h = omega (arith, starts-labelled.low v h)

    pub climbs-none : (groups : List ℕ) → Labelled n groups → Climbs n 0 m parents starts groups groups
    climbs-none groups labelled =
        record {
          labelled = labelled;
          coarser = λ x y hx hy e. e;
          sound = λ others upward refines. refines;
          steps = λ v h. let z : ⊥ = omega arith in absurd z;
        }

    pub climbs-more :
        (i : ℕ) (groups now-groups next-groups : List ℕ) → i < n → Climbs n i m parents starts groups now-groups →
        ClimbedAt n m parents starts i now-groups next-groups → Climbs n (suc i) m parents starts groups next-groups
    climbs-more i groups now-groups next-groups inside before (inl climbed) =
        record {
          labelled = climbed.labelled;
          coarser = λ x y hx hy e. climbed.coarser x y hx hy (before.coarser x y hx hy e);
          sound = λ others upward refines. climbed.sound others (upward i inside) (before.sound others upward refines);
          steps = below_suc (StepsOrNone m parents starts next-groups) i earlier (inl climbed.steps);
        }
      where
        earlier : (v : ℕ) → v < i → StepsOrNone m parents starts next-groups v
        earlier v h =
            let hv : v < n = omega arith in
            ⊎_elim
            (λ joined. inl (λ k pos le. climbed.coarser (up parents k v) (up parents k (get_or starts v 0))
            (up-below n parents above.below k v hv)
            (up-below n parents above.below k (get_or starts v 0) (start-below v hv)) (joined k pos le)))
            inr (before.steps v h)
    climbs-more i groups now-groups next-groups inside before (inr (alike, same)) =
        subst (λ (l : List ℕ). Climbs n (suc i) m parents starts groups l) (sym same)
        (record {
          labelled = before.labelled;
          coarser = before.coarser;
          sound = before.sound;
          steps = below_suc (StepsOrNone m parents starts now-groups) i before.steps (inr alike);
        })

    module _ (groups groups' : List ℕ) (joined : Refines n starts groups) (climbs : Climbs n n m parents starts groups groups') where
      start-parent : (v : ℕ) → v < n → get_or parents (get_or starts v 0) 0 < n
      start-parent v h = above.below (get_or starts v 0) (start-below v h)

      -- by induction on the step: where there was no climb, the first step leads to states of one start, and each other is a step
      -- of the parents' climbs
      all-steps :
          (k v : ℕ) → v < n → 0 < k → k ≤ m →
          get_or groups' (up parents k v) 0 ≡ get_or groups' (up parents k (get_or starts v 0)) 0
      unfolding up
      all-steps zero v h pos le = let z : ⊥ = omega arith in absurd z
      all-steps (suc zero) v h pos le =
          let a = get_or parents v 0 in
          let b = get_or parents (get_or starts v 0) 0 in
          let ha = above.below v h in
          let hb = start-parent v h in
          ⊎_elim (λ steps. steps 1 pos le) (λ alike. climbs.coarser a b ha hb (joined a b ha hb alike)) (climbs.steps v h)
      all-steps (suc (suc k)) v h pos le =
          let first = all-steps (suc k) (get_or parents v 0) (above.below v h) (omega arith) (omega arith) in
          let second =
          all-steps (suc k) (get_or parents (get_or starts v 0) 0) (start-parent v h) (omega arith) (omega arith) in
          ⊎_elim (λ steps. steps (suc (suc k)) pos le)
          (λ alike. first ∙ ap (λ (x : ℕ). get_or groups' (up parents (suc k) x) 0) alike ∙ sym second) (climbs.steps v h)

      pub climbs-all : ClimbedBelow n n m parents starts groups groups'
      climbs-all =
          record {
            labelled = climbs.labelled;
            coarser = climbs.coarser;
            sound = climbs.sound;
            steps = λ v h k. all-steps k v h;
          }

-- what the climbs from states with the same last k names give
module _ (n h m k : ℕ) (parents names starts groups : List ℕ) (arrays : Arrays n parents names) (pos : 0 < h) (sum_is_lem : h + m ≡ k)
    (by : BySuffix n k parents names starts) where
  pub tree-above : Above n parents
  tree-above = record { size = arrays.parents_size; below = parent_below n parents names arrays }

  module _ (others : List ℕ) (fork : ForkClosed n parents names others) (context : ContextClosed n h m parents names others) where
    like-upward :
        (v w : ℕ) → v < n → w < n → (v ≡ w) ⊎ SameSuffix parents names k v w → Upward m parents others v w
    like-upward v w hv hw (inl e) i le = ap (λ (x : ℕ). get_or others (up parents i x) 0) e
    like-upward v w hv hw (inr s) i le =
        climb_sound n parents names arrays h m i v w others pos fork context hv hw le
        (suffix_cast n parents names arrays k (h + m) v w (sym sum_is_lem) s)

    pub starts-refine : Refines n starts others
    unfolding up
    starts-refine v w hv hw e =
        let none : 0 ≤ m = omega arith in
        like-upward v w hv hw ((by.alike v w hv hw).0 e) 0 none

    pub starts-upward : (v : ℕ) → v < n → Upward m parents others v (get_or starts v 0)
    starts-upward v hv =
        let below : get_or starts v 0 < n = omega (arith, by.labelled.low v hv) in
        like-upward v (get_or starts v 0) hv below ((by.alike v (get_or starts v 0) hv below).0 (sym (by.labelled.own v hv)))

  module _ (climbed : ClimbedBelow n n m parents starts starts groups) where
    pub climbs-sound :
        (others : List ℕ) → ForkClosed n parents names others → ContextClosed n h m parents names others → Refines n groups others
    climbs-sound others fork context =
        climbed.sound others (starts-upward others fork context) (starts-refine others fork context)

    -- the ancestors of states with the same last k names are joined, from the first up to the m-th
    pub climbs-steps : (v w : ℕ) → v < n → w < n → SameSuffix parents names k v w → StepsJoined m parents groups v w
    climbs-steps v w hv hw s i pos le =
        climbed.steps v hv i pos le
        ∙ ap (λ (x : ℕ). get_or groups (up parents i x) 0) ((by.alike v w hv hw).1 (inr s))
        ∙ sym (climbed.steps w hw i pos le)

    pub climbs-join :
        0 < m → (v w : ℕ) → v < n → w < n → SameSuffix parents names k v w → ParentsJoined parents groups v w
    unfolding up
    climbs-join some v w hv hw s =
        let one : 1 ≤ m = omega arith in
        climbs-steps v w hv hw s 1 (omega arith) one

-- k = h + 1: the climbs leave nothing to join
pub climbs_closed :
    (n h k : ℕ) (parents names starts groups : List ℕ) → Arrays n parents names → 0 < h → h + 1 ≡ k →
    BySuffix n k parents names starts → ClimbedBelow n n 1 parents starts starts groups →
    ContextJoined n k h parents names groups
climbs_closed n h k parents names starts groups arrays pos sum_is_lem by climbed =
    subst (λ (j : ℕ). ContextJoined n j h parents names groups) sum_is_lem
    (climbed_closed n parents names arrays h starts groups pos by_one climbed.labelled climbed.coarser
    (climbs-join n h 1 (h + 1) parents names starts groups arrays pos refl by_one climbed (omega arith))
    (climbs-sound n h 1 (h + 1) parents names starts groups arrays pos refl by_one climbed))
  where
    by_one : BySuffix n (h + 1) parents names starts
    by_one = subst (λ (j : ℕ). BySuffix n j parents names starts) (sym sum_is_lem) by

-- k = h: the partition by last names leaves nothing to join
pub starts_closed :
    (n h k : ℕ) (parents names starts : List ℕ) → Arrays n parents names → 0 < h → h ≡ k → BySuffix n k parents names starts →
    ContextJoined n k h parents names starts
starts_closed n h k parents names starts arrays pos same by =
    subst (λ (j : ℕ). ContextJoined n j h parents names starts) same
    (suffix_closed n parents names arrays h starts pos (subst (λ (j : ℕ). BySuffix n j parents names starts) (sym same) by))
