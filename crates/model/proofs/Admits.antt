-- A table admits a word exactly when the joined automaton goes by it from the root's group to an accepting group. In order: the
-- target by a name among renumbered arcs, the state of a group met, the walk by one name and by a word. Assumes nothing.
use mathlib.Core.Path.{◌≡◌, refl, sym, ap, ◌∙◌, subst}
use mathlib.Core.Logic.{◌⊎◌, inl, inr, ⊎_elim}
use mathlib.Core.Bool.{Bool, true, false, ◌&&◌}
use mathlib.Core.List.Memᴰ.{head as here}
use mathlib.Core.List.Memᴰ.{tail as there}
use mathlib.Core.List.{List, [], ◌∷◌, Memᴰ as In}
use mathlib.Core.List.Memᴰ
use Prim.Native.Nat.{ℕ, suc, ◌+◌, ◌-◌, ◌<◌}
use native.Mathlib.Omega.{arith}
use lib.Dec.{eqb, eqb-suc-zero}
use lib.ListN.{length, get_or}
use borrow.Author.Tests.{eq-eqb, ne_eqb}
use Rattle.model.specs.Classes.{Word}
use Rattle.base.specs.Lists.{index_in}
use Rattle.model.specs.Tables.{Arc, arc, State, empty_state, target_in, Walk, walk_at, walk_from, walk, reached_state, admits}
use Rattle.model.specs.Joinings.{Transition, transition, transitions_of, group_at, group_accepts, Deterministic}
use Rattle.model.specs.Quotients.{arcs_out_of, met_groups, renumbered, state_of, states_of}
use Rattle.base.proofs.Tests.{Tells, tells_and, tells_by, tells_eqb, tells_itself, eq_dec}
use Rattle.base.proofs.Places.{map-at_index}
use Rattle.model.proofs.Notions.{Tree, Fits, Walks}
use Rattle.model.proofs.Transitions.{walks_unique}
use Rattle.model.proofs.Arcs.{arcs_out_of-in, in_arcs_out_of}
use Rattle.model.proofs.FirstMet.{met-root, root_met, met-closed}

-- ---- the target by a name

-- the target by a name among renumbered arcs: that of an arc that is there, or none
pub data Target (met : List ℕ) (arcs : List Arc) (a : ℕ) : Type 0 where
  to_group : (y : ℕ) → In (arc a y) arcs → target_in a (renumbered met arcs) ≡ suc (index_in y met) → Target met arcs a
  no_group : ((y : ℕ) → In (arc a y) arcs → ⊥) → target_in a (renumbered met arcs) ≡ 0 → Target met arcs a

pub target_in-here : (n : ℕ) (b : Arc) (arcs : List Arc) → n ≡ b.name → target_in n (b ∷ arcs) ≡ suc b.to
unfolding target_in
target_in-here n b arcs e = rw (eq-eqb n b.name e, target_in)

pub target_in-there : (n : ℕ) (b : Arc) (arcs : List Arc) → (n ≡ b.name → ⊥) → target_in n (b ∷ arcs) ≡ target_in n arcs
unfolding target_in
target_in-there n b arcs other = rw (ne_eqb n b.name other, target_in)

-- each name has a target or none
target : (met : List ℕ) (arcs : List Arc) (a : ℕ) → Target met arcs a
unfolding renumbered target_in
target met [] a = no_group (λ y m. Memᴰ.not-nil m) refl
target met (b ∷ arcs) a = go (eq_dec a b.name) (target met arcs a)
  where
    new : Arc
    new = arc b.name (index_in b.to met)

    go : (a ≡ b.name) ⊎ (a ≡ b.name → ⊥) → Target met arcs a → Target met (b ∷ arcs) a
    go (inl e) r =
        to_group b.to (here (ap (λ (k : ℕ). arc k b.to) e)) (target_in-here a new (renumbered met arcs) e)
    go (inr other) (to_group y m t) = to_group y (there m) (target_in-there a new (renumbered met arcs) other ∙ t)
    go (inr other) (no_group none t) =
        no_group
        (λ y m. ⊎_elim (λ e. other (ap (λ (z : Arc). z.name) e)) (λ n. none y n) (Memᴰ.cases_cons m))
        (target_in-there a new (renumbered met arcs) other ∙ t)

-- ---- the state of a group met

module _ (rows nodes : List Word) (groups : List ℕ) where
  -- the state of a group met stands at its place
  pub state-of_met :
      (g : ℕ) → In g (met_groups nodes groups) →
      get_or (states_of rows nodes groups) (index_in g (met_groups nodes groups)) empty_state
      ≡ state_of rows nodes groups (met_groups nodes groups) g
  unfolding states_of
  state-of_met g m =
      map-at_index (state_of rows nodes groups (met_groups nodes groups)) empty_state (met_groups nodes groups) g m

  -- its target by a name is that among the renumbered arcs of the group
  target_of-met :
      (g a : ℕ) → In g (met_groups nodes groups) →
      target_in a (get_or (states_of rows nodes groups) (index_in g (met_groups nodes groups)) empty_state).arcs
      ≡ target_in a (renumbered (met_groups nodes groups) (arcs_out_of g (transitions_of nodes groups)))
  unfolding state_of
  target_of-met g a m = ap (λ (s : State). target_in a s.arcs) (state-of_met g m)

  -- the state of a group met accepts exactly when the group does
  accepts_of_met :
      (g : ℕ) → In g (met_groups nodes groups) →
      Tells (get_or (states_of rows nodes groups) (index_in g (met_groups nodes groups)) empty_state).accepts
      (group_accepts rows nodes groups g ≡ true)
  unfolding state_of
  accepts_of_met g m =
      let same = ap (λ (s : State). s.accepts) (state-of_met g m) in
      record { fact = λ e. sym same ∙ e; test = λ e. same ∙ e }

-- ---- one name walked

module _ (states : List State) (q n x : ℕ) (xs : List ℕ) where
  -- the walk once the target is known
  abbrev onward : ℕ → Walk
  onward t = elim (eqb t 0) [ true ↦ walk_at q n | false ↦ walk_from states (t - 1) (suc n) xs ]

  -- no target: the walk stops here
  pub walk-stops : target_in x (get_or states q empty_state).arcs ≡ 0 → walk_from states q n (x ∷ xs) ≡ walk_at q n
  unfolding walk_from
  walk-stops e = ap onward e

  -- a target: the walk goes on from there, one name further
  pub walk-goes :
      (k : ℕ) → target_in x (get_or states q empty_state).arcs ≡ suc k →
      walk_from states q n (x ∷ xs) ≡ walk_from states k (suc n) xs
  unfolding walk_from
  walk-goes k e =
      let less : suc k - 1 ≡ k = omega arith in
      ap onward e ∙ rw (eqb-suc-zero k, onward) (ap (λ (t : ℕ). walk_from states t (suc n) xs) less)

-- ---- all names walked

-- the walk from a group's state by a word, n names having been walked: it takes all names and comes to the state of the group
-- that the automaton goes to, or it takes fewer and the automaton goes nowhere
pub data Walked (ts : List Transition) (states : List State) (met : List ℕ) (g n : ℕ) (r : Word) : Type 0 where
  all_taken :
      (y : ℕ) → Walks ts g r y → In y met → walk_from states (index_in g met) n r ≡ walk_at (index_in y met) (n + length r) →
      Walked ts states met g n r
  stopped :
      ((y : ℕ) → Walks ts g r y → ⊥) → (walk_from states (index_in g met) n r).taken < n + length r → Walked ts states met g n r

module _
    (rows nodes : List Word) (groups : List ℕ) (tree : Tree nodes) (fits : Fits nodes groups)
    (det : Deterministic (transitions_of nodes groups)) where
  -- each walk from a group met is one of the two
  pub walked :
      (r : Word) (g n : ℕ) → In g (met_groups nodes groups) →
      Walked (transitions_of nodes groups) (states_of rows nodes groups) (met_groups nodes groups) g n r
  unfolding walk_from
  walked [] g n m =
      let e : n ≡ n + 0 = omega arith in
      all_taken g refl m (ap (λ (k : ℕ). walk_at (index_in g (met_groups nodes groups)) k) e)
  walked (a ∷ r) g n m = go (target met (arcs_out_of g ts) a) (λ y k. walked r y (suc n) k)
    where
      ts : List Transition
      ts = transitions_of nodes groups

      met : List ℕ
      met = met_groups nodes groups

      states : List State
      states = states_of rows nodes groups

      further :
          (y : ℕ) → In (transition g a y) ts →
          walk_from states (index_in g met) n (a ∷ r) ≡ walk_from states (index_in y met) (suc n) r →
          Walked ts states met y (suc n) r → Walked ts states met g n (a ∷ r)
      further y t e (all_taken z w k f) =
          let size : suc n + length r ≡ n + suc (length r) = omega arith in
          all_taken z (y, t, w) k (e ∙ f ∙ ap (λ (i : ℕ). walk_at (index_in z met) i) size)
      further y t e (stopped none f) =
          let fewer : (walk_from states (index_in y met) (suc n) r).taken < n + suc (length r) = omega arith in
          stopped
          (λ z w. none z (subst (λ (v : ℕ). Walks ts v r z) (det g a w.0 y w.1 t) w.2))
          (subst (λ (v : Walk). v.taken < n + suc (length r)) (sym e) fewer)

      go :
          Target met (arcs_out_of g ts) a → ((y : ℕ) → In y met → Walked ts states met y (suc n) r) →
          Walked ts states met g n (a ∷ r)
      go (to_group y k e) again =
          let t : In (transition g a y) ts = arcs_out_of-in g a y ts k in
          further y t (walk-goes states (index_in g met) n a r (index_in y met) (target_of-met rows nodes groups g a m ∙ e))
          (again y (met-closed nodes groups tree fits det g a y m t))
      go (no_group none e) again =
          let fewer : n < n + suc (length r) = omega arith in
          stopped
          (λ z w. none w.0 (in_arcs_out_of g a w.0 ts det w.1))
          (subst (λ (v : Walk). v.taken < n + suc (length r))
          (sym (walk-stops states (index_in g met) n a r (target_of-met rows nodes groups g a m ∙ e))) fewer)

-- the test of `admits` once the walk is known
abbrev admits_by : List State → Word → Walk → Bool
admits_by states r w = eqb w.taken (length r) && (get_or states w.at_state empty_state).accepts

-- admitted is what leads from the root's group to an accepting one
pub tells_admits :
    (rows nodes : List Word) (groups : List ℕ) → Tree nodes → Fits nodes groups →
    Deterministic (transitions_of nodes groups) → (r : Word) →
    Tells (admits (states_of rows nodes groups) r)
    ((g : ℕ) × Walks (transitions_of nodes groups) (group_at nodes groups []) r g × (group_accepts rows nodes groups g ≡ true))
unfolding admits reached_state walk
tells_admits rows nodes groups tree fits det r =
    go (walked rows nodes groups tree fits det r root 0 (root_met nodes groups tree fits))
  where
    ts : List Transition
    ts = transitions_of nodes groups

    met : List ℕ
    met = met_groups nodes groups

    states : List State
    states = states_of rows nodes groups

    root : ℕ
    root = group_at nodes groups []

    Goes : Type 0
    Goes = (g : ℕ) × Walks ts root r g × (group_accepts rows nodes groups g ≡ true)

    from-root : walk_from states (index_in root met) 0 r ≡ walk_from states 0 0 r
    from-root = ap (λ (q : ℕ). walk_from states q 0 r) (met-root nodes groups tree fits)

    go : Walked ts states met root 0 r → Tells (admits_by states r (walk_from states 0 0 r)) Goes
    go (all_taken y w m e) =
        let all : 0 + length r ≡ length r = omega arith in
        subst (λ (v : Walk). Tells (admits_by states r v) Goes) (sym e ∙ from-root)
        (tells_by
        (tells_and (tells_eqb (0 + length r) (length r)) (accepts_of_met rows nodes groups y m))
        (λ both. (y, w, both.1))
        (λ h. (
          all,
          subst (λ (g : ℕ). group_accepts rows nodes groups g ≡ true)
              (walks_unique ts det root h.0 y r h.1 w) h.2,
        )))
    go (stopped none few) =
        let fewer : (walk_from states 0 0 r).taken < 0 + length r = subst (λ (v : Walk). v.taken < 0 + length r) from-root few in
        tells_by
        (tells_and (tells_eqb (walk_from states 0 0 r).taken (length r))
        (tells_itself (get_or states (walk_from states 0 0 r).at_state empty_state).accepts))
        (λ both. let taken : (walk_from states 0 0 r).taken ≡ length r = both.0 in let z : ⊥ = omega arith in absurd z)
        (λ h. absurd (none h.0 h.1))
