-- First-met order: every group is met, once, the root's first. In order: what the whole meeting gives, the targets of groups
-- met, then all groups, and that there are as many states as groups. Assumes nothing.
use mathlib.Core.Path.{◌≡◌, refl, sym, ap, ◌∙◌, subst}
use mathlib.Core.Logic.{◌⊎◌, inl, inr}
use mathlib.Core.List.Memᴰ.{head as here}
use mathlib.Core.List.{List, [], ◌∷◌, Memᴰ as In}
use mathlib.Core.List.Memᴰ
use Prim.Native.Nat.{ℕ, ◌+◌, ◌≤◌, ◌<◌}
use native.Mathlib.Omega.{arith}
use lib.ListN.{length, length-map}
use Rattle.model.specs.Classes.{Word}
use Rattle.base.specs.Lists.{index_in, Distinct}
use Rattle.model.specs.Tables.{arc}
use Rattle.model.specs.Joinings.{transition, transitions_of, group_at, groups_in, member_of, Deterministic}
use Rattle.model.specs.Quotients.{arcs_out_of, met_groups, state_of, states_of}
use Rattle.base.proofs.Lists.{distinct_length, same_length}
use Rattle.base.proofs.Places.{index_here, nth_of_index}
use Rattle.model.proofs.Notions.{Tree, Fits, Walks}
use Rattle.model.proofs.Groups.{group_in, member_of_lem, in_groups_in, groups_in-in, groups_in-distinct}
use Rattle.model.proofs.Transitions.{target_in_lem, walks_down}
use Rattle.model.proofs.Arcs.{in_arcs_out_of}
use Rattle.model.proofs.Meeting.{MetUpTo, look_all}

module _ (nodes : List Word) (groups : List ℕ) (tree : Tree nodes) (fits : Fits nodes groups) where
  -- as many looks as there are nodes, from the root's group on
  met-all_looked_at :
      MetUpTo (transitions_of nodes groups) (group_at nodes groups []) (length nodes + 0) (met_groups nodes groups)
  unfolding met_groups
  met-all_looked_at =
      look_all (transitions_of nodes groups) (group_at nodes groups []) (length nodes) 0 (group_at nodes groups [] ∷ [])
      (record {
        rest = [];
        begins = refl;
        distinct = (λ m. Memᴰ.not-nil m, tt);
        whence = λ g m. inl (Memᴰ.eq_of_singleton m);
        closed = λ j h k a m. let z : ⊥ = omega arith in absurd z;
      })

  -- no group is met twice
  pub met-distinct : Distinct (met_groups nodes groups)
  met-distinct = met-all_looked_at.distinct

  -- the root's group is met, and first
  pub root_met : In (group_at nodes groups []) (met_groups nodes groups)
  root_met = subst (λ (xs : List ℕ). In (group_at nodes groups []) xs) (sym met-all_looked_at.begins) (here refl)

  pub met-root : index_in (group_at nodes groups []) (met_groups nodes groups) ≡ 0
  met-root =
      ap (index_in (group_at nodes groups [])) met-all_looked_at.begins
      ∙ index_here (group_at nodes groups []) (group_at nodes groups []) met-all_looked_at.rest refl

  -- what is met is a group
  pub met-in : (g : ℕ) → In g (met_groups nodes groups) → In g groups
  met-in g m = go (met-all_looked_at.whence g m)
    where
      go : (g ≡ group_at nodes groups []) ⊎ ((x a : ℕ) × In (transition x a g) (transitions_of nodes groups)) → In g groups
      go (inl e) = Memᴰ.cast e (group_in nodes groups [] fits tree.root)
      go (inr t) = target_in_lem nodes groups fits t.0 t.1 g t.2

  -- so there are no more than nodes
  pub met-few : length (met_groups nodes groups) ≤ length nodes
  met-few =
      let few : length (met_groups nodes groups) ≤ length groups =
      distinct_length (met_groups nodes groups) groups met-distinct met-in in
      let size : length groups ≡ length nodes = fits.lengths in
      omega arith

  -- the target of an arc of a group met is met
  pub met-closed :
      Deterministic (transitions_of nodes groups) → (x a y : ℕ) → In x (met_groups nodes groups) →
      In (transition x a y) (transitions_of nodes groups) → In y (met_groups nodes groups)
  met-closed det x a y m n =
      let met : List ℕ = met_groups nodes groups in
      let place = nth_of_index met x m in
      let inside : index_in x met < length met = place.0 in
      let few : length met ≤ length nodes = met-few in
      met-all_looked_at.closed (index_in x met) (omega arith) inside (arc a y)
      (subst (λ (g : ℕ). In (arc a y) (arcs_out_of g (transitions_of nodes groups))) (sym place.1)
      (in_arcs_out_of x a y (transitions_of nodes groups) det n))

  -- what is walked to from a group met is met
  pub walked-met :
      Deterministic (transitions_of nodes groups) → (x y : ℕ) (p : Word) → In x (met_groups nodes groups) →
      Walks (transitions_of nodes groups) x p y → In y (met_groups nodes groups)
  walked-met det x y [] m w = Memᴰ.cast (sym w) m
  walked-met det x y (a ∷ p) m w = walked-met det w.0 y p (met-closed det x a w.0 m w.1) w.2

  -- every group is met
  pub all-met : Deterministic (transitions_of nodes groups) → (g : ℕ) → In g groups → In g (met_groups nodes groups)
  all-met det g m =
      let member : Word = member_of nodes groups g in
      let r = member_of_lem nodes groups g tree.distinct fits m in
      Memᴰ.cast (sym r.1)
      (walked-met det (group_at nodes groups []) (group_at nodes groups member) member root_met
      (walks_down nodes groups tree [] member r.0))

  -- a state for each group met
  pub states-length : (rows : List Word) → length (states_of rows nodes groups) ≡ length (met_groups nodes groups)
  unfolding states_of
  states-length rows = length-map (met_groups nodes groups) (state_of rows nodes groups (met_groups nodes groups))

  -- so the number of states is the number of groups
  pub states-are_groups :
      Deterministic (transitions_of nodes groups) → (rows : List Word) →
      length (states_of rows nodes groups) ≡ length (groups_in groups)
  states-are_groups det rows =
      states-length rows
      ∙ same_length (met_groups nodes groups) (groups_in groups) met-distinct (groups_in-distinct groups)
      (λ g m. in_groups_in groups g (met-in g m))
      (λ g m. all-met det g (groups_in-in groups g m))
