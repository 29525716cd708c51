-- What the rows do in the table of a full joining, since every word of the prefix tree reaches the state of its group: the ends of all
-- states sum to the number of rows, rows end exactly in the states that accept, and every arc is passed. Assumes nothing.
use mathlib.Core.Path.{◌≡◌, refl, sym, ap, ap₂, ◌∙◌, subst}
use mathlib.Core.Logic.{⊎_elim, ◌↔◌}
use mathlib.Core.Bool.{Bool, true, ◌&&◌, false≢true, and-eq-true_iff}
use mathlib.Core.List.{List, [], ◌∷◌, ◌++◌, append_assoc, append-ne-nil_of_right_ne-nil, cons≢nil, Memᴰ as In}
use mathlib.Core.List.Memᴰ
use Prim.Native.Nat.{ℕ, ◌<◌}
use native.Mathlib.Omega.{arith}
use lib.Dec.{eqb}
use lib.ListN.{length, get_or}
use borrow.Author.Tests.{eqb-true, eq-eqb}
use Rattle.base.specs.Limits.{when}
use Rattle.base.specs.Lists.{total, index_in}
use Rattle.base.proofs.Lists.{map-in, in_flat_map}
use Rattle.base.proofs.Places.{nth_in, index_of_nth}
use Rattle.base.proofs.Totals.{total-same, total-ones, total-swap, total-number, many_some, some_many}
use Rattle.model.specs.Fields.{Class}
use Rattle.model.specs.Classes.{Word}
use Rattle.model.specs.Tables.{Arc, arc, State, empty_state, Walk, walk, reached_state, admits}
use Rattle.model.specs.Joinings.{Transition, transition, tree_of, group_at, transitions_of}
use Rattle.model.specs.Quotients.{arcs_out_of, met_groups, renumbered, state_of, states_of}
use Rattle.model.proofs.Notions.{◌▸◌}
use Rattle.model.proofs.Groups.{tells_accepts}
use Rattle.model.proofs.Transitions.{arc-node}
use Rattle.model.proofs.Trees.{tree_of-tree, node_begins}
use Rattle.model.proofs.Arcs.{arcs_out_of-in}
use Rattle.model.proofs.FirstMet.{met-distinct, states-length}
use Rattle.model.proofs.Admits.{state-of_met}
use Rattle.model.proofs.TableWalks.{reaches_steps, reaches_one, reaches_split}
use Rattle.model.proofs.Joined.{Joined}
use Rattle.model.proofs.NodeWalks.{node_reaches}
use Rattle.model.proofs.InTheClass.{admits-row}
use Rattle.counts.specs.Counts.{steps_from, trail, ends_at, passes_of, numbers_of}
use Rattle.counts.proofs.Steps.{some_below, step_after}

module _ (c : Class) (rows : List Word) (groups : List ℕ) (joined : Joined c rows groups) where
  -- the prefix tree, the groups met, the arcs and the states
  abbrev nodes : List Word
  nodes = tree_of rows

  abbrev met : List ℕ
  met = met_groups nodes groups

  abbrev ts : List Transition
  ts = transitions_of nodes groups

  abbrev states : List State
  states = states_of rows nodes groups

  -- a state of the table is that of a group met
  state-at :
      (q : ℕ) → (get_or states q empty_state ≡ empty_state → ⊥) →
      (g : ℕ) × (index_in g met ≡ q) × (get_or states q empty_state ≡ state_of rows nodes groups met g)
  state-at q some =
      let size : length states ≡ length met = states-length nodes groups (tree_of-tree rows) joined.fits rows in
      let below : q < length met = omega (arith, some_below states q some) in
      let g : ℕ = get_or met q 0 in
      let place : index_in g met ≡ q = index_of_nth met q (met-distinct nodes groups (tree_of-tree rows) joined.fits) below in (
        g,
        place,
        subst (λ (i : ℕ). get_or states i empty_state ≡ state_of rows nodes groups met g) place
            (state-of_met rows nodes groups g (nth_in 0 met q below)),
      )

  -- ---- ends

  -- the walk of a row ends in a state that accepts
  end-accepts : (row : Word) → In row rows → (get_or states (walk states row).at_state empty_state).accepts ≡ true
  unfolding admits reached_state
  end-accepts row m =
      ((and-eq-true_iff (eqb (walk states row).taken (length row)) (reached_state states row).accepts).0
      (admits-row c rows groups joined row m)).1

  -- which is a state of the table
  end_below : (row : Word) → In row rows → (walk states row).at_state < length states
  end_below row m =
      some_below states (walk states row).at_state
      (λ e. false≢true (sym (ap (λ (s : State). s.accepts) e) ∙ end-accepts row m))

  -- so the ends of all states sum to the number of rows
  pub ends-sum_holds : total (ends_at states rows) (numbers_of states) ≡ length rows
  unfolding ends_at
  ends-sum_holds =
      total-swap ends (numbers_of states) rows
      ∙ total-same (λ (row : Word). total (λ (q : ℕ). ends q row) (numbers_of states)) (λ (row : Word). 1) rows
      (λ row m.
      let below = end_below row m in
      total-number (length states) 0 (walk states row).at_state 1 (omega arith) (omega arith))
      ∙ total-ones rows
    where
      ends : ℕ → Word → ℕ
      ends q row = when (eqb (walk states row).at_state q) 1

  -- rows end exactly in the states that accept
  pub ends-accept_holds : (q : ℕ) → (0 < ends_at states rows q) ↔ ((get_or states q empty_state).accepts ≡ true)
  unfolding ends_at walk state_of
  ends-accept_holds q = (
    λ some.
        let r = some_many (λ (row : Word). eqb (walk states row).at_state q) rows some in
        subst (λ (k : ℕ). (get_or states k empty_state).accepts ≡ true) (eqb-true (walk states r.0).at_state q r.2)
        (end-accepts r.0 r.1),
    λ yes.
        let g = state-at q (λ e. false≢true (sym (ap (λ (s : State). s.accepts) e) ∙ yes)) in
        let h = (tells_accepts rows nodes groups g.0).fact (sym (ap (λ (s : State). s.accepts) g.2) ∙ yes) in
        let end : (walk states h.0).at_state ≡ q =
        ap (λ (v : Walk). v.at_state) (node_reaches c rows groups joined h.0 h.1).walked
        ∙ ap (λ (k : ℕ). index_in k met) h.2 ∙ g.1 in
        many_some (λ (row : Word). eqb (walk states row).at_state q) rows h.0 h.3
        (eq-eqb (walk states h.0).at_state q end),
  )

  -- ---- passes

  -- a word of the tree with one name more is walked by an arc of the state of the word's group
  step-into :
      (w v : Word) (a : ℕ) → In w nodes → In (w ▸ a) nodes →
      (t : ℕ) × In (transition (index_in (group_at nodes groups w) met) a t) (steps_from states 0 (w ++ (a ∷ v)))
  step-into w v a m n =
      let r =
      reaches_split states 0 (index_in (group_at nodes groups (w ▸ a)) met) w (a ∷ []) (node_reaches c rows groups joined (w ▸ a) n) in
      let there' : r.0 ≡ index_in (group_at nodes groups w) met =
      reaches_one states 0 r.0 (index_in (group_at nodes groups w) met) w r.1 (node_reaches c rows groups joined w m) in
      let last = reaches_steps states r.0 (index_in (group_at nodes groups (w ▸ a)) met) (a ∷ []) r.2 in (
        last.0,
        subst (λ (z : ℕ). In (transition z a last.0) (steps_from states 0 (w ++ (a ∷ v)))) there'
            (step_after states w v 0 r.0 a last.0 (reaches_steps states 0 r.0 w r.1) last.1),
      )

  -- a word of the tree with one name more begins a row
  begins_row : (w : Word) (a : ℕ) → In (w ▸ a) nodes → (v : Word) × In (w ++ (a ∷ v)) rows
  begins_row w a m =
      ⊎_elim (λ e. absurd (append-ne-nil_of_right_ne-nil w cons≢nil e))
      (λ b. (b.0, Memᴰ.cast (sym (append_assoc w (a ∷ []) b.0)) b.1))
      (node_begins rows (w ▸ a) m)

  -- so that arc is passed
  passed_into :
      (w : Word) (a : ℕ) → In w nodes → In (w ▸ a) nodes → 0 < passes_of states rows (index_in (group_at nodes groups w) met) a
  unfolding passes_of trail
  passed_into w a m n =
      let from : ℕ = index_in (group_at nodes groups w) met in
      let row = begins_row w a n in
      let step = step-into w row.0 a m n in
      many_some (λ (s : Transition). eqb s.from from && eqb s.name a) (trail states rows) (transition from a step.0)
      (in_flat_map (steps_from states 0) {x = w ++ (a ∷ row.0)} {y = transition from a step.0} rows row.1 step.1)
      (ap₂ (λ (x y : Bool). x && y) (eq-eqb from from refl) (eq-eqb a a refl))

  -- every arc is passed
  pub all-passed_holds :
      (q : ℕ) (a : Arc) → In a (get_or states q empty_state).arcs → 0 < passes_of states rows q a.name
  unfolding state_of renumbered
  all-passed_holds q a m =
      let g = state-at q (λ e. Memᴰ.not-nil (subst (λ (s : State). In a s.arcs) e m)) in
      among q g.0 g.1 (map-in numbered (arcs_out_of g.0 ts) (subst (λ (s : State). In a s.arcs) g.2 m))
    where
      numbered : Arc → Arc
      numbered b = arc b.name (index_in b.to met)

      among :
          (q g : ℕ) → index_in g met ≡ q → (b : Arc) × In b (arcs_out_of g ts) × (a ≡ numbered b) →
          0 < passes_of states rows q a.name
      among q g place b =
          let name : a.name ≡ b.0.name = ap (λ (x : Arc). x.name) b.2 in
          let goes = arcs_out_of-in g b.0.name b.0.to ts b.1 in
          let t = arc-node nodes groups (tree_of-tree rows) g b.0.name b.0.to goes in
          let from : index_in (group_at nodes groups t.0) met ≡ q = ap (λ (k : ℕ). index_in k met) t.3 ∙ place in
          subst (λ (x : ℕ). 0 < passes_of states rows q x) (sym name)
          (subst (λ (k : ℕ). 0 < passes_of states rows k b.0.name) from (passed_into t.0 b.0.name t.1 t.2))
