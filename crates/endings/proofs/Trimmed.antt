-- The table without the arcs to states that lead to no end: its states, the target by a name, and its walks. Assumes
-- nothing.
use mathlib.Core.Path.{◌≡◌, refl, sym, ap, ◌∙◌, subst}
use mathlib.Core.Logic.{◌↔◌}
use mathlib.Core.Bool.{Bool, true, false, cond}
use mathlib.Core.List.{List, [], ◌∷◌, ◌++◌, Memᴰ as In}
use Prim.Native.Nat.{ℕ, zero, suc, ◌-◌, ◌≤◌}
use native.Mathlib.Omega.{arith}
use lib.ListN.{get_or, get_or-map}
use Rattle.base.specs.Lists.{filter_by}
use Rattle.base.proofs.Lists.{in_filter_by, filter_by-in}
use Rattle.model.specs.Tables.{Arc, arc, Ascending, State, state, empty_state, target_in}
use Rattle.model.specs.Classes.{Word}
use Rattle.model.specs.Sources.{Reaches}
use Rattle.model.proofs.Reached.{target_of_lem}
use Rattle.model.proofs.Walkable.{target_arc}
use Rattle.model.proofs.TableWalks.{Steps, reaches_steps, steps_reaches, admitted-after}
use Rattle.endings.specs.Live.{HasWay, ArcsAscend, is_live, live_arcs, trimmed}
use Rattle.endings.proofs.Levels.{tells_live}

-- ---- some of the arcs

-- names that ascend from a higher number on ascend from a lower one on
ascending_from : (low next : ℕ) (arcs : List Arc) → low ≤ next → Ascending next arcs → Ascending low arcs
ascending_from low next [] h up = tt
ascending_from low next (a ∷ arcs) h up = (omega (arith, up.0), up.1)

-- the names of some of the arcs ascend
ascending_some : (test : Arc → Bool) (next : ℕ) (arcs : List Arc) → Ascending next arcs → Ascending next (filter_by test arcs)
unfolding filter_by
ascending_some test next [] up = tt
ascending_some test next (a ∷ arcs) up = go (test a) (ascending_some test (suc a.name) arcs up.1)
  where
    go :
        (b : Bool) → Ascending (suc a.name) (filter_by test arcs) →
        Ascending next (cond b (a ∷ filter_by test arcs) (filter_by test arcs))
    go true again = (up.0, again)
    go false again =
        let low : next ≤ suc a.name = omega (arith, up.0) in
        ascending_from next (suc a.name) (filter_by test arcs) low again

-- ---- the states of the trimmed table

module _ (states : List State) where
  -- a state without the arcs to states that lead to no end
  abbrev trimmed_state : State → State
  trimmed_state s = state s.accepts (live_arcs states s.arcs)

  -- the state at a place of the trimmed table
  trimmed-at : (q : ℕ) → get_or (trimmed states) q empty_state ≡ trimmed_state (get_or states q empty_state)
  unfolding trimmed live_arcs filter_by
  trimmed-at q = get_or-map trimmed_state states q empty_state

  -- its arcs
  pub trimmed-arcs : (q : ℕ) → (get_or (trimmed states) q empty_state).arcs ≡ live_arcs states (get_or states q empty_state).arcs
  trimmed-arcs q = ap (λ (s : State). s.arcs) (trimmed-at q)

  -- it accepts where it did
  pub trimmed-accepts : (q : ℕ) → (get_or (trimmed states) q empty_state).accepts ≡ (get_or states q empty_state).accepts
  trimmed-accepts q = ap (λ (s : State). s.accepts) (trimmed-at q)

-- ---- its arcs by their names

module _ (states : List State) (up : ArcsAscend states) where
  -- the names of its arcs ascend
  pub trimmed-ascends : ArcsAscend (trimmed states)
  unfolding live_arcs
  trimmed-ascends q =
      subst (Ascending 0) (sym (trimmed-arcs states q))
      (ascending_some (λ (a : Arc). is_live states a.to) 0 (get_or states q empty_state).arcs (up q))

  -- an arc to a state that leads to an end is kept
  target_kept :
      (q x r : ℕ) → target_in x (get_or states q empty_state).arcs ≡ suc r → is_live states r ≡ true →
      target_in x (get_or (trimmed states) q empty_state).arcs ≡ suc r
  unfolding live_arcs
  target_kept q x r e live =
      target_of_lem 0 (get_or (trimmed states) q empty_state).arcs (arc x r) (trimmed-ascends q)
      (subst (In (arc x r)) (sym (trimmed-arcs states q))
      (in_filter_by (λ (a : Arc). is_live states a.to) (get_or states q empty_state).arcs
      (target_arc x r (get_or states q empty_state).arcs e) live))

  -- and no others are
  kept_target :
      (q x r : ℕ) → target_in x (get_or (trimmed states) q empty_state).arcs ≡ suc r →
      (target_in x (get_or states q empty_state).arcs ≡ suc r) × (is_live states r ≡ true)
  unfolding live_arcs
  kept_target q x r e =
      let both =
      filter_by-in (λ (a : Arc). is_live states a.to) (get_or states q empty_state).arcs
      (subst (In (arc x r)) (trimmed-arcs states q) (target_arc x r (get_or (trimmed states) q empty_state).arcs e)) in
      (target_of_lem 0 (get_or states q empty_state).arcs (arc x r) (up q) both.0, both.1)

  -- so the target by a name is what it was, or none where the state that it was leads to no end
  pub trimmed-target :
      (q name : ℕ) →
      target_in name (get_or (trimmed states) q empty_state).arcs
      ≡ cond (is_live states (target_in name (get_or states q empty_state).arcs - 1))
      (target_in name (get_or states q empty_state).arcs) 0
  trimmed-target q name = go now refl before refl (is_live states (before - 1)) refl
    where
      now : ℕ
      now = target_in name (get_or (trimmed states) q empty_state).arcs

      before : ℕ
      before = target_in name (get_or states q empty_state).arcs

      go :
          (t : ℕ) → now ≡ t → (s : ℕ) → before ≡ s → (b : Bool) → is_live states (before - 1) ≡ b → t ≡ cond b before 0
      go zero e zero f true g = sym f
      go zero e (suc s) f true g =
          let less : before - 1 ≡ s = omega arith in
          let kept : now ≡ suc s = target_kept q name s f (ap (is_live states) (sym less) ∙ g) in
          let z : ⊥ = omega arith in
          absurd z
      go zero e s f false g = refl
      go (suc r) e s f b g =
          let was = kept_target q name r e in
          let same : before ≡ suc r = was.0 in
          let less : before - 1 ≡ r = omega arith in
          let lives : b ≡ true = sym g ∙ ap (is_live states) less ∙ was.1 in
          subst (λ (c : Bool). suc r ≡ cond c before 0) (sym lives) (sym same)

-- ---- its walks

module _ (states : List State) (up : ArcsAscend states) where
  -- a state on a way to a live one is live
  live-before : (p q : ℕ) (u : Word) → Reaches states p u q → HasWay states q → HasWay states p
  live-before p q u way live = (u ++ live.0, (admitted-after states p q u live.0 way).1 live.1)

  -- a walk over the trimmed table is one over the table, and comes from a live state to a live one only
  steps_before : (u : Word) (p q : ℕ) → HasWay states p → Steps (trimmed states) p u q → Steps states p u q × HasWay states q
  steps_before [] p q live s = (s, subst (HasWay states) s live)
  steps_before (a ∷ u) p q live s =
      let was = kept_target states up p a s.0 s.1 in
      let rest = steps_before u s.0 q ((tells_live states up s.0).fact was.1) s.2 in
      ((s.0, was.0, rest.0), rest.1)

  -- and each walk that ends in a live state is one over the trimmed table
  steps_kept : (u : Word) (p q : ℕ) → HasWay states q → Steps states p u q → Steps (trimmed states) p u q
  steps_kept [] p q live s = s
  steps_kept (a ∷ u) p q live s =
      let lives = live-before s.0 q u (steps_reaches states s.0 q u s.2) live in
      (s.0, target_kept states up p a s.0 s.1 ((tells_live states up s.0).test lives), steps_kept u s.0 q live s.2)

  -- so where the start leads to an end, the states that are reached over the trimmed table are the live ones that are reached
  pub live-walked :
      is_live states 0 ≡ true → (u : Word) (q : ℕ) → Reaches (trimmed states) 0 u q ↔ (Reaches states 0 u q × HasWay states q)
  live-walked start u q = (
    λ way.
        let r = steps_before u 0 q ((tells_live states up 0).fact start) (reaches_steps (trimmed states) 0 q u way) in
        (steps_reaches states 0 q u r.0, r.1),
    λ both. steps_reaches (trimmed states) 0 q u (steps_kept u 0 q both.1 (reaches_steps states 0 q u both.0)),
  )
