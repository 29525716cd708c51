-- First-met order only appends, and the test of first-met numbering counts along it: read over the states of a partition's
-- automaton, it meets as many states as there are met groups. Assumes nothing.
use mathlib.Core.Path.{◌≡◌, refl, sym, ap, ◌∙◌, subst}
use mathlib.Core.Bool.{Bool, true, false, cond}
use mathlib.Core.List.{List, [], ◌∷◌, ◌++◌, map, append_assoc, append-nil}
use Prim.Native.Nat.{ℕ, zero, suc, ◌+◌, ◌≤◌, ◌<◌}
use native.Mathlib.Omega.{arith}
use lib.Dec.{ltb}
use lib.ListN.{length, get_or, drop, length-append, drop_of_length-le, get_or-append}
use lib.Seq.{drop-cons}
use borrow.Author.Tests.{ltb-true, ltb-false, lt-ltb, le-ltb, eq-eqb}
use Rattle.base.specs.Lists.{is_in, index_in}
use Rattle.model.specs.Classes.{Word}
use Rattle.model.specs.Tables.{Arc, arc, State, met_by_arcs, met_by_states}
use Rattle.model.specs.Joinings.{Transition, transitions_of}
use Rattle.model.specs.Quotients.{arcs_out_of, met_with, met_from, renumbered, state_of}
use Rattle.base.proofs.Tests.{tells_is_in, not_told}
use Rattle.base.proofs.Places.{index_in-front, index_after}
use Rattle.model.proofs.Meeting.{met_with-grown}

-- ---- what is met is only added to

-- all looks together only add
pub met_from-appends : (n i : ℕ) (ts : List Transition) (met : List ℕ) → (more : List ℕ) × (met_from n i ts met ≡ met ++ more)
unfolding met_from
met_from-appends zero i ts met = ([], sym (append-nil met))
met_from-appends (suc n) i ts met = go (ltb i (length met)) (λ m. met_from-appends n (suc i) ts m)
  where
    go :
        (b : Bool) → ((m : List ℕ) → (more : List ℕ) × (met_from n (suc i) ts m ≡ m ++ more)) →
        (more : List ℕ) × (met_from n (suc i) ts (cond b (met_with met (arcs_out_of (get_or met i 0) ts)) met) ≡ met ++ more)
    go false again = again met
    go true again =
        let q = met_with-grown met (arcs_out_of (get_or met i 0) ts) in
        let r = again (met_with met (arcs_out_of (get_or met i 0) ts)) in
        (q.more ++ r.0, r.1 ∙ ap (λ (m : List ℕ). m ++ r.0) q.begins ∙ append_assoc met q.more r.0)

-- past the last met group nothing more is met
pub met_from-ends : (n i : ℕ) (ts : List Transition) (met : List ℕ) → length met ≤ i → met_from n i ts met ≡ met
unfolding met_from
met_from-ends zero i ts met h = refl
met_from-ends (suc n) i ts met h =
    let past : length met ≤ suc i = omega arith in
    rw (le-ltb i (length met) h) (met_from-ends n (suc i) ts met past)

-- ---- the test counts along

-- an arc to a state met before counts nothing, one to the next state counts one
met_by_arcs-old : (m : ℕ) (a : Arc) (arcs : List Arc) → a.to < m → met_by_arcs m (a ∷ arcs) ≡ met_by_arcs m arcs
unfolding met_by_arcs
met_by_arcs-old m a arcs h = rw (lt-ltb a.to m h, met_by_arcs)

met_by_arcs-new : (m : ℕ) (a : Arc) (arcs : List Arc) → a.to ≡ m → met_by_arcs m (a ∷ arcs) ≡ met_by_arcs (suc m) arcs
unfolding met_by_arcs
met_by_arcs-new m a arcs h =
    let low : m ≤ a.to = omega arith in
    rw (le-ltb a.to m low, met_by_arcs) (rw (eq-eqb a.to m h))

-- the test meets along the arcs of a state as many as there are met groups
met_by_arcs-follows :
    (every : List ℕ) (arcs : List Arc) (met rest : List ℕ) → every ≡ met_with met arcs ++ rest →
    met_by_arcs (length met) (renumbered every arcs) ≡ length (met_with met arcs)
unfolding met_with renumbered met_by_arcs
met_by_arcs-follows every [] met rest e = refl
met_by_arcs-follows every (a ∷ arcs) met rest e =
    go (is_in a.to met) refl e (λ m h. met_by_arcs-follows every arcs m rest h)
  where
    go :
        (b : Bool) → is_in a.to met ≡ b → every ≡ met_with (cond b met (met ++ (a.to ∷ []))) arcs ++ rest →
        ((m : List ℕ) → every ≡ met_with m arcs ++ rest → met_by_arcs (length m) (renumbered every arcs) ≡ length (met_with m arcs)) →
        met_by_arcs (length met) (arc a.name (index_in a.to every) ∷ renumbered every arcs)
        ≡ length (met_with (cond b met (met ++ (a.to ∷ []))) arcs)
    go true t h again =
        let q = met_with-grown met arcs in
        let whole : every ≡ met ++ (q.more ++ rest) =
        h ∙ ap (λ (m : List ℕ). m ++ rest) q.begins ∙ append_assoc met q.more rest in
        let low : index_in a.to every < length met =
        subst (λ (z : List ℕ). index_in a.to z < length met) (sym whole)
        (index_in-front a.to met (q.more ++ rest) ((tells_is_in a.to met).fact t)) in
        met_by_arcs-old (length met) (arc a.name (index_in a.to every)) (renumbered every arcs) low ∙ again met h
    go false t h again =
        let longer = met ++ (a.to ∷ []) in
        let q = met_with-grown longer arcs in
        let whole : every ≡ met ++ (a.to ∷ (q.more ++ rest)) =
        h ∙ ap (λ (m : List ℕ). m ++ rest) q.begins ∙ append_assoc longer q.more rest
        ∙ append_assoc met (a.to ∷ []) (q.more ++ rest) in
        let next : index_in a.to every ≡ length met =
        ap (index_in a.to) whole ∙ index_after a.to met (q.more ++ rest) (not_told (tells_is_in a.to met) t) in
        let size : suc (length met) ≡ length longer = omega (arith, length-append met (a.to ∷ [])) in
        met_by_arcs-new (length met) (arc a.name (index_in a.to every)) (renumbered every arcs) next
        ∙ ap (λ (m : ℕ). met_by_arcs m (renumbered every arcs)) size ∙ again longer h

-- the test takes one state
met_by_states-step :
    (i m : ℕ) (s : State) (states : List State) → i < m →
    met_by_states i m (s ∷ states) ≡ met_by_states (suc i) (met_by_arcs m s.arcs) states
unfolding met_by_states
met_by_states-step i m s states h = rw (lt-ltb i m h, met_by_states)

-- first-met order takes one look
pub met_from-step :
    (n i : ℕ) (ts : List Transition) (met : List ℕ) → i < length met →
    met_from (suc n) i ts met ≡ met_from n (suc i) ts (met_with met (arcs_out_of (get_or met i 0) ts))
unfolding met_from
met_from-step n i ts met h = rw (lt-ltb i (length met) h)

-- over the states from the i-th on, where the groups before it have been taken and `met` are met
module _ (rows nodes : List Word) (groups every : List ℕ) where
  -- past the last group no state is left
  past_end :
      (i m : ℕ) → length every ≤ i → met_by_states i m (map (state_of rows nodes groups every) (drop i every)) ≡ m
  unfolding met_by_states
  past_end i m h = rw (drop_of_length-le every h)

  -- one state more
  one_state :
      (n i : ℕ) (met : List ℕ) → every ≡ met_from (suc n) i (transitions_of nodes groups) met → i < length met →
      met_by_states i (length met) (map (state_of rows nodes groups every) (drop i every))
      ≡ met_by_states (suc i) (length (met_with met (arcs_out_of (get_or met i 0) (transitions_of nodes groups))))
      (map (state_of rows nodes groups every) (drop (suc i) every))
  unfolding state_of
  one_state n i met e low =
      let ts = transitions_of nodes groups in
      let arcs = arcs_out_of (get_or met i 0) ts in
      let state-at = state_of rows nodes groups every in
      let later = map state-at (drop (suc i) every) in
      let p = met_from-appends (suc n) i ts met in
      let q = met_from-appends n (suc i) ts (met_with met arcs) in
      let nth : get_or every i 0 ≡ get_or met i 0 =
      ap (λ (l : List ℕ). get_or l i 0) (e ∙ p.1) ∙ get_or-append met p.0 0 i low in
      let size : length every ≡ length met + length p.0 = ap length (e ∙ p.1) ∙ length-append met p.0 in
      let there' : i < length every = omega arith in
      let counted : met_by_arcs (length met) (renumbered every (arcs_out_of (get_or every i 0) ts)) ≡ length (met_with met arcs) =
      ap (λ (g : ℕ). met_by_arcs (length met) (renumbered every (arcs_out_of g ts))) nth
      ∙ met_by_arcs-follows every arcs met q.0 (e ∙ met_from-step n i ts met low ∙ q.1) in
      ap (λ (l : List ℕ). met_by_states i (length met) (map state-at l)) (drop-cons every i 0 there')
      ∙ met_by_states-step i (length met) (state-at (get_or every i 0)) later low
      ∙ ap (λ (m : ℕ). met_by_states (suc i) m later) counted

  -- so over all states it meets as many as there are
  pub met_by_states-follows :
      (n i : ℕ) (met : List ℕ) → every ≡ met_from n i (transitions_of nodes groups) met → length every ≤ n + i →
      met_by_states i (length met) (map (state_of rows nodes groups every) (drop i every)) ≡ length every
  unfolding met_from
  met_by_states-follows zero i met e h = past_end i (length met) (omega arith) ∙ ap length (sym e)
  met_by_states-follows (suc n) i met e h =
      go (ltb i (length met)) refl (λ m d. met_by_states-follows n (suc i) m d (omega arith))
    where
      go :
          (b : Bool) → ltb i (length met) ≡ b →
          ((m : List ℕ) → every ≡ met_from n (suc i) (transitions_of nodes groups) m →
          met_by_states (suc i) (length m) (map (state_of rows nodes groups every) (drop (suc i) every)) ≡ length every) →
          met_by_states i (length met) (map (state_of rows nodes groups every) (drop i every)) ≡ length every
      go true t again =
          let low : i < length met = ltb-true i (length met) t in
          one_state n i met e low
          ∙ again (met_with met (arcs_out_of (get_or met i 0) (transitions_of nodes groups)))
          (e ∙ met_from-step n i (transitions_of nodes groups) met low)
      go false t again =
          let past : length met ≤ i = ltb-false i (length met) t in
          let ends : every ≡ met = e ∙ met_from-ends (suc n) i (transitions_of nodes groups) met past in
          let size : length every ≡ length met = ap length ends in
          past_end i (length met) (omega arith) ∙ sym size
