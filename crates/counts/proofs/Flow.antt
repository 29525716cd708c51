-- The flow of a table, of any rows: for each state arrivals, at the start plus one for each row, are departures plus ends. The passes
-- of a state's arcs are the steps that leave it, since of ascending names one arc has the name of a step. Assumes nothing.
use mathlib.Core.Path.{◌≡◌, refl, sym, ap, ap₂, ◌∙◌, subst, fun_ext}
use mathlib.Core.Logic.{◌⊎◌, inl, inr}
use mathlib.Core.Bool.{Bool, true, false, ◌&&◌}
use mathlib.Core.List.{List, [], ◌∷◌}
use Prim.Native.Nat.{ℕ, suc, ◌+◌, ◌<◌}
use native.Mathlib.Omega.{arith}
use borrow.Author.Tests.{eqb-true, eq-eqb, ne_eqb}
use lib.Dec.{eqb}
use lib.ListN.{length, get_or}
use Rattle.base.specs.Limits.{when}
use Rattle.base.specs.Lists.{total, how_many}
use Rattle.base.proofs.Tests.{eq_dec}
use Rattle.base.proofs.Totals.{when-zero, total-same, total-zero, total-ones, total-when, total-add, total-swap, total-flat_map}
use Rattle.base.proofs.Totals.{total-number}
use Rattle.model.specs.Classes.{Word}
use Rattle.model.specs.Tables.{Arc, State, empty_state, target_in, walk, walk_from, Ascending}
use Rattle.model.specs.Joinings.{Transition}
use Rattle.model.proofs.Admits.{target_in-here, target_in-there}
use Rattle.model.proofs.Arcs.{ascending_low}
use Rattle.counts.specs.Counts.{steps_from, trail, ends_at, passes_of, departures, numbers_of, arrivals}
use Rattle.counts.proofs.Steps.{some_below, ByArc, trail-by_arcs, walk-flow}

-- ---- the arcs of one state

-- the number of an arc with this name and such a target
abbrev named : (ℕ → Bool) → ℕ → Arc → ℕ
named to-it x a = when (to-it a.to) (when (eqb x a.name) 1)

-- an arc of another name does not count
other_name : (to-it : ℕ → Bool) (x : ℕ) (a : Arc) → (x ≡ a.name → ⊥) → named to-it x a ≡ 0
other_name to-it x a other =
    ap (λ (b : Bool). when (to-it a.to) (when b 1)) (ne_eqb x a.name other) ∙ when-zero (to-it a.to)

-- of arcs with ascending names one has the name of a step
one_arc :
    (to-it : ℕ → Bool) (x t next : ℕ) (arcs : List Arc) → Ascending next arcs → target_in x arcs ≡ suc t →
    total (named to-it x) arcs ≡ when (to-it t) 1
unfolding total target_in
one_arc to-it x t next [] up e = let z : ⊥ = omega arith in absurd z
one_arc to-it x t next (a ∷ arcs) up e = go (eq_dec x a.name) (one_arc to-it x t (suc a.name) arcs up.1)
  where
    go :
        (x ≡ a.name) ⊎ (x ≡ a.name → ⊥) → (target_in x arcs ≡ suc t → total (named to-it x) arcs ≡ when (to-it t) 1) →
        named to-it x a + total (named to-it x) arcs ≡ when (to-it t) 1
    go (inl same) again =
        let target : suc a.to ≡ suc t = sym (target_in-here x a arcs same) ∙ e in
        let to : a.to ≡ t = omega arith in
        let first : named to-it x a ≡ when (to-it t) 1 =
        ap₂ (λ (k : ℕ) (b : Bool). when (to-it k) (when b 1)) to (eq-eqb x a.name same) in
        let rest : total (named to-it x) arcs ≡ 0 =
        total-zero (named to-it x) arcs (λ c m.
        other_name to-it x c (λ (z : x ≡ c.name). omega (arith, ascending_low (suc a.name) arcs c up.1 m))) in
        omega arith
    go (inr other) again =
        omega (arith, other_name to-it x a other, again (sym (target_in-there x a arcs other) ∙ e))

-- ---- all steps

-- a step leaves a state of the table: past the end there are no arcs
from_below : (states : List State) (s : Transition) → ByArc states s → s.from < length states
unfolding target_in
from_below states s by-arc =
    some_below states s.from
    (λ e.
    let none : 0 ≡ suc s.to = sym (ap (λ (q : State). target_in s.name q.arcs) e) ∙ by-arc in
    omega arith)

module _
    (states : List State) (rows : List Word) (ascending : (q : ℕ) → Ascending 0 (get_or states q empty_state).arcs) where
  -- the arcs of a state that a step goes by: one where the step leaves it, and otherwise none
  arcs-of-step :
      (to-it : ℕ → Bool) (p : ℕ) (s : Transition) → ByArc states s →
      total (λ (a : Arc). when (to-it a.to) (when (eqb s.from p && eqb s.name a.name) 1))
      (get_or states p empty_state).arcs
      ≡ when (eqb s.from p) (when (to-it s.to) 1)
  arcs-of-step to-it p s by-arc = go (eqb s.from p) refl
    where
      arcs : List Arc
      arcs = (get_or states p empty_state).arcs

      go :
          (b : Bool) → eqb s.from p ≡ b →
          total (λ (a : Arc). when (to-it a.to) (when (b && eqb s.name a.name) 1)) arcs
          ≡ when b (when (to-it s.to) 1)
      go true e =
          one_arc to-it s.name s.to 0 arcs (ascending p)
          (subst (λ (q : ℕ). target_in s.name (get_or states q empty_state).arcs ≡ suc s.to) (eqb-true s.from p e) by-arc)
      go false e = total-zero (λ (a : Arc). when (to-it a.to) 0) arcs (λ a m. when-zero (to-it a.to))

  -- the passes of a state's arcs to such targets are the steps that leave it for them
  passes_are_steps :
      (to-it : ℕ → Bool) (p : ℕ) →
      total (λ (a : Arc). when (to-it a.to) (passes_of states rows p a.name)) (get_or states p empty_state).arcs
      ≡ total (λ (s : Transition). when (eqb s.from p) (when (to-it s.to) 1)) (trail states rows)
  unfolding passes_of
  passes_are_steps to-it p =
      ap (λ (f : Arc → ℕ). total f arcs)
      (fun_ext (λ (a : Arc). total-when (to-it a.to) (passes a.name) (trail states rows)))
      ∙ total-swap counted arcs (trail states rows)
      ∙ total-same (λ (s : Transition). total (λ (a : Arc). counted a s) arcs)
      (λ (s : Transition). when (eqb s.from p) (when (to-it s.to) 1)) (trail states rows)
      (λ s m. arcs-of-step to-it p s (trail-by_arcs states rows s m))
    where
      arcs : List Arc
      arcs = (get_or states p empty_state).arcs

      passes : ℕ → Transition → ℕ
      passes x s = when (eqb s.from p && eqb s.name x) 1

      counted : Arc → Transition → ℕ
      counted a s = when (to-it a.to) (passes a.name s)

  -- departures are the steps that leave a state
  departures-are_steps :
      (q : ℕ) → departures states rows q ≡ how_many (λ (s : Transition). eqb s.from q) (trail states rows)
  unfolding departures
  departures-are_steps q = passes_are_steps (λ (t : ℕ). true) q

  -- arrivals are the steps that enter it
  arrivals-are_steps : (q : ℕ) → arrivals states rows q ≡ how_many (λ (s : Transition). eqb s.to q) (trail states rows)
  unfolding arrivals
  arrivals-are_steps q =
      ap (λ (f : ℕ → ℕ). total f (numbers_of states)) (fun_ext (passes_are_steps (λ (t : ℕ). eqb t q)))
      ∙ total-swap entering (numbers_of states) (trail states rows)
      ∙ total-same (λ (s : Transition). total (λ (p : ℕ). entering p s) (numbers_of states))
      (λ (s : Transition). when (eqb s.to q) 1) (trail states rows)
      (λ s m.
      let below : s.from < length states = from_below states s (trail-by_arcs states rows s m) in
      total-number (length states) 0 s.from (when (eqb s.to q) 1) (omega arith) (omega arith))
    where
      entering : ℕ → Transition → ℕ
      entering p s = when (eqb s.from p) (when (eqb s.to q) 1)

  -- the flow
  pub flow_holds :
      (q : ℕ) →
      when (eqb 0 q) (length rows) + arrivals states rows q ≡ departures states rows q + ends_at states rows q
  unfolding ends_at trail walk
  flow_holds q = omega (
    arith,
    arrivals-are_steps q,
    departures-are_steps q,
    total-flat_map enters (steps_from states 0) rows,
    total-flat_map leaves (steps_from states 0) rows,
    total-add (λ (row : Word). when (eqb 0 q) 1) (λ (row : Word). total enters (steps_from states 0 row)) rows,
    total-add (λ (row : Word). total leaves (steps_from states 0 row))
        (λ (row : Word). when (eqb (walk_from states 0 0 row).at_state q) 1) rows,
    ap (λ (f : Word → ℕ). total f rows) (fun_ext (λ (row : Word). walk-flow states q row 0 0)),
    begun,
  )
    where
      enters : Transition → ℕ
      enters s = when (eqb s.to q) 1

      leaves : Transition → ℕ
      leaves s = when (eqb s.from q) 1

      begun : total (λ (row : Word). when (eqb 0 q) 1) rows ≡ when (eqb 0 q) (length rows)
      begun = sym (total-when (eqb 0 q) (λ (row : Word). 1) rows) ∙ ap (when (eqb 0 q)) (total-ones rows)
