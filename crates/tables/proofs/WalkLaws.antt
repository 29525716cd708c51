-- Walks: a state's target through the offset that the lent area keeps, and whether it is marked; one step, the end and the stop of a
-- walk, as the definition has them. Assumes nothing.
use mathlib.Core.Path.{◌≡◌, refl, sym, ap, ◌∙◌}
use mathlib.Core.Bool.{Bool, false, not, cond}
use mathlib.Core.List.{List, ◌∷◌}
use Prim.Native.Nat.{ℕ, suc, ◌+◌, ◌-◌, ◌≤◌, ◌<◌}
use native.Mathlib.Numerals.{add-one}
use native.Mathlib.Omega.{arith}
use borrow.Author.Tests.{eq-eqb, ne_eqb}
use lib.Dec.{eqb}
use lib.ListN.{length, get_or, drop, drop_of_length-le}
use lib.Seq.{drop-cons}
use Rattle.model.specs.Tables as model
use Rattle.model.specs.Tables.{State, empty_state, state_in, target_in, walk_at, walk_from}
use Rattle.model.specs.Calls.{table_states}
use Rattle.endings.specs.Live.{trimmed, Marked}
use Rattle.tables.specs.Arcs.{is_marked}
use Rattle.tables.specs.Accepting.{StateAt, Ready}
use Rattle.tables.specs.Walking.{target_of, MovedTo, WalkedAs}
use Rattle.tables.specs.declared.walks.Walk.{Walk}
use Rattle.tables.proofs.MetLaws.{target_in-table}
use Rattle.tables.proofs.ReadyLaws.{ready_ascends}
use Rattle.tables.proofs.Marks.{length-trimmed, target_none, target-marked}

-- what is found in a state's field is the target in the table
pub target_is :
    {n : ℕ} (states : List State) (body : List ℕ) (q name : ℕ) → StateAt states q body → target_in name (state_in body).arcs ≡ n →
    target_of states q name ≡ n
unfolding target_of
target_is states body q name at e = ap (λ (st : State). target_in name st.arcs) (sym at.means) ∙ e

-- one step over the table, heeding marks: what is found there, and the trimmed table's target
module _
    (s work marks : List ℕ) (w : Walk) (name : ℕ) (ready : Ready s work) (marked : Marked (table_states s) marks)
    (h : w.state < length (table_states s)) where
  -- no arc
  pub stops-unfound : target_of (table_states s) w.state name ≡ 0 → target_of (trimmed (table_states s)) w.state name ≡ 0
  stops-unfound e = target_none (table_states s) marks marked (ready_ascends s work ready) w.state name e

  module _ (to : ℕ) (found : target_of (table_states s) w.state name ≡ suc to) where
    -- a target is a state
    pub target-inside : to < length (table_states s)
    unfolding target_of
    target-inside = omega (arith, target_in-table name (table_states s) ready.first_met w.state h)

    trimmed-is : target_of (trimmed (table_states s)) w.state name ≡ cond (is_marked (get_or marks to 0)) (suc to) 0
    trimmed-is = target-marked (table_states s) marks marked (ready_ascends s work ready) w.state name to found target-inside

    -- an arc to a state that is not marked
    pub stops-unmarked : get_or marks to 0 ≡ 0 → target_of (trimmed (table_states s)) w.state name ≡ 0
    stops-unmarked e = trimmed-is ∙ ap (λ (b : Bool). cond (not b) (suc to) 0) (eq-eqb (get_or marks to 0) 0 e)

    -- an arc to a marked state
    pub moved_to :
        (get_or marks to 0 ≡ 0 → ⊥) → MovedTo (trimmed (table_states s)) w name (record { state = to; taken = w.taken + 1 })
    moved_to m =
        record {
          target = trimmed-is ∙ ap (λ (b : Bool). cond (not b) (suc to) 0) (ne_eqb (get_or marks to 0) 0 m);
          one_more = add-one w.taken;
          in_table = omega (arith, target-inside, length-trimmed (table_states s));
        }

-- walking goes on from this walk with the names from i on
pub record Walking (states : List State) (row : List ℕ) (w : Walk) (i : ℕ) : Type 0 where
  pub in_table : w.state < length states
  pub taken_is : w.taken ≡ i
  pub within : i ≤ length row
  pub rest : walk_from states w.state w.taken (drop i row) ≡ model.walk states row

pub walking-begins : (states : List State) (row : List ℕ) → 0 < length states
    → Walking states row (record { state = 0; taken = 0 }) 0
unfolding model.walk
walking-begins states row h = record { in_table = h; taken_is = refl; within = omega arith; rest = refl }

module _ (states : List State) (q n name : ℕ) (row : List ℕ) where
  one_on : (t : ℕ) → target_of states q name ≡ suc t → walk_from states q n (name ∷ row) ≡ walk_from states t (suc n) row
  unfolding walk_from target_of
  one_on t e =
      let back : target_in name (get_or states q empty_state).arcs - 1 ≡ t = omega arith in
      let some : eqb (target_in name (get_or states q empty_state).arcs) 0 ≡ false =
      ne_eqb (target_in name (get_or states q empty_state).arcs) 0
      (λ (z : target_in name (get_or states q empty_state).arcs ≡ 0). omega arith) in
      rw (some, walk_from) (ap (λ (p : ℕ). walk_from states p (suc n) row) back)

  stops-there : target_of states q name ≡ 0 → walk_from states q n (name ∷ row) ≡ walk_at q n
  unfolding walk_from target_of
  stops-there e = rw (eq-eqb (target_in name (get_or states q empty_state).arcs) 0 e, walk_from)

module _ (states : List State) (row : List ℕ) (w : Walk) (i : ℕ) (now : Walking states row w i) where
  pub walking-goes : (next : Walk) → i < length row → MovedTo states w (get_or row i 0) next → Walking states row next (i + 1)
  walking-goes next h m =
      record {
        in_table = m.in_table;
        taken_is = omega (arith, m.one_more, now.taken_is);
        within = omega arith;
        rest =
            rw (m.one_more, add-one)
            (sym (one_on states w.state w.taken (get_or row i 0) (drop (suc i) row) next.state m.target))
            ∙ ap (walk_from states w.state w.taken) (sym (drop-cons row i 0 h))
            ∙ now.rest;
      }

  pub walking-stops : i < length row → target_of states w.state (get_or row i 0) ≡ 0 → WalkedAs states row w
  walking-stops h e =
      record {
        is =
            sym (stops-there states w.state w.taken (get_or row i 0) (drop (suc i) row) e)
            ∙ ap (walk_from states w.state w.taken) (sym (drop-cons row i 0 h))
            ∙ now.rest;
        in_table = now.in_table;
        within = omega (arith, now.taken_is);
      }

  pub walking-ends : length row ≤ i → WalkedAs states row w
  unfolding walk_from
  walking-ends h =
      record {
        is = sym (ap (walk_from states w.state w.taken) (drop_of_length-le row h)) ∙ now.rest;
        in_table = now.in_table;
        within = omega (arith, now.taken_is, now.within);
      }
