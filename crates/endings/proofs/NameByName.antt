-- The words that are admitted from a state, name by name: none, exactly where the state accepts; and one name more, by an arc.
-- Assumes nothing.
use mathlib.Core.Path.{◌≡◌, refl, sym, subst}
use mathlib.Core.Bool.{true}
use mathlib.Core.List.{List, [], ◌∷◌}
use Prim.Native.Nat.{ℕ, suc}
use lib.ListN.{get_or}
use Rattle.base.proofs.Tests.{Tells}
use Rattle.model.specs.Tables.{State, empty_state, target_in}
use Rattle.model.specs.Classes.{Word}
use Rattle.model.specs.Sources.{AdmittedFrom}
use Rattle.model.proofs.TableWalks.{reaches_steps, steps_reaches}

module _ (states : List State) where
  -- no name: the state accepts
  pub tells_none : (q : ℕ) → Tells (get_or states q empty_state).accepts (AdmittedFrom states q [])
  tells_none q =
      record {
        fact = λ e. record { end = q; way = steps_reaches states q q [] refl; accepting = e };
        test = λ h.
            subst (λ (k : ℕ). (get_or states k empty_state).accepts ≡ true) (sym (reaches_steps states q h.end [] h.way))
            h.accepting;
      }

  -- one name more: an arc by it, and what follows is admitted from its target
  pub admitted-cons :
      (q t x : ℕ) (w : Word) → target_in x (get_or states q empty_state).arcs ≡ suc t → AdmittedFrom states t w →
      AdmittedFrom states q (x ∷ w)
  admitted-cons q t x w e h =
      record {
        end = h.end;
        way = steps_reaches states q h.end (x ∷ w) (t, e, reaches_steps states t h.end w h.way);
        accepting = h.accepting;
      }

  -- and back
  pub cons_admitted :
      (q x : ℕ) (w : Word) → AdmittedFrom states q (x ∷ w) →
      (t : ℕ) × (target_in x (get_or states q empty_state).arcs ≡ suc t) × AdmittedFrom states t w
  cons_admitted q x w h =
      let s = reaches_steps states q h.end (x ∷ w) h.way in
      (s.0, s.1, record { end = h.end; way = steps_reaches states s.0 h.end w s.2; accepting = h.accepting })
