-- Which rows begin an admitted row: those that lead to a live state, which are those that can be walked over the trimmed table; and by
-- which names a walk goes further. Assumes nothing.
use mathlib.Core.Path.{◌≡◌, refl, sym, ◌∙◌, subst}
use mathlib.Core.Logic.{◌↔◌}
use mathlib.Core.Bool.{true, false, true≢false}
use mathlib.Core.List.{List, [], ◌∷◌, ◌++◌}
use Prim.Native.Nat.{ℕ}
use lib.ListN.{get_or}
use Rattle.base.specs.Bits.{bit}
use Rattle.model.specs.Tables.{arc, State, empty_state, name_set, admits}
use Rattle.model.specs.Classes.{Word}
use Rattle.model.specs.Sources.{Reaches}
use Rattle.model.proofs.NameSets.{bit-name_set}
use Rattle.model.proofs.Reached.{target_of_lem}
use Rattle.model.proofs.Walkable.{target_arc}
use Rattle.model.proofs.TableWalks.{reaches_one, reaches_append, reaches_split, reaches_steps, steps_reaches, admitted-cut}
use Rattle.model.proofs.TableWalks.{tells_admitted, word_tails}
use Rattle.endings.specs.Words.{BeginsAdmitted}
use Rattle.endings.specs.Live.{HasWay, ArcsAscend, is_live, trimmed}
use Rattle.endings.proofs.Trimmed.{live-walked}

-- a row begins an admitted one exactly where it leads to a live state
pub begins_live :
    (states : List State) (u : Word) → BeginsAdmitted states u ↔ ((q : ℕ) × Reaches states 0 u q × HasWay states q)
begins_live states u = (
  λ b.
      let r = admitted-cut states 0 u b.rest ((tells_admitted states (u ++ b.rest)).fact b.is_admitted) in
      (r.0, r.1, (b.rest, r.2)),
  λ r. record { rest = r.2.0; is_admitted = (word_tails states u r.2.0 r.0 r.1).1 r.2.1 },
)

-- over any table, the names of the arcs out of a state that a word reaches are those by which the word can be walked further
pub next_names :
    (states : List State) → ArcsAscend states → (u : Word) (p : ℕ) → Reaches states 0 u p → (x : ℕ) →
    (bit x (name_set (get_or states p empty_state).arcs) ≡ 1) ↔ ((q : ℕ) × Reaches states 0 (u ++ (x ∷ [])) q)
next_names states up u p way x =
    let arcs = (get_or states p empty_state).arcs in (
      λ h.
          let r = (bit-name_set 0 arcs (up p) x).0 h in
          let step = steps_reaches states p r.0 (x ∷ []) (r.0, target_of_lem 0 arcs (arc x r.0) (up p) r.1, refl) in
          (r.0, reaches_append states 0 p r.0 u (x ∷ []) way step),
      λ r.
          let apart = reaches_split states 0 r.0 u (x ∷ []) r.1 in
          let same : apart.0 ≡ p = reaches_one states 0 apart.0 p u apart.1 way in
          let at_p = subst (λ (z : ℕ). Reaches states z (x ∷ []) r.0) same apart.2 in
          let step = reaches_steps states p r.0 (x ∷ []) at_p in
          (bit-name_set 0 arcs (up p) x).1 (step.0, target_arc x step.0 arcs step.1),
    )

-- where no row is admitted, none begins an admitted one
pub none-begins :
    (states : List State) → ((w : Word) → admits states w ≡ false) → (u : Word) → BeginsAdmitted states u → ⊥
none-begins states none u b = true≢false (sym b.is_admitted ∙ none (u ++ b.rest))

-- where one is, a row begins an admitted one exactly where it can be walked over the trimmed table
pub begins_walked :
    (states : List State) → ArcsAscend states → is_live states 0 ≡ true →
    (u : Word) → BeginsAdmitted states u ↔ ((q : ℕ) × Reaches (trimmed states) 0 u q)
begins_walked states up start u = (
  λ b. let r = (begins_live states u).0 b in (r.0, (live-walked states up start u r.0).1 (r.1, r.2)),
  λ r.
      let w = (live-walked states up start u r.0).0 r.1 in
      (begins_live states u).1 (r.0, w.0, w.1),
)
