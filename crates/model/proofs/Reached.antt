-- A table that is numbered first-met has no state that cannot be reached: the states met so far are reached, first by the arcs
-- of one state, then state by state. Assumes nothing.
use mathlib.Core.Path.{◌≡◌, refl, sym, ap, ◌∙◌, subst}
use mathlib.Core.Logic.{◌⊎◌, inl, inr, ⊎_elim}
use mathlib.Core.Bool.{Bool, true, false}
use mathlib.Core.List.Memᴰ.{head as here}
use mathlib.Core.List.Memᴰ.{tail as there}
use mathlib.Core.List.{List, [], ◌∷◌, Memᴰ as In}
use mathlib.Core.List.Memᴰ
use mathlib.Core.List.{cons≢nil, head-eq_of_cons-eq, tail-eq_of_cons-eq}
use Prim.Native.Nat.{ℕ, suc, ◌≤◌, ◌<◌}
use native.Mathlib.Omega.{arith}
use lib.Dec.{eqb, ltb}
use lib.ListN.{length, get_or, drop, drop_of_length-le}
use lib.Seq.{drop-cons}
use borrow.Author.Tests.{eqb-true, ltb-true}
use Rattle.model.specs.Classes.{Word}
use Rattle.model.specs.Tables.{Arc, State, empty_state, target_in, met_by_arcs, met_by_states, is_first_met, Ascending}
use Rattle.model.specs.Sources.{Reaches, AllReached}
use Rattle.base.proofs.Tests.{decided, tells_ltb}
use Rattle.model.proofs.Notions.{◌▸◌}
use Rattle.model.proofs.Arcs.{ascending_low}
use Rattle.model.proofs.Admits.{target_in-here, target_in-there}
use Rattle.model.proofs.TableWalks.{reaches_append, steps_reaches}

-- among arcs with ascending names the target by a name is that of the arc with the name
pub target_of_lem : (next : ℕ) (arcs : List Arc) (z : Arc) → Ascending next arcs → In z arcs → target_in z.name arcs ≡ suc z.to
target_of_lem next [] z up m = absurd (Memᴰ.not-nil m)
target_of_lem next (a ∷ arcs) z up m = go (Memᴰ.cases_cons m) (target_of_lem (suc a.name) arcs z up.1)
  where
    go :
        (z ≡ a) ⊎ In z arcs → (In z arcs → target_in z.name arcs ≡ suc z.to) →
        target_in z.name (a ∷ arcs) ≡ suc z.to
    go (inl e) again =
        target_in-here z.name a arcs (ap (λ (x : Arc). x.name) e) ∙ ap (λ (x : Arc). suc x.to) (sym e)
    go (inr n) again =
        let low : suc a.name ≤ z.name = ascending_low (suc a.name) arcs z up.1 n in
        target_in-there z.name a arcs (λ e. omega arith) ∙ again n

module _ (states : List State) (ascending : (q : ℕ) → Ascending 0 (get_or states q empty_state).arcs) where
  -- the states below m are reached
  abbrev MetReached : ℕ → Type 0
  MetReached m = (q : ℕ) → q < m → (w : Word) × Reaches states 0 w q

  -- and so is the next one, by an arc from one of them
  one_more :
      (i m : ℕ) (a : Arc) → (w : Word) × Reaches states 0 w i → In a (get_or states i empty_state).arcs → a.to ≡ m →
      MetReached m → MetReached (suc m)
  one_more i m a here-by among new met q h = go (decided (tells_ltb q m))
    where
      go : (q < m) ⊎ (q < m → ⊥) → (w : Word) × Reaches states 0 w q
      go (inl low) = met q low
      go (inr high) =
          let is : a.to ≡ q = omega (arith, high) in (
            here-by.0 ▸ a.name,
            reaches_append states 0 i q here-by.0 (a.name ∷ []) here-by.1
                (steps_reaches states i q (a.name ∷ [])
                (a.to, target_of_lem 0 (get_or states i empty_state).arcs a (ascending i) among, is)),
          )

  -- what the arcs of a state that is reached meet
  arcs_reached :
      (i : ℕ) → (w : Word) × Reaches states 0 w i → (arcs : List Arc) →
      ((a : Arc) → In a arcs → In a (get_or states i empty_state).arcs) → (m : ℕ) → MetReached m → MetReached (met_by_arcs m arcs)
  unfolding met_by_arcs
  arcs_reached i here-by [] among m met = met
  arcs_reached i here-by (a ∷ arcs) among m met =
      go (ltb a.to m) (eqb a.to m) refl (arcs_reached i here-by arcs (λ b n. among b (there n)))
    where
      go :
          (b d : Bool) → eqb a.to m ≡ d → ((n : ℕ) → MetReached n → MetReached (met_by_arcs n arcs)) →
          MetReached (elim b [ true ↦ met_by_arcs m arcs | false ↦ elim d [ true ↦ met_by_arcs (suc m) arcs | false ↦ 0 ] ])
      go true d e again = again m met
      go false true e again = again (suc m) (one_more i m a here-by (among a (here refl)) (eqb-true a.to m e) met)
      go false false e again = λ q h. let z : ⊥ = omega arith in absurd z

  -- what the states from the i-th on meet
  states-reached :
      (rest : List State) (i m : ℕ) → drop i states ≡ rest → MetReached m → MetReached (met_by_states i m rest)
  unfolding met_by_states
  states-reached [] i m e met = met
  states-reached (s ∷ rest) i m e met = go (ltb i m) refl (states-reached rest (suc i))
    where
      -- the first of them is the i-th
      inside : i < length states
      inside =
          ⊎_elim (λ low. low)
          (λ high.
          let past : length states ≤ i = omega (arith, high) in
          absurd (cons≢nil (sym e ∙ drop_of_length-le states past)))
          (decided (tells_ltb i (length states)))

      first : get_or states i empty_state ∷ drop (suc i) states ≡ s ∷ rest
      first = sym (drop-cons states i empty_state inside) ∙ e

      go :
          (b : Bool) → ltb i m ≡ b →
          ((n : ℕ) → drop (suc i) states ≡ rest → MetReached n → MetReached (met_by_states (suc i) n rest)) →
          MetReached (elim b [ true ↦ met_by_states (suc i) (met_by_arcs m s.arcs) rest | false ↦ 0 ])
      go true low again =
          again (met_by_arcs m s.arcs) (tail-eq_of_cons-eq first)
          (arcs_reached i (met i (ltb-true i m low)) s.arcs
          (λ a n. subst (λ (x : State). In a x.arcs) (sym (head-eq_of_cons-eq first)) n) m met)
      go false low again = λ q h. let z : ⊥ = omega arith in absurd z

  -- so all states of a table that is numbered first-met are reached
  pub all-reached : is_first_met states ≡ true → AllReached states
  unfolding is_first_met
  all-reached numbered =
      subst MetReached (eqb-true (met_by_states 0 1 states) (length states) numbered)
      (states-reached states 0 1 refl (λ q h.
      let is : 0 ≡ q = omega arith in
      ([], steps_reaches states 0 q [] is)))
