-- The steps of a walk against the walk itself: what a walk does by one name, what each step is, how many there are, the step of a
-- walk that goes by a word and then by a name, and the flow of one walk. Assumes nothing.
use mathlib.Core.Path.{◌≡◌, refl, sym, ap, ◌∙◌, subst}
use mathlib.Core.Logic.{◌⊎◌, inl, inr, ⊎_elim}
use mathlib.Core.Bool.{true, false}
use mathlib.Core.List.Memᴰ.{head as here}
use mathlib.Core.List.Memᴰ.{tail as there}
use mathlib.Core.List.{List, [], ◌∷◌, ◌++◌, Memᴰ as In}
use mathlib.Core.List.Memᴰ
use Prim.Native.Nat.{ℕ, zero, suc, ◌+◌, ◌-◌, ◌≤◌, ◌<◌}
use native.Mathlib.Omega.{arith}
use lib.Dec.{eqb, eqb-suc-zero}
use lib.ListN.{length, get_or, get_or-eq_default}
use Rattle.base.specs.Limits.{when}
use Rattle.base.specs.Lists.{total, how_many}
use Rattle.base.proofs.Tests.{le_or_lt}
use Rattle.base.proofs.Lists.{flat_map-in}
use Rattle.model.specs.Classes.{Word}
use Rattle.model.specs.Tables.{State, empty_state, target_in, Walk, walk_at, walk_from}
use Rattle.model.specs.Joinings.{Transition, transition}
use Rattle.model.proofs.Admits.{walk-stops, walk-goes}
use Rattle.model.proofs.TableWalks.{Steps}
use Rattle.counts.specs.Counts.{steps_from, trail}

-- a state of a table, by what is there: past the end nothing accepts and there are no arcs
pub some_below : (states : List State) (q : ℕ) → (get_or states q empty_state ≡ empty_state → ⊥) → q < length states
some_below states q some = go (le_or_lt (length states) q)
  where
    go : (length states ≤ q) ⊎ (q < length states) → q < length states
    go (inl past) = absurd (some (get_or-eq_default states empty_state past))
    go (inr low) = low

-- a step is by an arc of the state that it leaves
abbrev pub ByArc : List State → Transition → Type 0
ByArc states s = target_in s.name (get_or states s.from empty_state).arcs ≡ suc s.to

-- ---- one name

-- what a walk from a state does by its next name, n names having been walked: it stops, or it takes a step and goes on
data ByName (states : List State) (q n x : ℕ) (xs : Word) : Type 0 where
  stops : steps_from states q (x ∷ xs) ≡ [] → walk_from states q n (x ∷ xs) ≡ walk_at q n → ByName states q n x xs
  goes :
      (k : ℕ) → ByArc states (transition q x k) → steps_from states q (x ∷ xs) ≡ transition q x k ∷ steps_from states k xs →
      walk_from states q n (x ∷ xs) ≡ walk_from states k (suc n) xs → ByName states q n x xs

module _ (states : List State) (q x : ℕ) (xs : Word) where
  -- the steps once the target is known
  abbrev onward : ℕ → List Transition
  onward t = elim (eqb t 0) [ true ↦ [] | false ↦ transition q x (t - 1) ∷ steps_from states (t - 1) xs ]

  -- an arc by the name: one step, and those from its target on
  pub steps_go :
      (k : ℕ) → ByArc states (transition q x k) → steps_from states q (x ∷ xs) ≡ transition q x k ∷ steps_from states k xs
  unfolding steps_from
  steps_go k e =
      let less : suc k - 1 ≡ k = omega arith in
      ap onward e ∙ rw (eqb-suc-zero k, onward) (ap (λ (t : ℕ). transition q x t ∷ steps_from states t xs) less)

  -- each name does one of the two
  by_name : (n : ℕ) → ByName states q n x xs
  unfolding steps_from
  by_name n = go (target_in x (get_or states q empty_state).arcs) refl
    where
      go : (t : ℕ) → target_in x (get_or states q empty_state).arcs ≡ t → ByName states q n x xs
      go zero e = stops (ap onward e) (walk-stops states q n x xs e)
      go (suc k) e = goes k e (steps_go k e) (walk-goes states q n x xs k e)

-- ---- all names

module _ (states : List State) where
  -- each step of a walk is by an arc
  steps_by_arcs : (w : Word) (p : ℕ) (s : Transition) → In s (steps_from states p w) → ByArc states s
  unfolding steps_from
  steps_by_arcs [] p s m = absurd (Memᴰ.not-nil m)
  steps_by_arcs (x ∷ xs) p s m = go (by_name states p x xs 0) (λ k. steps_by_arcs xs k s)
    where
      go : ByName states p 0 x xs → ((k : ℕ) → In s (steps_from states k xs) → ByArc states s) → ByArc states s
      go (stops e f) again = absurd (Memᴰ.not-nil (subst (λ (l : List Transition). In s l) e m))
      go (goes k a e f) again =
          ⊎_elim (λ (same : s ≡ transition p x k). subst (ByArc states) (sym same) a) (again k)
          (Memᴰ.cases_cons (subst (λ (l : List Transition). In s l) e m))

  -- so is each step of the rows' walks
  pub trail-by_arcs : (rows : List Word) (s : Transition) → In s (trail states rows) → ByArc states s
  unfolding trail
  trail-by_arcs rows s m =
      let r = flat_map-in (steps_from states 0) rows m in
      steps_by_arcs r.0 0 s r.2

  -- there are at most as many as there are names
  pub steps_few : (w : Word) (p : ℕ) → length (steps_from states p w) ≤ length w
  unfolding steps_from
  steps_few [] p = omega arith
  steps_few (x ∷ xs) p = go (by_name states p x xs 0) (steps_few xs)
    where
      go :
          ByName states p 0 x xs → ((k : ℕ) → length (steps_from states k xs) ≤ length xs) →
          length (steps_from states p (x ∷ xs)) ≤ suc (length xs)
      go (stops e f) again = let size = ap length e in omega arith
      go (goes k a e f) again = let size = ap length e in omega (arith, again k)

  -- where arcs lead by a word to a state and on by a name, that step is among those of every longer word
  pub step_after :
      (u v : Word) (p z a t : ℕ) → Steps states p u z → ByArc states (transition z a t) →
      In (transition z a t) (steps_from states p (u ++ (a ∷ v)))
  step_after [] v p z a t s by-arc =
      subst (λ (k : ℕ). In (transition z a t) (steps_from states k (a ∷ v))) (sym s)
      (subst (λ (l : List Transition). In (transition z a t) l) (sym (steps_go states z a v t by-arc)) (here refl))
  step_after (x ∷ u) v p z a t s by-arc =
      subst (λ (l : List Transition). In (transition z a t) l) (sym (steps_go states p x (u ++ (a ∷ v)) s.0 s.1))
      (there (step_after u v s.0 z a t s.2 by-arc))

  -- the flow of one walk: it comes to a state as often as it leaves it or ends there, its beginning being one coming
  pub walk-flow :
      (q : ℕ) (w : Word) (p n : ℕ) →
      when (eqb p q) 1 + how_many (λ (s : Transition). eqb s.to q) (steps_from states p w)
      ≡ how_many (λ (s : Transition). eqb s.from q) (steps_from states p w) + when (eqb (walk_from states p n w).at_state q) 1
  unfolding steps_from walk_from total
  walk-flow q [] p n = omega arith
  walk-flow q (x ∷ xs) p n = go (by_name states p x xs n) (λ k. walk-flow q xs k (suc n))
    where
      Flows : List Transition → ℕ → Type 0
      Flows steps end =
          when (eqb p q) 1 + how_many (λ (s : Transition). eqb s.to q) steps
          ≡ how_many (λ (s : Transition). eqb s.from q) steps + when (eqb end q) 1

      go :
          ByName states p n x xs →
          ((k : ℕ) →
          when (eqb k q) 1 + how_many (λ (s : Transition). eqb s.to q) (steps_from states k xs)
          ≡ how_many (λ (s : Transition). eqb s.from q) (steps_from states k xs)
          + when (eqb (walk_from states k (suc n) xs).at_state q) 1) →
          Flows (steps_from states p (x ∷ xs)) (walk_from states p n (x ∷ xs)).at_state
      go (stops e f) again =
          let none : Flows [] p = omega arith in
          subst (λ (l : List Transition). Flows l (walk_from states p n (x ∷ xs)).at_state) (sym e)
          (subst (λ (v : Walk). Flows [] v.at_state) (sym f) none)
      go (goes k a e f) again =
          let more : Flows (transition p x k ∷ steps_from states k xs) (walk_from states k (suc n) xs).at_state =
          omega (arith, again k) in
          subst (λ (l : List Transition). Flows l (walk_from states p n (x ∷ xs)).at_state) (sym e)
          (subst (λ (v : Walk). Flows (transition p x k ∷ steps_from states k xs) v.at_state) (sym f) more)
