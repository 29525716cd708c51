-- Where every state rises (it accepts, or has an arc to a state of a higher number), every state leads to an end. Assumes nothing.
use mathlib.Core.Path.{◌≡◌}
use mathlib.Core.Logic.{◌⊎◌, inl, inr}
use mathlib.Core.Bool.{true}
use mathlib.Core.List.{List, [], ◌∷◌, Memᴰ as In}
use Prim.Native.Nat.{ℕ, zero, suc, ◌+◌, ◌≤◌, ◌<◌}
use native.Mathlib.Omega.{arith}
use lib.ListN.{length, get_or}
use Rattle.model.specs.Tables.{Arc, State, empty_state}
use Rattle.model.proofs.Reached.{target_of_lem}
use Rattle.endings.specs.Live.{HasWay, ArcsAscend}
use Rattle.endings.proofs.NameByName.{tells_none, admitted-cons}

module _ (states : List State) (ascend : ArcsAscend states) where
  -- a state that accepts leads to an end: itself
  accepting_live : (q : ℕ) → (get_or states q empty_state).accepts ≡ true → HasWay states q
  accepting_live q accepts = ([], (tells_none states q).fact accepts)

  -- and so does one with an arc to a state that does
  arc-live : (q : ℕ) (a : Arc) → In a (get_or states q empty_state).arcs → HasWay states a.to → HasWay states q
  arc-live q a among on =
      let found = target_of_lem 0 (get_or states q empty_state).arcs a (ascend q) among in
      (a.name ∷ on.0, admitted-cons states q a.to a.name on.0 found on.1)

  module _
      (rise : (q : ℕ) → q < length states →
      ((get_or states q empty_state).accepts ≡ true)
      ⊎ ((a : Arc) × In a (get_or states q empty_state).arcs × (q < a.to) × (a.to < length states))) where
    -- the last n states lead to ends
    last-live : (n q : ℕ) → q < length states → length states ≤ q + n → HasWay states q
    last-live zero q low high = let z : ⊥ = omega arith in absurd z
    last-live (suc n) q low high = go (rise q low) (last-live n)
      where
        go :
            ((get_or states q empty_state).accepts ≡ true)
            ⊎ ((a : Arc) × In a (get_or states q empty_state).arcs × (q < a.to) × (a.to < length states)) →
            ((p : ℕ) → p < length states → length states ≤ p + n → HasWay states p) → HasWay states q
        go (inl accepts) again = accepting_live q accepts
        go (inr a) again =
            let up : q < a.0.to = a.2 in
            arc-live q a.0 a.1 (again a.0.to a.3 (omega arith))

    -- so all do
    pub all_live : (q : ℕ) → q < length states → HasWay states q
    all_live q low = last-live (length states) q low (omega arith)
