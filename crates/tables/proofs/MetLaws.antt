-- First-met numbering: one arc, one state and the end, as the code takes them; then that the numbers met only grow, and that every
-- arc of a table so numbered leads to one of its states. Assumes nothing.
use mathlib.Core.Path.{◌≡◌, refl, ap}
use mathlib.Core.Bool.{Bool, true, false, false≢true}
use mathlib.Core.List.{List, [], ◌∷◌}
use Prim.Native.Nat.{ℕ, zero, suc, ◌+◌, ◌≤◌, ◌<◌}
use native.Mathlib.Numerals.{add-one}
use native.Mathlib.Omega.{arith}
use borrow.Author.Tests.{lt-ltb, le-ltb, eq-eqb, ne_eqb, ltb-true, eqb-true}
use lib.Dec.{eqb, ltb}
use lib.ListN.{length, get_or, drop, drop_of_length-le}
use lib.Seq.{drop-cons}
use Rattle.model.specs.Tables.{Arc, State, empty_state, met_by_arcs, met_by_states, is_first_met, target_in}

-- ---- over the arcs still to be read

module _ {all more : List Arc} {a : Arc} (m : ℕ) (turn : all ≡ a ∷ more) where
  pub met_past : m < a.to → met_by_arcs m all ≡ 0
  unfolding met_by_arcs
  met_past h =
      let low : m ≤ a.to = omega arith in
      rw (turn, le-ltb a.to m low, met_by_arcs) (rw (ne_eqb a.to m (λ (e : a.to ≡ m). omega arith)))

  pub met_same : a.to < m → met_by_arcs m all ≡ met_by_arcs m more
  unfolding met_by_arcs
  met_same h = rw (turn, lt-ltb a.to m h, met_by_arcs)

  pub met_next : a.to ≡ m → met_by_arcs m all ≡ met_by_arcs (m + 1) more
  unfolding met_by_arcs
  met_next e =
      let low : m ≤ a.to = omega arith in
      rw (turn, le-ltb a.to m low, met_by_arcs, eq-eqb a.to m e, add-one)

pub met_end : {all : List Arc} (m : ℕ) → all ≡ [] → met_by_arcs m all ≡ m
unfolding met_by_arcs
met_end m e = ap (met_by_arcs m) e

-- ---- over the states, from number i on

module _ (states : List State) (i m : ℕ) (h : i < length states) where
  pub states-stop : m ≤ i → met_by_states i m (drop i states) ≡ 0
  unfolding met_by_states
  states-stop low = rw (drop-cons states i empty_state h, met_by_states, le-ltb i m low)

  pub states-go : i < m
      → met_by_states i m (drop i states) ≡ met_by_states (i + 1) (met_by_arcs m (get_or states i empty_state).arcs) (drop (i + 1) states)
  unfolding met_by_states
  states-go low = rw (drop-cons states i empty_state h, met_by_states, lt-ltb i m low, add-one)

pub states_end : (states : List State) (i m : ℕ) → length states ≤ i → met_by_states i m (drop i states) ≡ m
unfolding met_by_states
states_end states i m h = rw (drop_of_length-le states h)

-- ---- what is met only grows, and holds every target

met-grows : (m : ℕ) (arcs : List Arc) → 0 < met_by_arcs m arcs → m ≤ met_by_arcs m arcs
unfolding met_by_arcs
met-grows m [] h = omega arith
met-grows m (a ∷ arcs) h = go (ltb a.to m) (eqb a.to m) (met-grows m arcs) (met-grows (suc m) arcs) h
  where
    go : (b c : Bool) → (0 < met_by_arcs m arcs → m ≤ met_by_arcs m arcs)
        → (0 < met_by_arcs (suc m) arcs → suc m ≤ met_by_arcs (suc m) arcs)
        → 0 < elim b [ true ↦ met_by_arcs m arcs | false ↦ elim c [ true ↦ met_by_arcs (suc m) arcs | false ↦ 0 ] ]
        → m ≤ elim b [ true ↦ met_by_arcs m arcs | false ↦ elim c [ true ↦ met_by_arcs (suc m) arcs | false ↦ 0 ] ]
    go true c old new k = old k
    go false true old new k = omega (arith, new k)
    go false false old new k = let z : ⊥ = omega arith in absurd z

target_met : (n m : ℕ) (arcs : List Arc) → 0 < met_by_arcs m arcs → target_in n arcs ≤ met_by_arcs m arcs
unfolding met_by_arcs target_in
target_met n m [] h = omega arith
target_met n m (a ∷ arcs) h =
    go (ltb a.to m) refl (eqb a.to m) refl (eqb n a.name) (target_met n m arcs) (target_met n (suc m) arcs) h
  where
    go : (b : Bool) → ltb a.to m ≡ b → (c : Bool) → eqb a.to m ≡ c → (d : Bool)
        → (0 < met_by_arcs m arcs → target_in n arcs ≤ met_by_arcs m arcs)
        → (0 < met_by_arcs (suc m) arcs → target_in n arcs ≤ met_by_arcs (suc m) arcs)
        → 0 < elim b [ true ↦ met_by_arcs m arcs | false ↦ elim c [ true ↦ met_by_arcs (suc m) arcs | false ↦ 0 ] ]
        → elim d [ true ↦ suc a.to | false ↦ target_in n arcs ]
        ≤ elim b [ true ↦ met_by_arcs m arcs | false ↦ elim c [ true ↦ met_by_arcs (suc m) arcs | false ↦ 0 ] ]
    go true e c f true old new k = omega (arith, met-grows m arcs k, ltb-true a.to m e)
    go true e c f false old new k = old k
    go false e true f true old new k = omega (arith, met-grows (suc m) arcs k, eqb-true a.to m f)
    go false e true f false old new k = new k
    go false e false f d old new k = let z : ⊥ = omega arith in absurd z

some_met : (i m : ℕ) (states : List State) → 0 < met_by_states i m states → 0 < m
unfolding met_by_states
some_met i m [] h = h
some_met i zero (s ∷ states) h =
    let none : met_by_states i 0 (s ∷ states) ≡ 0 = rw (le-ltb i 0 (omega arith), met_by_states) in
    let z : ⊥ = omega (arith, none) in absurd z
some_met i (suc m) (s ∷ states) h = omega arith

states_grow : (i m : ℕ) (states : List State) → 0 < met_by_states i m states → m ≤ met_by_states i m states
unfolding met_by_states
states_grow i m [] h = omega arith
states_grow i m (s ∷ states) h = go (ltb i m) (states_grow (suc i) (met_by_arcs m s.arcs) states) h
  where
    go : (b : Bool)
        → (0 < met_by_states (suc i) (met_by_arcs m s.arcs) states
        → met_by_arcs m s.arcs ≤ met_by_states (suc i) (met_by_arcs m s.arcs) states)
        → 0 < elim b [ true ↦ met_by_states (suc i) (met_by_arcs m s.arcs) states | false ↦ 0 ]
        → m ≤ elim b [ true ↦ met_by_states (suc i) (met_by_arcs m s.arcs) states | false ↦ 0 ]
    go true again k =
        omega (arith, again k, met-grows m s.arcs (some_met (suc i) (met_by_arcs m s.arcs) states k))
    go false again k = let z : ⊥ = omega arith in absurd z

-- the target of any arc of any state is one of the states met
targets_met : (n i m : ℕ) (states : List State) → 0 < met_by_states i m states → (j : ℕ) → j < length states
    → target_in n (get_or states j empty_state).arcs ≤ met_by_states i m states
unfolding met_by_states
targets_met n i m [] h j k = let z : ⊥ = omega arith in absurd z
targets_met n i m (s ∷ states) h j k = go (ltb i m) (targets_met n (suc i) (met_by_arcs m s.arcs) states) h j k
  where
    rest : ℕ
    rest = met_by_states (suc i) (met_by_arcs m s.arcs) states

    go : (b : Bool) → (0 < rest → (j : ℕ) → j < length states → target_in n (get_or states j empty_state).arcs ≤ rest)
        → 0 < elim b [ true ↦ rest | false ↦ 0 ] → (j : ℕ) → j < suc (length states)
        → target_in n (get_or (s ∷ states) j empty_state).arcs ≤ elim b [ true ↦ rest | false ↦ 0 ]
    go true again k zero l =
        let met = met_by_arcs m s.arcs in
        omega (arith, states_grow (suc i) met states k, target_met n m s.arcs (some_met (suc i) met states k))
    go true again k (suc j) l = again k j (omega arith)
    go false again k j l = let z : ⊥ = omega arith in absurd z

-- in a table numbered first-met every arc leads to a state
pub target_in-table : (n : ℕ) (states : List State) → is_first_met states ≡ true → (j : ℕ) → j < length states
    → target_in n (get_or states j empty_state).arcs ≤ length states
unfolding is_first_met
target_in-table n states ok j h =
    let all-met : met_by_states 0 1 states ≡ length states = eqb-true (met_by_states 0 1 states) (length states) ok in
    let some : 0 < met_by_states 0 1 states = omega arith in
    omega (arith, targets_met n 0 1 states some j h)

-- state 0 is met before any arc, so that such a table has a state
pub first_met_some : (states : List State) → is_first_met states ≡ true → 0 < length states
unfolding is_first_met met_by_states
first_met_some [] ok = absurd (false≢true ok)
first_met_some (s ∷ states) ok = omega arith
