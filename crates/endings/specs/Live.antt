-- The same by states: how far a state is from an end, which states have a way to one, the table without the arcs to the others, and what a
-- walk tells. Assumes nothing.
use Rattle.std.specs.Prelude.{◌≡◌, Bool, true, false, ◌||◌, not, cond, List, [], map, ℕ, zero, suc, ◌<◌, ◌≤◌, eqb, ltb, length, get_or}
use Rattle.base.specs.Limits.{stops}
use Rattle.base.specs.Lists.{any, filter_by}
use Rattle.model.specs.Tables.{Arc, Ascending, State, state, empty_state, Told, told, plain_walk}
use Rattle.model.specs.Classes.{Word}
use Rattle.model.specs.Sources.{AdmittedFrom}

-- for each state whether a word of at most n names is admitted from it
unfoldable pub within : List State → ℕ → List Bool
within states zero = map (λ (s : State). s.accepts) states
within states (suc n) =
    let near = within states n in
    map (λ (s : State). s.accepts || any (λ (a : Arc). get_or near a.to false) s.arcs) states

-- the first number of names that suffices from state q, plus 1, of so many numbers from n on; 0 where none of them does
unfoldable pub level_from : List State → ℕ → ℕ → ℕ → ℕ
level_from states zero n q = 0
level_from states (suc more) n q = cond (get_or (within states n) q false) (suc n) (level_from states more (suc n) q)

-- the level of a state: the fewest names from it to an accepting state, plus 1, or 0 where there is no way to one. A shortest way comes to
-- no state twice, so that as many numbers as there are states are enough
unfoldable pub level_of : List State → ℕ → ℕ
level_of states q = level_from states (length states) 0 q

-- a word is admitted from the state
abbrev pub HasWay : List State → ℕ → Type 0
HasWay states q = (w : Word) × AdmittedFrom states q w

-- in each state the names of arcs ascend, as in every accepted table; past the last state there are none
abbrev pub ArcsAscend : List State → Type 0
ArcsAscend states = (q : ℕ) → Ascending 0 (get_or states q empty_state).arcs

-- a number is the level of a state, by the words that are admitted from it
pub record IsLevel (states : List State) (q level : ℕ) : Type 0 where
  pub some_way : (d : ℕ) → level ≡ suc d → (w : Word) × (length w ≡ d) × AdmittedFrom states q w
  pub no_shorter : (w : Word) → AdmittedFrom states q w → (0 < level) × (level ≤ suc (length w))

-- a state has a way to an accepting state, or accepts itself
unfoldable pub is_live : List State → ℕ → Bool
is_live states q = ltb 0 (level_of states q)

-- the arcs that lead to states with a way to an accepting one
unfoldable pub live_arcs : List State → List Arc → List Arc
live_arcs states arcs = filter_by (λ (a : Arc). is_live states a.to) arcs

-- the table without the other arcs
unfoldable pub trimmed : List State → List State
trimmed states = map (λ (s : State). state s.accepts (live_arcs states s.arcs)) states

-- what a walk tells where no row is admitted: it stops, with an empty beginning and no next names
abbrev pub nowhere : Told
nowhere = told stops [] 0 0

-- what a walk tells: what the walk alone tells over the table without the arcs to states that lead to no end
unfoldable pub live_walk : List State → Word → Told
live_walk states row = cond (is_live states 0) (plain_walk (trimmed states) row) nowhere

-- an array marks the states of a table that have a way to an accepting one: not 0 for these, 0 for the others
pub record Marked (states : List State) (marks : List ℕ) : Type 0 where
  pub tells : (q : ℕ) → q < length states → eqb (get_or marks q 0) 0 ≡ not (is_live states q)
