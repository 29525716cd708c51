-- Tables: deterministic automata as lists of states, written as fields, read back from them, checked for first-met numbering,
-- and walked (docs/SCOPE.md, sections 3 and 5). State 0 is the start. Assumes nothing.
use Rattle.std.specs.Prelude.{Bool, true, false, ◌&&◌, cond, ℕ, zero, suc, ◌+◌, ◌-◌, ◌*◌, ◌/◌, ◌%◌, ◌^◌, ◌≤◌, eqb, ltb, length, get_or, take, drop}
use mathlib.Core.List.{List, [], ◌∷◌, ◌++◌, map, flat_map}
use Rattle.base.specs.Limits.{when, name_mark, class_mark, row_mark, state_mark, admitted, on_the_way, stops}
use Rattle.base.specs.Lists.{total}
use Rattle.model.specs.Fields.{Class}

-- an arc out of a state: a name's number and the number of the target state
pub record Arc : Type 0 where
  pub name : ℕ
  pub to : ℕ

-- an arc by its parts
abbrev pub arc : ℕ → ℕ → Arc
arc name to = record { name = name; to = to }

-- the names of arcs ascend strictly, from `next` on
abbrev pub Ascending : ℕ → List Arc → Type 0
Ascending next [] = Unit {0}
Ascending next (a ∷ arcs) = (next ≤ a.name) × Ascending (suc a.name) arcs

-- a state: whether it accepts, and its arcs in ascending name number
pub record State : Type 0 where
  pub accepts : Bool
  pub arcs : List Arc

-- a state by its parts
abbrev pub state : Bool → List Arc → State
state accepts arcs = record { accepts = accepts; arcs = arcs }

-- how many arcs the states have
unfoldable pub arc_count : List State → ℕ
arc_count states = total (λ (s : State). length s.arcs) states

-- ---- written

-- a number below 65,536 as two bytes, high byte first
abbrev pub two_bytes : ℕ → List ℕ
two_bytes n = n / 256 ∷ (n % 256 ∷ [])

-- a field: its mark, its length, its bytes
unfoldable pub field_bytes : ℕ → List ℕ → List ℕ
field_bytes mark body = mark ∷ (two_bytes (length body) ++ body)

-- the fields of the names, in order
unfoldable pub name_fields : List (List ℕ) → List ℕ
name_fields names = flat_map (field_bytes name_mark) names

-- the field of the class
unfoldable pub class_field : Class → List ℕ
class_field c = field_bytes class_mark (c.kind ∷ (c.first ∷ (c.second ∷ [])))

-- the fields of the rows, in order
unfoldable pub row_fields : List (List ℕ) → List ℕ
row_fields rows = flat_map (field_bytes row_mark) rows

-- the arcs of a state field, three bytes each
unfoldable pub arc_bytes : List Arc → List ℕ
arc_bytes arcs = flat_map (λ (a : Arc). a.name ∷ two_bytes a.to) arcs

-- a state field's bytes
unfoldable pub state_body : State → List ℕ
state_body s = when s.accepts 1 ∷ arc_bytes s.arcs

-- the fields of the states, in order
unfoldable pub state_fields : List State → List ℕ
state_fields states = flat_map (λ (s : State). field_bytes state_mark (state_body s)) states

-- a table's file: every name, the class, the states
unfoldable pub bytes_of_table : List (List ℕ) → Class → List State → List ℕ
bytes_of_table names class states = name_fields names ++ (class_field class ++ state_fields states)

-- ---- read

-- arcs of three bytes (the first argument counts down and is at least the number of bytes)
unfoldable pub arcs_in : ℕ → List ℕ → List Arc
arcs_in zero s = []
arcs_in (suc f) [] = []
arcs_in (suc f) (a ∷ s) = arc a (256 * get_or s 0 0 + get_or s 1 0) ∷ arcs_in f (drop 2 s)

-- what a state field means
unfoldable pub state_in : List ℕ → State
state_in [] = state false []
state_in (b ∷ s) = state (eqb b 1) (arcs_in (length s) s)

-- what the state fields of a table mean
unfoldable pub states_in : List (List ℕ) → List State
states_in bodies = map state_in bodies

-- ---- numbered first-met

-- how many states are met after these arcs, m being met before: a target is a state met already, or the next new one.
-- 0 for a target that is neither
unfoldable pub met_by_arcs : ℕ → List Arc → ℕ
met_by_arcs m [] = m
met_by_arcs m (a ∷ arcs) =
    elim (ltb a.to m) [
      | true ↦ met_by_arcs m arcs
      | false ↦ elim (eqb a.to m) [ true ↦ met_by_arcs (suc m) arcs | false ↦ 0 ]
    ]

-- the same over the states from number i on, each of which must have been met when its turn comes
unfoldable pub met_by_states : ℕ → ℕ → List State → ℕ
met_by_states i m [] = m
met_by_states i m (s ∷ states) =
    elim (ltb i m) [ true ↦ met_by_states (suc i) (met_by_arcs m s.arcs) states | false ↦ 0 ]

-- every arc leads to a state, every state is met, and they are numbered in the order in which they are met, state 0 first
unfoldable pub is_first_met : List State → Bool
is_first_met states = eqb (met_by_states 0 1 states) (length states)

-- ---- walked

-- a state that does not accept and has no arc: what stands past the end of a table
abbrev pub empty_state : State
empty_state = state false []

-- the target of the arc with this name plus 1, or 0 where there is no such arc
unfoldable pub target_in : ℕ → List Arc → ℕ
target_in n [] = 0
target_in n (a ∷ arcs) = elim (eqb n a.name) [ true ↦ suc a.to | false ↦ target_in n arcs ]

-- a walk (a run of the automaton): the number of the state reached, and the steps taken
pub record Walk : Type 0 where
  pub at_state : ℕ
  pub taken : ℕ

-- a walk by its parts
abbrev pub walk_at : ℕ → ℕ → Walk
walk_at q n = record { at_state = q; taken = n }

-- the walk goes on by these names as far as there are arcs
unfoldable pub walk_from : List State → ℕ → ℕ → List ℕ → Walk
walk_from states q n [] = walk_at q n
walk_from states q n (x ∷ xs) =
    let t = target_in x (get_or states q empty_state).arcs in
    elim (eqb t 0) [ true ↦ walk_at q n | false ↦ walk_from states (t - 1) (suc n) xs ]

-- the walk of a row from the start
unfoldable pub walk : List State → List ℕ → Walk
walk states row = walk_from states 0 0 row

-- the state that a row's walk reaches
unfoldable pub reached_state : List State → List ℕ → State
reached_state states row = get_or states (walk states row).at_state empty_state

-- a row is admitted: all names walked, and the last state accepts
unfoldable pub admits : List State → List ℕ → Bool
admits states row = eqb (walk states row).taken (length row) && (reached_state states row).accepts

-- names of arcs as a set of 64 bits, bit n for name n
unfoldable pub name_set : List Arc → ℕ
name_set [] = 0
name_set (a ∷ arcs) = 2 ^ a.name + name_set arcs

-- what a walk tells: how it ends, a beginning of the row, the names that may come next as a set, and how many they are
pub record Told : Type 0 where
  pub outcome : ℕ
  pub beginning : List ℕ
  pub next_names : ℕ
  pub next_count : ℕ

-- what a walk tells, by its parts
abbrev pub told : ℕ → List ℕ → ℕ → ℕ → Told
told outcome beginning names count =
    record { outcome = outcome; beginning = beginning; next_names = names; next_count = count }

-- what the walk alone tells, whether or not a state that it comes to leads to an end: admitted, on the way (all names walked, the last
-- state not accepting) or stops (a name has no arc); the longest beginning that can be walked; the names with an arc from the state
-- reached. What a walk is promised to tell is `live_walk` of the crate `endings`
unfoldable pub plain_walk : List State → List ℕ → Told
plain_walk states row =
    let taken = (walk states row).taken in
    let reached = reached_state states row in
    told (cond (ltb taken (length row)) stops (cond reached.accepts admitted on_the_way)) (take taken row)
    (name_set reached.arcs) (length reached.arcs)
