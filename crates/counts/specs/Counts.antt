-- How often each way is used (docs/SCOPE.md, section 12): how many rows end in each state of a table, and how often the rows pass each
-- arc, repeats counted; the state record that has these numbers; and the counts file. All of it is defined by walking the rows. Assumes
-- nothing.
use Rattle.std.specs.Prelude.{Bool, true, false, ◌&&◌, cond, ℕ, ◌-◌, eqb, length, get_or}
use mathlib.Core.List.{List, [], ◌∷◌, ◌++◌, map, flat_map}
use Rattle.base.specs.Limits.{count_mark, when}
use Rattle.base.specs.Lists.{total, how_many, numbers_from}
use Rattle.model.specs.Fields.{File}
use Rattle.model.specs.Tables.{Arc, arc, State, state, empty_state, target_in, walk, two_bytes, field_bytes}
use Rattle.model.specs.Classes.{Word}
use Rattle.model.specs.Joinings.{Transition, transition}
use Rattle.model.specs.Quotients.{book_states}

-- ---- the walks of the rows

-- the arcs that a walk passes, in order, from a state on by these names as far as there are arcs: each with the state that it leaves, its
-- name, and the state that it enters
unfoldable pub steps_from : List State → ℕ → Word → List Transition
steps_from states q [] = []
steps_from states q (x ∷ xs) =
    let t = target_in x (get_or states q empty_state).arcs in
    elim (eqb t 0) [ true ↦ [] | false ↦ transition q x (t - 1) ∷ steps_from states (t - 1) xs ]

-- the arcs that the walks of the rows pass, row after row: a row that passes an arc twice has it there twice
unfoldable pub trail : List State → List Word → List Transition
trail states rows = flat_map (steps_from states 0) rows

-- how many rows' walks end in a state
unfoldable pub ends_at : List State → List Word → ℕ → ℕ
ends_at states rows q = how_many (λ (row : Word). eqb (walk states row).at_state q) rows

-- how often the rows pass the arc by a name out of a state
unfoldable pub passes_of : List State → List Word → ℕ → ℕ → ℕ
passes_of states rows q a = how_many (λ (s : Transition). eqb s.from q && eqb s.name a) (trail states rows)

-- departures from a state: the passes of its arcs, summed
unfoldable pub departures : List State → List Word → ℕ → ℕ
departures states rows q = total (λ (a : Arc). passes_of states rows q a.name) (get_or states q empty_state).arcs

-- the numbers of the states
abbrev pub numbers_of : List State → List ℕ
numbers_of states = numbers_from (length states) 0

-- arrivals at a state: the passes of the arcs of all states that lead to it, summed
unfoldable pub arrivals : List State → List Word → ℕ → ℕ
arrivals states rows q =
    total (λ (p : ℕ).
    total (λ (a : Arc). when (eqb a.to q) (passes_of states rows p a.name)) (get_or states p empty_state).arcs)
    (numbers_of states)

-- ---- the state record

-- an arc and how often it is passed
pub record CountedArc : Type 0 where
  pub name : ℕ
  pub to : ℕ
  pub passes : ℕ

-- a state, how many rows end in it, and its arcs in ascending name number
pub record CountedState : Type 0 where
  pub accepts : Bool
  pub ends : ℕ
  pub arcs : List CountedArc

-- the q-th state of a table with its counts
unfoldable pub counted_state : List State → List Word → ℕ → CountedState
counted_state states rows q =
    let s = get_or states q empty_state in
    record {
      accepts = s.accepts;
      ends = ends_at states rows q;
      arcs = map (λ (a : Arc). record { name = a.name; to = a.to; passes = passes_of states rows q a.name }) s.arcs;
    }

-- every state of a table with its counts
unfoldable pub counted_states : List State → List Word → List CountedState
counted_states states rows = map (counted_state states rows) (numbers_of states)

-- a state without its counts
abbrev pub without_counts : CountedState → State
without_counts s = state s.accepts (map (λ (a : CountedArc). arc a.name a.to) s.arcs)

-- the bytes of a state's counts: its ends, then the passes of its arcs, in their order
unfoldable pub count_body : CountedState → List ℕ
count_body s = two_bytes s.ends ++ flat_map (λ (a : CountedArc). two_bytes a.passes) s.arcs

-- ---- the counts file

-- the field of a state: its ends, then the passes of its arcs in the table's order
unfoldable pub count_field : List State → List Word → ℕ → List ℕ
count_field states rows q =
    field_bytes count_mark
    (two_bytes (ends_at states rows q)
    ++ flat_map (λ (a : Arc). two_bytes (passes_of states rows q a.name)) (get_or states q empty_state).arcs)

-- the counts file of a table and rows: one field for each state, in the table's order
unfoldable pub counts_file : List State → List Word → List ℕ
counts_file states rows = flat_map (count_field states rows) (numbers_of states)

-- the same where it is wanted, and otherwise nothing
abbrev pub counts_if : Bool → List State → List Word → List ℕ
counts_if wanted states rows = cond wanted (counts_file states rows) []

-- the counts file of a book
unfoldable pub book_counts : File → List ℕ
book_counts f = counts_file (book_states f) f.items
