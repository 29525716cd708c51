-- The automaton of a partition, the quotient of the prefix tree, its states numbered first-met (docs/SCOPE.md, section 7.4):
-- the table of a joining and of a book. Assumes nothing.
use Rattle.std.specs.Prelude.{true, false, cond, List, [], ◌∷◌, ◌++◌, map, ℕ, zero, suc, eqb, ltb, length, get_or}
use Rattle.base.specs.Lists.{is_in, index_in}
use Rattle.model.specs.Fields.{File}
use Rattle.model.specs.Tables.{Arc, arc, State, state, bytes_of_table}
use Rattle.model.specs.Classes.{Word}
use Rattle.model.specs.Joinings.{Transition, Step, tree_of, apart, group_at, group_accepts, transitions_of, after_steps, joined_groups}

-- an arc put among those of one state, in ascending name number; a name that is there already stays
unfoldable pub put_arc : ℕ → ℕ → List Arc → List Arc
put_arc n to [] = arc n to ∷ []
put_arc n to (a ∷ arcs) =
    elim (eqb n a.name) [
      | true ↦ a ∷ arcs
      | false ↦ elim (ltb n a.name) [ true ↦ arc n to ∷ (a ∷ arcs) | false ↦ a ∷ put_arc n to arcs ]
    ]

-- the arcs out of a group, in ascending name number, their targets being groups
unfoldable pub arcs_out_of : ℕ → List Transition → List Arc
arcs_out_of g [] = []
arcs_out_of g (t ∷ ts) =
    let rest = arcs_out_of g ts in
    cond (eqb t.from g) (put_arc t.name t.to rest) rest

-- the groups met, with the targets of these arcs that are new, in the arcs' order
unfoldable pub met_with : List ℕ → List Arc → List ℕ
met_with met [] = met
met_with met (a ∷ arcs) = met_with (cond (is_in a.to met) met (met ++ (a.to ∷ []))) arcs

-- the groups met from the i-th met group on (the first argument counts down and is at least the number of groups)
unfoldable pub met_from : ℕ → ℕ → List Transition → List ℕ → List ℕ
met_from zero i ts met = met
met_from (suc n) i ts met =
    met_from n (suc i) ts (cond (ltb i (length met)) (met_with met (arcs_out_of (get_or met i 0) ts)) met)

-- the groups in first-met order: the root's first; groups are taken in ascending number and arcs in ascending name number,
-- and each new target has the next number
unfoldable pub met_groups : List Word → List ℕ → List ℕ
met_groups nodes groups =
    met_from (length nodes) 0 (transitions_of nodes groups) (group_at nodes groups [] ∷ [])

-- arcs to groups as arcs to their numbers
unfoldable pub renumbered : List ℕ → List Arc → List Arc
renumbered met arcs = map (λ (a : Arc). arc a.name (index_in a.to met)) arcs

-- the state that a group becomes
unfoldable pub state_of : List Word → List Word → List ℕ → List ℕ → ℕ → State
state_of rows nodes groups met g =
    state (group_accepts rows nodes groups g) (renumbered met (arcs_out_of g (transitions_of nodes groups)))

-- the states of a partition's automaton
unfoldable pub states_of : List Word → List Word → List ℕ → List State
states_of rows nodes groups =
    map (state_of rows nodes groups (met_groups nodes groups)) (met_groups nodes groups)

-- the states of a book: its prefix tree, joined until no step is open
unfoldable pub book_states : File → List State
book_states f = states_of f.items (tree_of f.items) (joined_groups f.class_is f.items)

-- the table of a book: names, class and states written out
unfoldable pub book_table : File → List ℕ
book_table f = bytes_of_table f.names f.class_is (book_states f)

-- the table of a book after some steps of a joining
unfoldable pub table_after : File → List Step → List ℕ
table_after f steps =
    bytes_of_table f.names f.class_is
    (states_of f.items (tree_of f.items) (after_steps (apart (tree_of f.items)) steps))
