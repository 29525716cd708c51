-- The prefix tree of a book's rows and its joinings (docs/SCOPE.md, section 7; in the literature: state merging of
-- the prefix-tree acceptor). A tree state is the word that leads to it. A partition of the tree's states into groups is a list
-- that gives each state, in the tree's order, the number of its group. Assumes nothing.
use Rattle.std.specs.Prelude.{◌≡◌, Bool, true, false, ◌&&◌, ◌||◌, not, cond, ℕ, zero, suc, ◌-◌, eqb, ltb, length, get_or}
use mathlib.Core.List.{List, [], ◌∷◌, ◌++◌, map, flat_map, drop_last, Memᴰ as In}
use Rattle.base.specs.Lists.{any, any_two, filter_by, numbers_from, is_in, same, has_row, last_or}
use Rattle.base.specs.Limits.{context_kind}
use Rattle.model.specs.Fields.{Class}
use Rattle.model.specs.Classes.{Word, f_of}

-- ---- the prefix tree

-- the beginnings of a row, shortest first, the empty one and the row itself among them
unfoldable pub beginnings : Word → List Word
beginnings [] = [] ∷ []
beginnings (x ∷ row) = [] ∷ map (λ (w : Word). x ∷ w) (beginnings row)

-- the states with those that are not there yet, in the order met
unfoldable pub with_states : List Word → List Word → List Word
with_states nodes [] = nodes
with_states nodes (w ∷ ws) = with_states (cond (has_row w nodes) nodes (nodes ++ (w ∷ []))) ws

-- the tree with some rows more
unfoldable pub with_rows : List Word → List Word → List Word
with_rows nodes [] = nodes
with_rows nodes (row ∷ rows) = with_rows (with_states nodes (beginnings row)) rows

-- the states of the prefix tree: the different beginnings of rows. The root comes first, and is there without any row too
unfoldable pub tree_of : List Word → List Word
tree_of rows = with_rows ([] ∷ []) rows

-- ---- groups of its states

-- each state a group of its own
unfoldable pub apart : List Word → List ℕ
apart nodes = numbers_from (length nodes) 0

-- the group of a tree state
unfoldable pub group_at : List Word → List ℕ → Word → ℕ
group_at [] groups w = 0
group_at (node ∷ nodes) [] w = 0
group_at (node ∷ nodes) (g ∷ groups) w = elim (same w node) [ true ↦ g | false ↦ group_at nodes groups w ]

-- the different groups
unfoldable pub groups_in : List ℕ → List ℕ
groups_in [] = []
groups_in (g ∷ groups) = let rest = groups_in groups in cond (is_in g rest) rest (g ∷ rest)

-- the group that a group becomes part of when x and y are made one; the lower number stays, so that a group goes by its
-- first state
unfoldable pub merged_to : ℕ → ℕ → ℕ → ℕ
merged_to x y g = cond (eqb g x || eqb g y) (cond (ltb x y) x y) g

-- one step's work: two groups made one
unfoldable pub merged : ℕ → ℕ → List ℕ → List ℕ
merged x y groups = map (merged_to x y) groups

-- the first state of a group
unfoldable pub member_of : List Word → List ℕ → ℕ → Word
member_of [] groups g = []
member_of (w ∷ nodes) [] g = []
member_of (w ∷ nodes) (x ∷ groups) g = elim (eqb g x) [ true ↦ w | false ↦ member_of nodes groups g ]

-- a group accepts if a member does, that is if a member is a row
unfoldable pub group_accepts : List Word → List Word → List ℕ → ℕ → Bool
group_accepts rows nodes groups g = any (λ (w : Word). eqb (group_at nodes groups w) g && has_row w rows) nodes

-- ---- arcs between groups

-- an arc of the joined automaton: the group that it leaves, its name, the group that it enters
pub record Transition : Type 0 where
  pub from : ℕ
  pub name : ℕ
  pub to : ℕ

-- an arc by its parts
abbrev pub transition : ℕ → ℕ → ℕ → Transition
transition from name to = record { from = from; name = name; to = to }

-- no two arcs of one name leave one group
abbrev pub Deterministic : List Transition → Type 0
Deterministic ts = (x a y z : ℕ) → In (transition x a y) ts → In (transition x a z) ts → y ≡ z

-- the arcs that the tree's arcs into these states become
unfoldable pub transitions_into : List Word → List ℕ → List Word → List Transition
transitions_into nodes groups [] = []
transitions_into nodes groups ([] ∷ ws) = transitions_into nodes groups ws
transitions_into nodes groups ((x ∷ w) ∷ ws) =
    transition (group_at nodes groups (drop_last (x ∷ w))) (last_or x w) (group_at nodes groups (x ∷ w))
    ∷ transitions_into nodes groups ws

-- one group has an arc to another by a name if some member of the first has that arc to some member of the second
unfoldable pub transitions_of : List Word → List ℕ → List Transition
transitions_of nodes groups = transitions_into nodes groups nodes

-- ---- the rules

-- one group has arcs of the same name to both x and y
unfoldable pub forks : List Transition → ℕ → ℕ → Bool
forks ts x y =
    any_two (λ (s t : Transition). (eqb s.from t.from && eqb s.name t.name) && (eqb s.to x && eqb t.to y)) ts

-- a path of the joined automaton: the names of its arcs, and the groups that it goes through, the first one included
pub record Route : Type 0 where
  pub names : List ℕ
  pub groups : List ℕ

-- a path by its parts
abbrev pub route : List ℕ → List ℕ → Route
route names groups = record { names = names; groups = groups }

-- the paths of n arcs from a group
unfoldable pub routes_from : List Transition → ℕ → ℕ → List Route
routes_from ts zero g = route [] (g ∷ []) ∷ []
routes_from ts (suc n) g =
    flat_map (λ (t : Transition).
    elim (eqb t.from g) [
      | true ↦ map (λ (r : Route). route (t.name ∷ r.names) (g ∷ r.groups)) (routes_from ts n t.to)
      | false ↦ []
    ]) ts

-- x and y stand after the same arc of two paths, from arc h to arc k
unfoldable pub after_same_arc : ℕ → ℕ → ℕ → ℕ → Route → Route → Bool
after_same_arc k h x y r s =
    any (λ (i : ℕ). eqb (get_or r.groups i 0) x && eqb (get_or s.groups i 0) y) (numbers_from (suc k - h) h)

-- context: x and y stand after arc i of two paths of k arcs with the same names, for some i from h to k
unfoldable pub by_context : ℕ → ℕ → List Transition → List ℕ → ℕ → ℕ → Bool
by_context k h ts groups x y =
    any_two (λ (r s : Route). same r.names s.names && after_same_arc k h x y r s) (flat_map (routes_from ts k) groups)

-- one name leads from both x and y into the same group
unfoldable pub into_one : List Transition → ℕ → ℕ → Bool
into_one ts x y =
    any_two (λ (s t : Transition). (eqb s.name t.name && eqb s.to t.to) && (eqb s.from x && eqb t.from y)) ts

-- a group's f is that of any member; here of the first
unfoldable pub f_of_group : Class → List Word → List ℕ → ℕ → List ℕ
f_of_group c nodes groups g = f_of c (member_of nodes groups g)

-- distinguishable: equal f, and both accept or one name leads from both into the same group
unfoldable pub by_f : Class → List Word → List Word → List ℕ → ℕ → ℕ → Bool
by_f c rows nodes groups x y =
    same (f_of_group c nodes groups x) (f_of_group c nodes groups y)
    && ((group_accepts rows nodes groups x && group_accepts rows nodes groups y) || into_one (transitions_of nodes groups) x y)

-- the class's rule joins the two groups
unfoldable pub by_rule : Class → List Word → List Word → List ℕ → ℕ → ℕ → Bool
by_rule c rows nodes groups x y =
    elim (eqb c.kind context_kind) [
      | true ↦ by_context c.first c.second (transitions_of nodes groups) (groups_in groups) x y
      | false ↦ by_f c rows nodes groups x y
    ]

-- ---- joinings

-- a step of a joining (one state merge): the two groups that it makes one
pub record Step : Type 0 where
  pub left : ℕ
  pub right : ℕ

-- a step by its groups
abbrev pub step : ℕ → ℕ → Step
step x y = record { left = x; right = y }

-- a step is open: two different groups that the class's rule joins, or to which one group has arcs of the same name
unfoldable pub is_open : Class → List Word → List Word → List ℕ → Step → Bool
is_open c rows nodes groups s =
    let x = s.left in
    let y = s.right in
    (is_in x groups && is_in y groups)
    && (not (eqb x y) && (forks (transitions_of nodes groups) x y || by_rule c rows nodes groups x y))

-- every step from one of these groups to one of those
unfoldable pub steps_between : List ℕ → List ℕ → List Step
steps_between xs ys = flat_map (λ (x : ℕ). map (step x) ys) xs

-- the open steps
unfoldable pub open_steps : Class → List Word → List Word → List ℕ → List Step
open_steps c rows nodes groups =
    filter_by (is_open c rows nodes groups) (steps_between (groups_in groups) (groups_in groups))

-- a joining is full when no step is open
unfoldable pub is_full : Class → List Word → List Word → List ℕ → Bool
is_full c rows nodes groups = eqb (length (open_steps c rows nodes groups)) 0

-- the groups after some steps
unfoldable pub after_steps : List ℕ → List Step → List ℕ
after_steps groups [] = groups
after_steps groups (s ∷ steps) = after_steps (merged s.left s.right groups) steps

-- each step is open on the groups that the last one left
unfoldable pub all_open : Class → List Word → List Word → List ℕ → List Step → Bool
all_open c rows nodes groups [] = true
all_open c rows nodes groups (s ∷ steps) =
    is_open c rows nodes groups s && all_open c rows nodes (merged s.left s.right groups) steps

-- a full joining of the prefix tree, in any order
unfoldable pub is_full_joining : Class → List Word → List Step → Bool
is_full_joining c rows steps =
    all_open c rows (tree_of rows) (apart (tree_of rows)) steps
    && is_full c rows (tree_of rows) (after_steps (apart (tree_of rows)) steps)

-- one full joining: always the first open step (the first argument counts down and is at least the number of groups)
unfoldable pub join_from : ℕ → Class → List Word → List Word → List ℕ → List ℕ
join_from zero c rows nodes groups = groups
join_from (suc n) c rows nodes groups =
    elim (open_steps c rows nodes groups) [
      | [] ↦ groups
      | s ∷ steps ↦ join_from n c rows nodes (merged s.left s.right groups)
    ]

-- the groups of the defining joining of the rows' prefix tree
unfoldable pub joined_groups : Class → List Word → List ℕ
joined_groups c rows = join_from (length (tree_of rows)) c rows (tree_of rows) (apart (tree_of rows))
