-- The prefix tree as it grows in arrays. In order: the arrays, the tree that they hold so far, and what each function promises: a
-- state appended, one step, an end counted, one row, with whether it was there, and all rows. Assumes nothing.
use Rattle.std.specs.Prelude.{◌≡◌, Result, Ok, Err, Bool, true, false, not, cond}
use Rattle.std.specs.Prelude.{ℕ, ◌+◌, ◌<◌, ◌≤◌, eqb, length, get_or, take, set}
use mathlib.Core.List.{List, [], ◌∷◌, ◌++◌, Memᴰ as In}
use Rattle.base.specs.Lists.{has_row, copies}
use Rattle.base.specs.Limits.{name_limit, book_rows, state_limit, work_bytes}
use Rattle.model.specs.Classes.{Word}
use Rattle.model.specs.Joinings.{beginnings, with_states, tree_of}
use Rattle.model.specs.Calls.{tree_fault, different_rows}
use Rattle.base.specs.Cells.{cell_at, with_cell}
use Rattle.indexed.specs.Trees.{TreeArrays, EndsArray}
use Rattle.base.specs.Refusals.{fault_of}
use Rattle.base.specs.declared.refusals.Refusal.{Refusal}
use Rattle.base.specs.declared.refusals.Refusal.TheVariants as refusal
use Rattle.prefix_tree.specs.declared.Growing.{Growing}

-- ---- the arrays

-- for each state its parent, its name, how many rows end there; and the area of cells [state][name]
pub record Store : Type 0 where
  pub parents : List ℕ
  pub names : List ℕ
  pub ends : List ℕ
  pub work : List ℕ

abbrev pub store : List ℕ → List ℕ → List ℕ → List ℕ → Store
store parents names ends work = record { parents = parents; names = names; ends = ends; work = work }

-- a tree as it grows, with the area
abbrev pub held : Growing → List ℕ → Store
held tree work = store tree.parents tree.names tree.ends work

-- the arrays have room for every state, and the area for every cell
pub record Sized (parents names ends work : List ℕ) : Type 0 where
  pub parents_size : length parents ≡ state_limit
  pub names_size : length names ≡ state_limit
  pub ends_size : length ends ≡ state_limit
  pub work_size : work_bytes ≤ length work

-- ---- the tree so far

-- the states with one more, if it is not there yet
unfoldable pub with_state : List Word → Word → List Word
with_state nodes w = cond (has_row w nodes) nodes (nodes ++ (w ∷ []))

-- the first `count` places hold the tree of these nodes: each state but the root with its parent, its name and its cell; no
-- word twice; in each state as many rows end as there are of its word so far, and every row so far is a state
pub record Grown (nodes rows : List Word) (count : ℕ) (s : Store) : Type 0 where
  pub size : length nodes ≡ count
  pub root : get_or nodes 0 [] ≡ []
  pub root_parent : get_or s.parents 0 0 ≡ 0
  pub root_name : get_or s.names 0 0 ≡ name_limit
  pub parent_before : (v : ℕ) → 0 < v → v < count → get_or s.parents v 0 < v
  pub name_below : (v : ℕ) → 0 < v → v < count → get_or s.names v 0 < name_limit
  pub word :
      (v : ℕ) → 0 < v → v < count → get_or nodes v [] ≡ get_or nodes (get_or s.parents v 0) [] ++ (get_or s.names v 0 ∷ [])
  pub cell : (v : ℕ) → 0 < v → v < count → cell_at s.work (get_or s.parents v 0) (get_or s.names v 0) ≡ v
  pub single : (v w : ℕ) → v < count → w < count → get_or nodes v [] ≡ get_or nodes w [] → v ≡ w
  pub rows_met : (r : Word) → In r rows → In r nodes
  pub ends_at : (v : ℕ) → v < count → get_or s.ends v 0 ≡ copies (get_or nodes v []) rows

-- ---- a state appended: the arrays with one state more, that goes on from `state` by `name`

abbrev pub appended : ℕ → ℕ → ℕ → Store → Store
appended count state name s =
    store
    (set s.parents count state)
    (set s.names count name)
    (set s.ends count 0)
    (with_cell s.work state name count)

-- ---- one step along a row

-- the word of a state and one name more
abbrev pub longer : List Word → ℕ → ℕ → Word
longer nodes state name = get_or nodes state [] ++ (name ∷ [])

-- the step leads to state v of n, and the arrays hold the tree with that word
pub record Stepped (count state name : ℕ) (s s' : Store) (v n : ℕ) : Type 0 where
  pub below : v < n
  pub few : n ≤ state_limit
  pub grown :
      (nodes rows : List Word) → Grown nodes rows count s →
      Grown (with_state nodes (longer nodes state name)) rows n s'
      × (get_or (with_state nodes (longer nodes state name)) v [] ≡ longer nodes state name)

-- the tree with that word has too many states
pub record StepTooMany (count state name : ℕ) (s : Store) : Type 0 where
  pub over :
      (nodes rows : List Word) → Grown nodes rows count s → state_limit < length (with_state nodes (longer nodes state name))

abbrev pub StepOf : ℕ → ℕ → ℕ → Store → Store → ℕ → Result ℕ Refusal → Type 0
StepOf count state name s s' n (Ok v) = Stepped count state name s s' v n
StepOf count state name s s' n (Err k) = (k ≡ refusal.TreeTooLarge) × StepTooMany count state name s

-- ---- an end counted: one more row ends in a state, and it is told whether one did before

pub record Ended (ends ends' : List ℕ) (state : ℕ) (before : Bool) : Type 0 where
  pub was : before ≡ not (eqb (get_or ends state 0) 0)
  pub set_is : ends' ≡ set ends state (get_or ends state 0 + 1)

-- ---- one row

-- the arrays hold the tree of fewer rows than a book may have
pub record FewRows (count : ℕ) (s : Store) : Type 0 where
  pub nodes : List Word
  pub rows : List Word
  pub few : length rows < book_rows
  pub grown : Grown nodes rows count s

-- whether an answer says that the row was there already; what needs a state more was not
abbrev pub was_there : Result Bool Refusal → Bool
was_there (Ok again) = again
was_there (Err k) = false

-- the arrays hold the tree with the row's beginnings, and the row is counted
pub record RowAdded (row : Word) (count : ℕ) (s s' : Store) (n : ℕ) : Type 0 where
  pub some : 0 < n
  pub few : n ≤ state_limit
  pub grown :
      (nodes rows : List Word) → Grown nodes rows count s →
      Grown (with_states nodes (beginnings row)) (rows ++ (row ∷ [])) n s'

-- the tree with the row's beginnings has too many states
pub record RowTooMany (row : Word) (count : ℕ) (s : Store) : Type 0 where
  pub over :
      (nodes rows : List Word) → Grown nodes rows count s → state_limit < length (with_states nodes (beginnings row))

-- the tree with the row: of n states, which are as many as before where the row was there; or it would have too many
abbrev pub TreeWith : Word → ℕ → Store → Store → ℕ → Result Bool Refusal → Type 0
TreeWith row count s s' n (Ok again) = RowAdded row count s s' n × (again ≡ true → n ≡ count)
TreeWith row count s s' n (Err k) = (k ≡ refusal.TreeTooLarge) × RowTooMany row count s

-- the whole: the answer tells whether the row is among those before, and what becomes of the tree
pub record RowOf (row : Word) (count : ℕ) (s s' : Store) (n : ℕ) (answer : Result Bool Refusal) : Type 0 where
  pub told : (nodes rows : List Word) → Grown nodes rows count s → has_row row rows ≡ was_there answer
  pub tree : TreeWith row count s s' n answer

-- every entry is the number of a name
pub record RowBelow (row : Word) : Type 0 where
  pub entry : (i : ℕ) → i < length row → get_or row i 0 < name_limit

-- ---- all rows

abbrev pub RowsBelow : List Word → Type 0
RowsBelow rows = (row : Word) → In row rows → RowBelow row

-- the first n places of the arrays are the prefix tree of the rows, of which so many are different
pub record TreeBuilt (rows : List Word) (s : Store) (n distinct : ℕ) : Type 0 where
  pub size : n ≡ length (tree_of rows)
  pub different : distinct ≡ length (different_rows rows)
  pub few : n ≤ state_limit
  pub arrays : TreeArrays rows (take n s.parents) (take n s.names)
  pub ends : EndsArray rows (take n s.ends)

-- the whole: the answer's number is the refusal of the rows' tree; where that is none, the arrays hold the tree, of n states and as many
-- different rows as the answer says; and every array is as long as it was
pub record TreeOf (rows : List Word) (s s' : Store) (n : ℕ) (answer : Result ℕ Refusal) : Type 0 where
  pub number : fault_of answer ≡ tree_fault rows
  pub built : (distinct : ℕ) → answer ≡ Ok distinct → TreeBuilt rows s' n distinct
  pub parents_kept : length s'.parents ≡ length s.parents
  pub names_kept : length s'.names ≡ length s.names
  pub ends_kept : length s'.ends ≡ length s.ends
  pub work_kept : length s'.work ≡ length s.work
