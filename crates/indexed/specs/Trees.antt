-- The prefix tree as arrays by state number, in the order in which states are met; ancestors and last names by number.
-- Assumes nothing.
use Rattle.std.specs.Prelude.{◌≡◌, List, [], ◌∷◌, ◌++◌, ℕ, zero, suc, ◌<◌, ◌≤◌, length, get_or}
use Rattle.base.specs.Limits.{name_limit, book_rows, state_limit}
use Rattle.base.specs.Lists.{copies}
use Rattle.model.specs.Classes.{Word}
use Rattle.model.specs.Joinings.{tree_of}

-- the v-th state of the tree, as the word that leads to it
abbrev pub word_at : List Word → ℕ → Word
word_at rows v = get_or (tree_of rows) v []

-- for each state of the rows' tree the state that it goes on from, and the name by which; the root's name is no name
pub record TreeArrays (rows : List Word) (parents names : List ℕ) : Type 0 where
  pub parents_size : length parents ≡ length (tree_of rows)
  pub names_size : length names ≡ length (tree_of rows)
  pub root_parent : get_or parents 0 0 ≡ 0
  pub root_name : get_or names 0 0 ≡ name_limit
  pub parent_before : (v : ℕ) → 0 < v → v < length (tree_of rows) → get_or parents v 0 < v
  pub name_below : (v : ℕ) → 0 < v → v < length (tree_of rows) → get_or names v 0 < name_limit
  pub word :
      (v : ℕ) → 0 < v → v < length (tree_of rows) → word_at rows v ≡ word_at rows (get_or parents v 0) ++ (get_or names v 0 ∷ [])

-- what the passes need of such arrays for n states, whatever the rows: parents come first, and no two states have both the
-- parent and the name in common
pub record Arrays (n : ℕ) (parents names : List ℕ) : Type 0 where
  pub some_state : 0 < n
  pub few_states : n ≤ state_limit
  pub parents_size : length parents ≡ n
  pub names_size : length names ≡ n
  pub root_parent : get_or parents 0 0 ≡ 0
  pub root_name : get_or names 0 0 ≡ name_limit
  pub parent_before : (v : ℕ) → 0 < v → v < n → get_or parents v 0 < v
  pub name_below : (v : ℕ) → 0 < v → v < n → get_or names v 0 < name_limit
  pub one_child :
      (v w : ℕ) → 0 < v → 0 < w → v < n → w < n → get_or parents v 0 ≡ get_or parents w 0 →
      get_or names v 0 ≡ get_or names w 0 → v ≡ w

-- for each state how many rows end there: how often its word is among the rows, so that those accept where the number is not 0. There
-- are at most as many rows as a book may have
pub record EndsArray (rows : List Word) (ends : List ℕ) : Type 0 where
  pub few_rows : length rows ≤ book_rows
  pub ends_size : length ends ≡ length (tree_of rows)
  pub ends_at : (v : ℕ) → v < length (tree_of rows) → get_or ends v 0 ≡ copies (word_at rows v) rows

-- the i-th ancestor
unfoldable pub up : List ℕ → ℕ → ℕ → ℕ
up parents zero v = v
up parents (suc i) v = up parents i (get_or parents v 0)

-- two states have at least i names before them, and the last i are the same
abbrev pub SameSuffix : List ℕ → List ℕ → ℕ → ℕ → ℕ → Type 0
SameSuffix parents names zero v w = Unit {0}
SameSuffix parents names (suc i) v w =
    (0 < v) × (0 < w) × (get_or names v 0 ≡ get_or names w 0)
    × SameSuffix parents names i (get_or parents v 0) (get_or parents w 0)
