-- The counts by the states of the prefix tree, as a build finds them: how many rows begin with a state's word; for a group of a partition
-- the ends of its states, and for an arc between groups the passes of the tree's arcs that it is made of. Assumes nothing.
use Rattle.std.specs.Prelude.{◌≡◌, ◌&&◌, List, ℕ, ◌<◌, ◌≤◌, eqb, ltb, length, get_or}
use Rattle.base.specs.Limits.{when}
use Rattle.base.specs.Lists.{how_many, copies, has_row, sum_below}
use Rattle.model.specs.Classes.{Word}
use Rattle.model.specs.Joinings.{beginnings, tree_of}
use Rattle.indexed.specs.Trees.{word_at}

-- how many rows begin with a word: how often they pass the tree's arc into its state
unfoldable pub begun : List Word → Word → ℕ
begun rows w = how_many (λ (row : Word). has_row w (beginnings row)) rows

-- the ends of a group: those of its states, summed
unfoldable pub group_ends : List Word → List ℕ → ℕ → ℕ
group_ends rows groups g =
    sum_below (length (tree_of rows)) (λ (v : ℕ). when (eqb (get_or groups v 0) g) (copies (word_at rows v) rows))

-- an array that has for each group the ends of its states
pub record EndsSummed (rows : List Word) (groups sums : List ℕ) : Type 0 where
  pub size : length (tree_of rows) ≤ length sums
  pub each : (g : ℕ) → g < length (tree_of rows) → get_or sums g 0 ≡ group_ends rows groups g

-- the passes of an arc out of a group by a name: those of the tree's arcs by that name out of the group's states, summed; here those into
-- the first n states
unfoldable pub arc_passes_below : ℕ → List Word → List ℕ → List ℕ → List ℕ → ℕ → ℕ → ℕ
arc_passes_below n rows parents names groups g a =
    sum_below n (λ (v : ℕ).
    when (ltb 0 v && (eqb (get_or groups (get_or parents v 0) 0) g && eqb (get_or names v 0) a)) (begun rows (word_at rows v)))

-- the passes of an arc out of a group by a name
abbrev pub arc_passes : List Word → List ℕ → List ℕ → List ℕ → ℕ → ℕ → ℕ
arc_passes rows parents names groups g a = arc_passes_below (length (tree_of rows)) rows parents names groups g a
