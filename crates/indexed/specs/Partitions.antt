-- Partitions of n states by number, and what it is for one to be closed under the rules. A partition is a list that gives each
-- state the number of its group. Assumes nothing.
use Rattle.std.specs.Prelude.{◌≡◌, ◌⊎◌, List, [], ◌∷◌, ℕ, zero, suc, ◌+◌, ◌<◌, ◌≤◌, length, get_or}
use Rattle.base.specs.Limits.{name_limit, state_limit}
use Rattle.model.specs.Classes.{Word}
use Rattle.model.specs.Joinings.{tree_of}
use Rattle.indexed.specs.Trees.{TreeArrays, SameSuffix}

-- states of one group in the first partition are in one group in the second
abbrev pub Refines : ℕ → List ℕ → List ℕ → Type 0
Refines n groups others =
    (v w : ℕ) → v < n → w < n → get_or groups v 0 ≡ get_or groups w 0 → get_or others v 0 ≡ get_or others w 0

-- a group goes by a state of it, the first or an earlier label's
pub record Labelled (n : ℕ) (groups : List ℕ) : Type 0 where
  pub size : length groups ≡ n
  pub low : (v : ℕ) → v < n → get_or groups v 0 ≤ v
  pub own : (v : ℕ) → v < n → get_or groups (get_or groups v 0) 0 ≡ get_or groups v 0

-- each of the first i states has its own number for its group
abbrev pub Alone : ℕ → List ℕ → Type 0
Alone i groups = (v : ℕ) → v < i → get_or groups v 0 ≡ v

-- closed along arcs with keys: where `ins` lead into one group under one key, `outs` are in one group. A key of `name_limit` is none
abbrev pub KeyClosed : ℕ → List ℕ → List ℕ → List ℕ → List ℕ → Type 0
KeyClosed n ins outs keys groups =
    (v w : ℕ) → v < n → w < n → get_or keys v 0 < name_limit → get_or keys v 0 ≡ get_or keys w 0 →
    get_or groups (get_or ins v 0) 0 ≡ get_or groups (get_or ins w 0) 0 → get_or groups (get_or outs v 0) 0 ≡ get_or groups (get_or outs w 0) 0

-- no group has arcs of one name to two groups
abbrev pub ForkClosed : ℕ → List ℕ → List ℕ → List ℕ → Type 0
ForkClosed n parents names groups =
    (v w : ℕ) → 0 < v → 0 < w → v < n → w < n → get_or names v 0 ≡ get_or names w 0 →
    get_or groups (get_or parents v 0) 0 ≡ get_or groups (get_or parents w 0) 0 → get_or groups v 0 ≡ get_or groups w 0

-- the rows' tree in arrays, of at most 512 states, and a partition of it that no fork is open in
pub record Joined (rows : List Word) (parents names groups : List ℕ) : Type 0 where
  pub tree : TreeArrays rows parents names
  pub few : length (tree_of rows) ≤ state_limit
  pub labels : Labelled (length (tree_of rows)) groups
  pub forks : ForkClosed (length (tree_of rows)) parents names groups

-- j names in succession lead out of the groups of both states
abbrev pub Share : ℕ → List ℕ → List ℕ → List ℕ → ℕ → ℕ → ℕ → Type 0
Share n parents names groups zero v w = Unit {0}
Share n parents names groups (suc j) v w =
    (x y : ℕ) × (0 < x) × (0 < y) × (x < n) × (y < n) × (get_or names x 0 ≡ get_or names y 0)
    × (get_or groups (get_or parents x 0) 0 ≡ get_or groups v 0) × (get_or groups (get_or parents y 0) 0 ≡ get_or groups w 0)
    × Share n parents names groups j x y

-- states with the same last h names out of whose groups m names lead in common are in one group
abbrev pub ContextClosed : ℕ → ℕ → ℕ → List ℕ → List ℕ → List ℕ → Type 0
ContextClosed n h m parents names groups =
    (v w : ℕ) → v < n → w < n → SameSuffix parents names h v w → Share n parents names groups m v w →
    get_or groups v 0 ≡ get_or groups w 0

-- members of a group have the same last h names, or are one state
abbrev pub SuffixAgree : ℕ → ℕ → List ℕ → List ℕ → List ℕ → Type 0
SuffixAgree n h parents names groups =
    (v w : ℕ) → v < n → w < n → get_or groups v 0 ≡ get_or groups w 0 → (v ≡ w) ⊎ SameSuffix parents names h v w

-- states in which rows end, of one class of f, are in one group
abbrev pub EndsClosed : ℕ → List ℕ → List ℕ → List ℕ → Type 0
EndsClosed n ends classes groups =
    (v w : ℕ) → v < n → w < n → 0 < get_or ends v 0 → 0 < get_or ends w 0 → get_or classes v 0 ≡ get_or classes w 0 →
    get_or groups v 0 ≡ get_or groups w 0

-- states of one class of f from which one name leads into one group are in one group
abbrev pub BackClosed : ℕ → List ℕ → List ℕ → List ℕ → List ℕ → Type 0
BackClosed n parents names classes groups =
    (v w : ℕ) → 0 < v → 0 < w → v < n → w < n → get_or names v 0 ≡ get_or names w 0 →
    get_or classes (get_or parents v 0) 0 ≡ get_or classes (get_or parents w 0) 0 → get_or groups v 0 ≡ get_or groups w 0 →
    get_or groups (get_or parents v 0) 0 ≡ get_or groups (get_or parents w 0) 0

-- the sum of the groups' numbers: what falls with each join
unfoldable pub sum : List ℕ → ℕ
sum [] = 0
sum (g ∷ groups) = g + sum groups
