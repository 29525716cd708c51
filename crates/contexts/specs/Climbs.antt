-- Climbing: from two states with the same last names up to their m-th ancestors, the groups of the two ancestors joined at each
-- step. In order: what climbing needs of the tree, what a partition must join to be sound against, one climb, the climbs of the
-- first i states, each with the first state that has the same last names, and a promise about a partition that is kept as a
-- forest. Assumes nothing.
use Rattle.std.specs.Prelude.{◌≡◌, ◌⊎◌, List, ℕ, ◌<◌, ◌≤◌, length, get_or}
use Rattle.indexed.specs.Trees.{up}
use Rattle.indexed.specs.Partitions.{Refines, Labelled}
use Rattle.partition.specs.Forests.{Forest, roots_of}

-- the parents of n states are states
pub record Above (n : ℕ) (parents : List ℕ) : Type 0 where
  pub size : length parents ≡ n
  pub below : (v : ℕ) → v < n → get_or parents v 0 < n

-- the ancestors of v and w up to the m-th are in one group
abbrev pub Upward : ℕ → List ℕ → List ℕ → ℕ → ℕ → Type 0
Upward m parents others v w = (i : ℕ) → i ≤ m → get_or others (up parents i v) 0 ≡ get_or others (up parents i w) 0

-- the parents of v and w are in one group
abbrev pub ParentsJoined : List ℕ → List ℕ → ℕ → ℕ → Type 0
ParentsJoined parents groups v w = get_or groups (get_or parents v 0) 0 ≡ get_or groups (get_or parents w 0) 0

-- the ancestors of v and w from the first up to the m-th are in one group
abbrev pub StepsJoined : ℕ → List ℕ → List ℕ → ℕ → ℕ → Type 0
StepsJoined m parents groups v w =
    (i : ℕ) → 0 < i → i ≤ m → get_or groups (up parents i v) 0 ≡ get_or groups (up parents i w) 0

-- one climb from v and w
pub record Climbed (n m : ℕ) (parents : List ℕ) (v w : ℕ) (groups groups' : List ℕ) : Type 0 where
  pub labelled : Labelled n groups'
  pub coarser : Refines n groups groups'
  pub sound : (others : List ℕ) → Upward m parents others v w → Refines n groups others → Refines n groups' others
  pub steps : StepsJoined m parents groups' v w

-- the climb of v and its start, or none where the parents of both have one start
abbrev pub ClimbedAt : ℕ → ℕ → List ℕ → List ℕ → ℕ → List ℕ → List ℕ → Type 0
ClimbedAt n m parents starts v groups groups' =
    Climbed n m parents v (get_or starts v 0) groups groups'
    ⊎ (ParentsJoined parents starts v (get_or starts v 0) × (groups' ≡ groups))

-- the climbs of the first i states, each with its start
pub record ClimbedBelow (n i m : ℕ) (parents starts groups groups' : List ℕ) : Type 0 where
  pub labelled : Labelled n groups'
  pub coarser : Refines n groups groups'
  pub sound :
      (others : List ℕ) → ((v : ℕ) → v < n → Upward m parents others v (get_or starts v 0)) → Refines n groups others →
      Refines n groups' others
  pub steps : (v : ℕ) → v < i → StepsJoined m parents groups' v (get_or starts v 0)

-- what is promised of a partition, about one that is kept as a forest
pub record ByRoots (n : ℕ) (Promised : List ℕ → List ℕ → Type 0) (above above' : List ℕ) : Type 0 where
  pub forest : Forest n above'
  pub promised : Promised (roots_of above) (roots_of above')
