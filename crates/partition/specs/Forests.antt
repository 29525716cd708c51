-- A partition as a forest (a union-find structure): each state has a state above it, lower than itself, or is a root; a group goes
-- by its root, its lowest state. Assumes nothing.
use Rattle.std.specs.Prelude.{◌≡◌, ◌⊎◌, List, map, ℕ, ◌<◌, ◌≤◌, length, get_or}
use Rattle.base.specs.Lists.{numbers_from}
use Rattle.indexed.specs.Trees.{up}
use Rattle.indexed.specs.Passes.{relabelled}

-- n states, each with a state above it that is no higher
pub record Forest (n : ℕ) (above : List ℕ) : Type 0 where
  pub size : length above ≡ n
  pub low : (v : ℕ) → v < n → get_or above v 0 ≤ v

-- the root of a state: as many steps up as its number are enough
unfoldable pub root_of : List ℕ → ℕ → ℕ
root_of above v = up above v v

-- the partition: the root of each state
unfoldable pub roots_of : List ℕ → List ℕ
roots_of above = map (root_of above) (numbers_from (length above) 0)

-- a root found; the way to it may have been shortened
pub record FoundRoot (n : ℕ) (above above' : List ℕ) (v root : ℕ) : Type 0 where
  pub forest : Forest n above'
  pub kept : roots_of above' ≡ roots_of above
  pub is_root : root ≡ get_or (roots_of above) v 0
  pub own : get_or above' root 0 ≡ root
  pub inside : root < n

-- root y put below root x
pub record United (n x y : ℕ) (above above' : List ℕ) : Type 0 where
  pub forest : Forest n above'
  pub joined : roots_of above' ≡ relabelled x y (roots_of above)

-- the groups of two states made one: the higher root, `from`, put below the lower, `to`; both the same where it was one group
pub record JoinedRoots (n : ℕ) (above above' : List ℕ) (v w to from : ℕ) : Type 0 where
  pub forest : Forest n above'
  pub inside : from < n
  pub order : to ≤ from
  pub ends :
      ((to ≡ get_or (roots_of above) v 0) × (from ≡ get_or (roots_of above) w 0))
      ⊎ ((to ≡ get_or (roots_of above) w 0) × (from ≡ get_or (roots_of above) v 0))
  pub kept : to ≡ from → roots_of above' ≡ roots_of above
  pub joined : to < from → roots_of above' ≡ relabelled to from (roots_of above)
