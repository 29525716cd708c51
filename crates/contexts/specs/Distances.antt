-- Which arcs a sweep can leave out: what leads through groups that have not grown since an earlier partition, `before`, has been
-- compared by that partition. Then what marking the groups that have grown and one pass along the arcs need and promise.
-- Assumes nothing.
use Rattle.std.specs.Prelude.{◌≡◌, ◌⊎◌, Bool, true, false, List, ℕ, ◌+◌, ◌<◌, ◌≤◌, length, get_or}
use Rattle.base.specs.Limits.{state_limit, setting_limit}
use Rattle.indexed.specs.Trees.{SameSuffix}
use Rattle.indexed.specs.Partitions.{Labelled, Share, sum}
use Rattle.contexts.specs.Climbs.{Above}

-- states with the same last h names out of whose groups in `before` m names lead in common are in one group
abbrev pub Tested : ℕ → ℕ → ℕ → List ℕ → List ℕ → List ℕ → List ℕ → Type 0
Tested n h m parents names before groups =
    (v w : ℕ) → v < n → w < n → SameSuffix parents names h v w → Share n parents names before m v w →
    get_or groups v 0 ≡ get_or groups w 0

-- the number of a state's group
abbrev pub distance_of : List ℕ → List ℕ → ℕ → ℕ
distance_of groups dist v = get_or dist (get_or groups v 0) 0

-- state u was in the group of its label in `before`, unless the number of its group is 0
abbrev pub UnchangedAt : List ℕ → List ℕ → List ℕ → ℕ → Type 0
UnchangedAt before groups dist u = 0 < distance_of groups dist u → get_or before u 0 ≡ get_or before (get_or groups u 0) 0

-- the number of the source of the arc into v is at most one more than that of its target, as far as numbers below j tell
abbrev pub SpreadAt : ℕ → List ℕ → List ℕ → List ℕ → ℕ → Type 0
SpreadAt j parents groups dist v =
    (j ≤ distance_of groups dist v + 1) ⊎ (distance_of groups dist (get_or parents v 0) ≤ distance_of groups dist v + 1)

-- for each group a number, 0 where it has grown since `before`: no fewer arcs lead from it to one that has grown, as far as
-- numbers below j tell
pub record Spread (n j : ℕ) (parents before groups dist : List ℕ) : Type 0 where
  pub size : length dist ≡ state_limit
  pub unchanged : (u : ℕ) → u < n → UnchangedAt before groups dist u
  pub spread : (v : ℕ) → 0 < v → v < n → SpreadAt j parents groups dist v

-- what marking needs for n states
pub record Marking (n : ℕ) (before groups dist : List ℕ) : Type 0 where
  pub few : n ≤ state_limit
  pub before_size : length before ≡ n
  pub labelled : Labelled n groups
  pub size : length dist ≡ state_limit

-- what the passes need for n states
pub record Lowering (n : ℕ) (parents groups dist : List ℕ) : Type 0 where
  pub few : n ≤ state_limit
  pub above : Above n parents
  pub labelled : Labelled n groups
  pub size : length dist ≡ state_limit
  pub limit : (x : ℕ) → get_or dist x 0 ≤ setting_limit

-- no number is higher than it was
pub record Fallen (dist dist' : List ℕ) : Type 0 where
  pub size : length dist' ≡ length dist
  pub low : (x : ℕ) → get_or dist' x 0 ≤ get_or dist x 0

-- the group of v has the number 0 if v shows that it has grown
pub record MarkedAt (before groups dist dist' : List ℕ) (v : ℕ) : Type 0 where
  pub fallen : Fallen dist dist'
  pub unchanged : UnchangedAt before groups dist' v

-- the same of the states below i
pub record MarkedBelow (i : ℕ) (before groups dist dist' : List ℕ) : Type 0 where
  pub fallen : Fallen dist dist'
  pub unchanged : (u : ℕ) → u < i → UnchangedAt before groups dist' u

-- numbers lowered: where none was, some numbers are as they should be
pub record Lowered (settled : Type 0) (dist dist' : List ℕ) (lowered : Bool) : Type 0 where
  pub fallen : Fallen dist dist'
  pub none : lowered ≡ false → (dist' ≡ dist) × settled
  pub some : lowered ≡ true → sum dist' < sum dist

-- the numbers of the sources of the arcs into states from i on are spread
abbrev pub SpreadFrom : ℕ → ℕ → ℕ → List ℕ → List ℕ → List ℕ → Type 0
SpreadFrom i n j parents groups dist = (v : ℕ) → i ≤ v → v < n → SpreadAt j parents groups dist v
