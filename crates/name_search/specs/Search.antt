-- How one name stands to another in byte order, and the offsets at which a list's fields begin. Assumes nothing.
use Rattle.std.specs.Prelude.{◌≡◌, true, List, ℕ, ◌≤◌, ◌<◌, length, get_or}
use Rattle.std.specs.declared.cmp.Ordering.{Ordering}
use Rattle.std.specs.Ordering.{MatchOrdering}
use Rattle.base.specs.Limits.{name_limit}
use Rattle.base.specs.Lists.{before}
use Rattle.judging.specs.Offsets.{offset_at}

-- the answer says how a stands to b
abbrev pub Ordered : List ℕ → List ℕ → Ordering → Type 0
Ordered a b answer = MatchOrdering answer (before a b ≡ true) (a ≡ b) (before b a ≡ true)

-- the first `count` fields, at most as many as there may be names, lie within the list and begin at the offsets that stand first in the
-- index; of what stands behind these nothing is said
pub record Indexed (list : List ℕ) (count : ℕ) (index : List ℕ) : Type 0 where
  pub few : count ≤ name_limit
  pub within : offset_at list 0 count ≤ length list
  pub begins : (i : ℕ) → i < count → get_or index i 0 ≡ offset_at list 0 i
