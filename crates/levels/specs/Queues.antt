-- The queue of the states whose level is known, in the order in which they got it: what holds of it, and of a queue that grew by the states
-- of one level. Assumes nothing.
use Rattle.std.specs.Prelude.{◌≡◌, ◌⊎◌, true, List, ℕ, suc, ◌+◌, ◌≤◌, ◌<◌, eqb, length, get_or}
use Rattle.base.specs.Limits.{state_limit}
use Rattle.base.specs.Lists.{how_many}
use Rattle.model.specs.Tables.{State, empty_state}
use Rattle.levels.specs.Sorted.{source_at}

-- how many states have no level
unfoldable pub without_level : List ℕ → ℕ
without_level levels = how_many (λ (level : ℕ). eqb level 0) levels

-- the first places of the queue, as many as `last`, have the states with a level, each once, and the levels do not fall
pub record Queue (levels queue : List ℕ) (last : ℕ) : Type 0 where
  pub levels_size : length levels ≡ state_limit
  pub queue_size : length queue ≡ state_limit
  pub room : last + without_level levels ≡ state_limit
  pub has_level : (i : ℕ) → i < last → 0 < get_or levels (get_or queue i 0) 0
  pub stands : (q : ℕ) → 0 < get_or levels q 0 → (i : ℕ) × (i < last) × (get_or queue i 0 ≡ q)
  pub ordered : (i : ℕ) → suc i < last → get_or levels (get_or queue i 0) 0 ≤ get_or levels (get_or queue (suc i) 0) 0
  pub near : (i : ℕ) → i < last → get_or levels (get_or queue i 0) 0 ≤ suc i

-- states of this level may enter the queue: no state has a higher one
pub record MayEnter (level : ℕ) (levels queue : List ℕ) (last : ℕ) : Type 0 where
  pub queued : Queue levels queue last
  pub some_level : 0 < level
  pub next_level : level ≤ suc last
  pub highest : (q : ℕ) → get_or levels q 0 ≤ level

-- the queue grew: the states with P that had no level got this one, those and no others
pub record Longer
    (P : ℕ → Type 0) (level : ℕ) (levels queue : List ℕ) (last : ℕ) (levels' queue' : List ℕ) (last' : ℕ) : Type 0 where
  pub after : MayEnter level levels' queue' last'
  pub more : last ≤ last'
  pub same_place : (i : ℕ) → i < last → get_or queue' i 0 ≡ get_or queue i 0
  pub same_level : (q : ℕ) → 0 < get_or levels q 0 → get_or levels' q 0 ≡ get_or levels q 0
  pub all : (q : ℕ) → P q → 0 < get_or levels' q 0
  pub only : (q : ℕ) → 0 < get_or levels' q 0 → (get_or levels' q 0 ≡ get_or levels q 0) ⊎ ((get_or levels' q 0 ≡ level) × P q)

-- the state is the source of an arc in these places
abbrev pub SourceIn : List ℕ → ℕ → ℕ → ℕ → Type 0
SourceIn work from to q = (j : ℕ) × (from ≤ j) × (j < to) × (source_at work j ≡ q)

-- the state accepts
abbrev pub Accepts : List State → ℕ → Type 0
Accepts states q = (get_or states q empty_state).accepts ≡ true

-- the state is one of the first n, and accepts
abbrev pub AcceptsBelow : List State → ℕ → ℕ → Type 0
AcceptsBelow states n q = (q < n) × Accepts states q
