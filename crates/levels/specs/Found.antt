-- What is found: the level of each state, and whether a state rises: accepts, or has an arc to one of a higher number. Assumes nothing.
use Rattle.std.specs.Prelude.{◌≡◌, Bool, ◌||◌, List, ℕ, ◌<◌, ltb, length, get_or}
use Rattle.base.specs.Lists.{any}
use Rattle.model.specs.Tables.{Arc, State}
use Rattle.endings.specs.Live.{level_of}

-- the array has the level of each state: the fewest names to an end, plus 1, or 0 where there is no way to one
pub record LevelsFound (states : List State) (levels : List ℕ) : Type 0 where
  pub is : (q : ℕ) → q < length states → get_or levels q 0 ≡ level_of states q

-- the state with number q rises: it accepts, or has an arc to a state of a higher number
unfoldable pub rises : ℕ → State → Bool
rises q s = s.accepts || any (λ (a : Arc). ltb q a.to) s.arcs
