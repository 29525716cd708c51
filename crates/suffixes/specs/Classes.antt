-- From the classes of equal codes to the classes by last names. Assumes nothing.
use Rattle.std.specs.Prelude.{◌≡◌, List, ℕ, ◌<◌, ◌≤◌, length, get_or}
use Rattle.base.specs.Limits.{state_limit}

-- the class of the state before the last name
abbrev pub above : List ℕ → List ℕ → ℕ → ℕ
above old parents v = get_or old (get_or parents v 0) 0

-- a state's class by its code: none where the code is below the least, else the class that it had
pub record Judged (bound value class class' : ℕ) : Type 0 where
  pub short : value < bound → class' ≡ state_limit
  pub long : bound ≤ value → class' ≡ class

-- no class for the states with codes below the least
pub record Dropped (n bound : ℕ) (values classes classes' : List ℕ) : Type 0 where
  pub size : length classes' ≡ length classes
  pub each : (v : ℕ) → v < n → Judged bound (get_or values v 0) (get_or classes v 0) (get_or classes' v 0)
