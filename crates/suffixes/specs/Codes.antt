-- The last i names of a state as one number: seven bits a name, the last name lowest, each name as its number plus one, so that
-- no name is 0. In order: the number, the least number of a state with i names or more, and the numbers of all states. Assumes nothing.
use Rattle.std.specs.Prelude.{◌≡◌, List, ℕ, zero, suc, ◌+◌, ◌*◌, ◌^◌, ◌<◌, length, get_or}

-- the last i names, all names where there are fewer
unfoldable pub code : List ℕ → List ℕ → ℕ → ℕ → ℕ
code parents names zero v = 0
code parents names (suc i) zero = 0
code parents names (suc i) (suc v) = code parents names i (get_or parents (suc v) 0) * 128 + (get_or names (suc v) 0 + 1)

-- a state has i names or more where its code is no less than this
unfoldable pub least : ℕ → ℕ
least zero = 0
least (suc i) = 2 ^ (7 * i)

-- the codes of n states
pub record Coded (n i : ℕ) (parents names values : List ℕ) : Type 0 where
  pub size : length values ≡ n
  pub each : (v : ℕ) → v < n → get_or values v 0 ≡ code parents names i v
