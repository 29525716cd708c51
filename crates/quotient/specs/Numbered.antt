-- First-met numbers: the groups met so far with their numbers, and what is left to meet from one target and from the arcs out of one
-- group. Assumes nothing.
use Rattle.std.specs.Prelude.{◌≡◌, cond, ℕ, ◌<◌, ◌≤◌, length, get_or, take}
use mathlib.Core.List.{List, [], ◌∷◌, ◌++◌, Memᴰ as In}
use Rattle.base.specs.Limits.{state_limit}
use Rattle.base.specs.Lists.{is_in, index_in}
use Rattle.model.specs.Tables.{Arc}
use Rattle.model.specs.Quotients.{met_with}
use Rattle.indexed.specs.ArcCells.{ArcsAt}

-- of n groups these are met, in this order: each has its place as number, and every other group `state_limit`
pub record MetAs (n : ℕ) (met numbers : List ℕ) (count : ℕ) (seen : List ℕ) : Type 0 where
  pub few : n ≤ state_limit
  pub met_size : n ≤ length met
  pub numbers_size : n ≤ length numbers
  pub counted : count ≡ length seen
  pub listed : take (length seen) met ≡ seen
  pub low : (g : ℕ) → In g seen → g < n
  pub numbered : (g : ℕ) → In g seen → get_or numbers g 0 ≡ index_in g seen
  pub unmet : (g : ℕ) → g < n → (In g seen → ⊥) → get_or numbers g 0 ≡ state_limit

-- a target is to be met, after which these are met
pub record MeetingOne (n : ℕ) (met numbers : List ℕ) (count target : ℕ) (after : List ℕ) : Type 0 where
  pub seen : List ℕ
  pub so_far : MetAs n met numbers count seen
  pub target_low : target < n
  pub comes_to : after ≡ cond (is_in target seen) seen (seen ++ (target ∷ []))
  pub fits : length after ≤ n

-- the targets of the arcs in a set are to be met, after which these are met
pub record Meeting (n : ℕ) (work : List ℕ) (row set : ℕ) (met numbers : List ℕ) (count : ℕ) (after : List ℕ) : Type 0 where
  pub seen : List ℕ
  pub arcs : List Arc
  pub so_far : MetAs n met numbers count seen
  pub at_row : ArcsAt n work row set arcs
  pub comes_to : after ≡ met_with seen arcs
  pub fits : length after ≤ n
