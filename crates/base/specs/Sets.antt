-- Sets of names in 64 bits, bit n for name n: what it is to take the lowest name out of one. Assumes nothing.
use Rattle.std.specs.Prelude.{◌≡◌, ℕ, ◌-◌, ◌^◌, ◌<◌}
use Rattle.std.specs.Int.Count.{count_trailing_zeros}
use Rattle.base.specs.Limits.{name_limit}

-- this name is the lowest of the set, and the rest of the set is left
pub record TakenLowest (set name rest : ℕ) : Type 0 where
  pub some : 0 < set
  pub lowest : name ≡ count_trailing_zeros name_limit set
  pub rest_is : rest ≡ set - 2 ^ name
