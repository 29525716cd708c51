-- The bits of a number. Assumes nothing.
use Rattle.std.specs.Prelude.{ℕ, zero, suc, ◌/◌, ◌%◌}

-- bit a of n, counted from the lowest
unfoldable pub bit : ℕ → ℕ → ℕ
bit zero n = n % 2
bit (suc a) n = bit a (n / 2)
