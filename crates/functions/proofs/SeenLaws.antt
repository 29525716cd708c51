-- Seen sets, filled in from the root on: what is so of the first of them. Assumes nothing.
use mathlib.Core.Path.{◌≡◌}
use mathlib.Core.List.{List}
use Prim.Native.Nat.{ℕ, ◌^◌, ◌<◌}
use lib.Bits.{bit_or}
use lib.ListN.{get_or}

-- the set after the arc into v, by the set before it
abbrev pub set_after : List ℕ → List ℕ → List ℕ → ℕ → ℕ
set_after parents names seen v = bit_or (get_or seen (get_or parents v 0) 0) (2 ^ get_or names v 0)

-- the sets after the arcs into the first i states are right
abbrev pub ArcsSeen : List ℕ → List ℕ → ℕ → List ℕ → Type 0
ArcsSeen parents names i seen = (v : ℕ) → 0 < v → v < i → get_or seen v 0 ≡ set_after parents names seen v
