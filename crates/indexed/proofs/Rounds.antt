-- What falls with each round of joins: the sum of the groups' numbers, and one more while another round is due. Assumes nothing.
use mathlib.Core.Path.{◌≡◌, refl, ap}
use mathlib.Core.Bool.{Bool, true, false, cond}
use mathlib.Core.List.{List}
use Prim.Native.Nat.{ℕ, ◌+◌, ◌<◌}
use native.Mathlib.Omega.{arith}
use Rattle.indexed.specs.Partitions.{sum}

abbrev pub due : List ℕ → Bool → ℕ
due groups joined = sum groups + cond joined 1 0

-- a round that joins lowers the sum, one that does not leaves the partition as it was
pub due-less :
    (groups groups' : List ℕ) (joined : Bool) → (joined ≡ false → groups' ≡ groups) → (joined ≡ true → sum groups' < sum groups) →
    due groups' joined < due groups true
due-less groups groups' true none some = omega (arith, some refl)
due-less groups groups' false none some =
    let same : sum groups' ≡ sum groups = ap sum (none refl) in
    omega arith
