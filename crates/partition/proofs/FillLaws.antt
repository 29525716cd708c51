-- The states' own numbers, filled in from the front. Assumes nothing.
use mathlib.Core.Path.{◌≡◌, sym, ◌∙◌}
use mathlib.Core.List.{List}
use Prim.Native.Nat.{ℕ, ◌<◌, ◌≤◌}
use native.Mathlib.Omega.{arith}
use lib.ListN.{length, get_or}
use lib.Seq.{ext_get_or}
use Rattle.base.specs.Lists.{numbers_from}
use Rattle.base.proofs.Fills.{Filled}
use Rattle.base.proofs.Places.{number_at, length-numbers_from}

-- the states' own numbers
abbrev pub IsOwn : ℕ → ℕ → Type 0
IsOwn k x = x ≡ k

pub own-all :
    (i : ℕ) (out₀ out : List ℕ) → length out₀ ≤ i → Filled IsOwn i out₀ out → out ≡ numbers_from (length out₀) 0
own-all i out₀ out all filled =
    ext_get_or 0 out (numbers_from (length out₀) 0) (filled.size ∙ sym (length-numbers_from (length out₀) 0)) each
  where
    each : (k : ℕ) → k < length out → get_or out k 0 ≡ get_or (numbers_from (length out₀) 0) k 0
    each k h =
        let inside : k < length out₀ = omega (arith, filled.size) in
        filled.done k (omega arith) ∙ sym (number_at (length out₀) k inside)
