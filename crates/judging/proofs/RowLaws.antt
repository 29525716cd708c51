-- The entries of a row, tested in std's words. Assumes nothing.
use mathlib.Core.Path.{◌≡◌, refl}
use mathlib.Core.List.{List, [], ◌∷◌}
use Prim.Native.Nat.{ℕ}
use lib.Dec.{ltb}
use Rattle.std.specs.List.{list_all}
use Rattle.model.specs.Fields.{all_below}

pub below_all : (n : ℕ) (s : List ℕ) → list_all (λ (x : ℕ). ltb x n) s ≡ all_below n s
unfolding all_below
below_all n [] = refl
below_all n (x ∷ s) = rw (below_all n s)
