-- Laws of distances: a number set to a lower one. Assumes nothing.
use mathlib.Core.Path.{◌≡◌, sym, subst}
use mathlib.Core.Logic.{⊎_elim}
use mathlib.Core.Bool.{true, true≢false}
use mathlib.Core.List.{List, [], ◌∷◌}
use Prim.Native.Nat.{ℕ, zero, suc, ◌<◌, ◌≤◌}
use native.Mathlib.Nat.{not-suc-le-zero}
use native.Mathlib.Omega.{arith}
use lib.ListN.{length, get_or, set, length-set}
use lib.Seq.{get_or-set_same, get_or-set_other}
use Rattle.base.proofs.Tests.{eq_dec}
use Rattle.base.specs.Limits.{state_limit}
use Rattle.indexed.specs.Partitions.{Labelled, sum}
use Rattle.contexts.specs.Distances.{Fallen}
use Rattle.contexts.specs.Distances.{Lowered}

-- a number set to no higher one
pub fallen_set : (dist : List ℕ) (p d : ℕ) → p < length dist → d ≤ get_or dist p 0 → Fallen dist (set dist p d)
fallen_set dist p d inside lower = record { size = length-set dist p d; low = low-at }
  where
    low-at : (x : ℕ) → get_or (set dist p d) x 0 ≤ get_or dist x 0
    low-at x =
        ⊎_elim
        (λ e. subst (λ (y : ℕ). get_or (set dist p d) y 0 ≤ get_or dist y 0) (sym e) (rw (get_or-set_same dist p d 0 inside) lower))
        (λ apart. omega (arith, get_or-set_other dist p x d 0 apart)) (eq_dec x p)

-- a number set to a lower one lowers the sum
pub sum-set : (dist : List ℕ) (p d : ℕ) → p < length dist → d < get_or dist p 0 → sum (set dist p d) < sum dist
unfolding sum
sum-set [] p d inside lower = absurd (not-suc-le-zero inside)
sum-set (x ∷ dist) zero d inside lower = omega arith
sum-set (x ∷ dist) (suc p) d inside lower = omega (arith, sum-set dist p d (omega arith) lower)

-- the label of a state's group has a number
pub label_fits :
    (n : ℕ) (groups dist : List ℕ) → Labelled n groups → n ≤ state_limit → length dist ≡ state_limit → (v g : ℕ) → v < n →
    g ≡ get_or groups v 0 → g < length dist
label_fits n groups dist labelled few size v g h g-is = omega (arith, labelled.low v h)

-- one number lowered
pub lowered_set :
    {settled : Type 0} (dist : List ℕ) (p d : ℕ) → p < length dist → d < get_or dist p 0 → Lowered settled dist (set dist p d) true
lowered_set dist p d inside lower =
    record {
      fallen = fallen_set dist p d inside (omega arith);
      none = λ e. absurd (true≢false e);
      some = λ e. sum-set dist p d inside lower;
    }
