-- What holds after some passes that lowered something.
use Prim.Native.Nat.{ℕ, ◌<◌}
use lib.ListN.{length}
use Rattle.indexed.specs.Partitions.{sum}
use Rattle.contexts.specs.Distances.{Lowering, UnchangedAt}
use Rattle.contexts.proofs.distances.distances.Given as goal

abbrev pub invariant-loop : goal.invariant-loop
invariant-loop l =
    record {
      lowering : Lowering (length l.groups) l.parents l.groups l.dist;
      unchanged : (u : ℕ) → u < length l.groups → UnchangedAt l.before l.groups l.dist u;
    }

abbrev pub decreases-loop : goal.decreases-loop
decreases-loop l = sum l.dist
