-- The way up from v has come to w. The measure is w, as the state above is lower.
use Rattle.std.proofs.Common.{length}
use Rattle.partition.proofs.ForestLaws.{Finding}
use Rattle.partition.proofs.forest.root.Given as goal

abbrev pub invariant-loop-up : goal.invariant-loop-up
invariant-loop-up l = Finding (length l.above) l.above l.above l.v l.w l.up

abbrev pub decreases-loop-up : goal.decreases-loop-up
decreases-loop-up l = l.w
