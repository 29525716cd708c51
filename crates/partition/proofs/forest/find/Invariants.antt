-- The way up from v has come to `at`, and every root is as it was. The measure is `at`, as the second above is lower.
use Rattle.std.proofs.Common.{length}
use Rattle.partition.proofs.ForestLaws.{Finding}
use Rattle.partition.proofs.forest.find.Given as goal

abbrev pub invariant-loop-up : goal.invariant-loop-up
invariant-loop-up l = Finding (length l.initial.above) l.initial.above l.above l.v l.at l.up

abbrev pub decreases-loop-up : goal.decreases-loop-up
decreases-loop-up l = l.at
