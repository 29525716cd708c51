-- The first v states stand right below their roots, the others as they stood.
use Rattle.partition.proofs.ForestLaws.{Flattening}
use Rattle.partition.proofs.forest.flatten.Given as goal

abbrev pub invariant-loop-v : goal.invariant-loop-v
invariant-loop-v l = Flattening l.v l.initial.above l.above
