-- The states below v are done.
use Rattle.contexts.specs.Distances.{MarkedBelow}
use Rattle.contexts.proofs.distances.mark_grown.Given as goal

abbrev pub invariant-loop-v : goal.invariant-loop-v
invariant-loop-v l = MarkedBelow l.v l.before l.groups l.initial.dist l.dist
