-- The arcs from v on are done.
use lib.ListN.{length}
use Rattle.contexts.specs.Distances.{SpreadFrom, Lowered}
use Rattle.contexts.proofs.distances.lower.Given as goal

abbrev pub invariant-loop-v : goal.invariant-loop-v
invariant-loop-v l =
    Lowered (SpreadFrom l.v (length l.groups) l.j l.parents l.groups l.initial.dist) l.initial.dist l.dist l.lowered
