-- The states below v have had their climbs, if any.
use lib.ListN.{length}
use Rattle.contexts.specs.Climbs.{ByRoots}
use Rattle.contexts.proofs.ClimbLaws.{Climbs}
use Rattle.contexts.proofs.climb_all.Given as goal

abbrev pub invariant-loop-v : goal.invariant-loop-v
invariant-loop-v l =
    ByRoots (length l.initial.groups) (Climbs (length l.initial.groups) l.v l.m l.tree.parents.now l.starts) l.initial.groups
    l.groups
