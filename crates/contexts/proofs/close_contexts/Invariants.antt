-- What holds after some sweeps, and the lists of arcs.
use mathlib.Core.Bool.{true}
use Rattle.indexed.proofs.Rounds.{due}
use Rattle.worklist.specs.Forks.{Kept}
use Rattle.contexts.proofs.RoundLaws.{RoundsTo}
use Rattle.contexts.proofs.close_contexts.Given as goal

abbrev pub invariant-loop-classes : goal.invariant-loop-classes
invariant-loop-classes l =
    record {
      rounds : RoundsTo l.n l.h l.m l.tree.parents.now l.tree.names.now l.before l.groups true;
      kept : Kept l.n l.tree.parents.now l.tree.names.now l.numbers l.groups l.forks.lists.links l.forks.lists.heads
          l.forks.queue.firsts l.forks.queue.seconds 0;
    }

abbrev pub decreases-loop-classes : goal.decreases-loop-classes
decreases-loop-classes l = due l.groups true
