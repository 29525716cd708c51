-- The pairs before `done` are joined. The measure is the room left in the queue.
use Rattle.std.proofs.Common.{◌-◌, length}
use Rattle.worklist.specs.Lists.{pair_limit}
use Rattle.worklist.specs.Forks.{SettledForks}
use Rattle.worklist.proofs.forks.settle.Given as goal

abbrev pub invariant-loop-v : goal.invariant-loop-v
invariant-loop-v l =
    SettledForks (length l.arcs.keys.now) l.arcs.keys.now l.arcs.outs.now l.initial.groups l.groups l.initial.forks.lists.links
    l.initial.forks.lists.heads l.forks.lists.links l.forks.lists.heads l.initial.forks.queue.firsts
    l.initial.forks.queue.seconds l.forks.queue.firsts l.forks.queue.seconds l.initial.forks.queue.tail l.done
    l.forks.queue.tail

abbrev pub decreases-loop-v : goal.decreases-loop-v
decreases-loop-v l = pair_limit - l.done
