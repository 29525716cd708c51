-- The groups are a forest, and from the partition at the entry on all pairs before `done` are joined. The measure is the room left
-- in the queue.
use Rattle.std.proofs.Common.{◌-◌, length}
use Rattle.partition.specs.Forests.{Forest, roots_of}
use Rattle.worklist.specs.Lists.{pair_limit}
use Rattle.worklist.specs.Kinds.{SettlingBy}
use Rattle.worklist.proofs.settle.Given as goal

abbrev pub invariant-loop-v : goal.invariant-loop-v
invariant-loop-v l =
    Forest (length l.rules.parents.now) l.groups
    × SettlingBy (length l.rules.parents.now) l.rules (roots_of l.initial.groups) (roots_of l.groups) l.kinds l.done

abbrev pub decreases-loop-v : goal.decreases-loop-v
decreases-loop-v l = pair_limit - l.done
