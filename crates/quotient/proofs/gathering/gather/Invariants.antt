-- Before v all tree arcs are gathered.
use Rattle.quotient.proofs.ArcPass.{GatheredUpTo}
use Rattle.quotient.proofs.gathering.gather.Given as goal

abbrev pub invariant-loop-v : goal.invariant-loop-v
invariant-loop-v l = GatheredUpTo l.v l.tree.parents.now l.tree.names.now l.groups l.work l.next
