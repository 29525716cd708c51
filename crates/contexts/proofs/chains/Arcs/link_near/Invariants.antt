-- The arcs into the states below v are linked.
use Rattle.contexts.specs.Sweeps.{ArcsLinked}
use Rattle.contexts.proofs.chains.Arcs.link_near.Given as goal

abbrev pub invariant-loop-v : goal.invariant-loop-v
invariant-loop-v l =
    ArcsLinked l.v l.by.view.j l.by.view.tree.parents.now l.by.view.tree.names.now l.by.classes.now l.by.view.old.now
    l.by.dist.now l.self.next l.self.links l.self.heads
