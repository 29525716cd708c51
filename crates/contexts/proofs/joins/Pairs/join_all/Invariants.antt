-- The arcs below v are compared.
use lib.ListN.{length}
use Rattle.partition.specs.Forests.{roots_of}
use Rattle.contexts.specs.Joins.{Live, PairsJoined}
use Rattle.contexts.proofs.joins.Pairs.join_all.Given as goal

abbrev pub invariant-loop-v : goal.invariant-loop-v
invariant-loop-v l =
    record {
      live :
          Live (length l.initial.groups) l.self.view.tree.parents.now l.self.view.tree.names.now l.self.numbers.now l.groups
          l.forks.lists.links l.forks.lists.heads l.forks.queue.firsts l.forks.queue.seconds;
      pairs :
          PairsJoined (length l.initial.groups) l.v l.self.view.j l.self.view.tree.parents.now l.self.view.tree.names.now
          l.self.view.old.now l.self.links.now (roots_of l.initial.groups) (roots_of l.groups) l.joined;
    }
