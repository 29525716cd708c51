-- The chain is done down to `at`.
use lib.ListN.{length}
use Rattle.partition.specs.Forests.{roots_of}
use Rattle.worklist.specs.Lists.{plus_one}
use Rattle.contexts.specs.Joins.{Live}
use Rattle.contexts.proofs.JoinLaws.{Chaining}
use Rattle.contexts.proofs.joins.Pairs.join_chain.Given as goal

abbrev pub invariant-loop-at : goal.invariant-loop-at
invariant-loop-at l =
    record {
      live :
          Live (length l.initial.groups) l.self.view.tree.parents.now l.self.view.tree.names.now l.self.numbers.now l.groups
          l.forks.lists.links l.forks.lists.heads l.forks.queue.firsts l.forks.queue.seconds;
      chaining :
          Chaining (length l.initial.groups) l.self.view.j l.self.view.tree.parents.now l.self.view.tree.names.now
          l.self.view.old.now l.self.links.now l.v (roots_of l.initial.groups) (plus_one l.at) (roots_of l.groups) l.joined;
    }

abbrev pub decreases-loop-at : goal.decreases-loop-at
decreases-loop-at l = plus_one l.at
