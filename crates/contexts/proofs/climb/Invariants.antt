-- Some steps of the climb are done.
use lib.ListN.{length}
use Rattle.partition.specs.Forests.{Forest, roots_of}
use Rattle.contexts.proofs.ClimbLaws.{Climbing}
use Rattle.contexts.proofs.climb.Given as goal

abbrev pub invariant-loop : goal.invariant-loop
invariant-loop l =
    record {
      forest : Forest (length l.initial.groups) l.groups;
      climbing :
          Climbing (length l.initial.groups) l.m l.tree.parents.now l.v l.w l.counter l.a l.b (roots_of l.initial.groups)
          (roots_of l.groups);
    }
