-- The arcs into the states below v have their bits.
use mathlib.Core.Path.{◌≡◌}
use lib.ListN.{length}
use Rattle.base.specs.Limits.{state_limit}
use Rattle.contexts.specs.Ahead.{LeadOnBelow}
use Rattle.contexts.proofs.ahead.two_names.Given as goal

abbrev pub invariant-loop-v : goal.invariant-loop-v
invariant-loop-v l =
    record {
      size : length l.ahead ≡ state_limit;
      leads : LeadOnBelow l.v l.view.tree.parents.now l.view.tree.names.now l.view.old.now l.next l.ahead;
    }
