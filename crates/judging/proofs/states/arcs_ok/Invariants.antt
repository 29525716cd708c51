-- The arcs left decide, the next one's name being `next` or above.
use lib.ListN.{length}
use Rattle.model.specs.Fields.{arcs_ok}
use Rattle.judging.proofs.StateLaws.{ArcsRest}
use Rattle.judging.proofs.states.arcs_ok.Given as goal

abbrev pub invariant-loop-arcs : goal.invariant-loop-arcs
invariant-loop-arcs l = ArcsRest l.names l.next l.arcs (arcs_ok (length l.fn.arcs) l.names 0 l.fn.arcs)

abbrev pub decreases-loop-arcs : goal.decreases-loop-arcs
decreases-loop-arcs l = length l.arcs
