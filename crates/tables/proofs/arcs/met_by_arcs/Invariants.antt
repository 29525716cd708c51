-- What is met after the arcs still to be read is what is met after all of them.
use Rattle.std.proofs.Common.{◌≡◌}
use Rattle.model.specs.Tables.{state_in, met_by_arcs}
use Rattle.tables.specs.Arcs.{arcs_left}
use Rattle.tables.proofs.arcs.met_by_arcs.Given as goal

abbrev pub invariant-loop-arc : goal.invariant-loop-arc
invariant-loop-arc l = met_by_arcs l.count (arcs_left l.arc-iterator) ≡ met_by_arcs l.met (state_in l.state).arcs
