-- The arcs still to be read decide.
use Rattle.model.specs.Tables.{state_in}
use Rattle.tables.specs.Arcs.{arcs_left}
use Rattle.tables.proofs.ArcReads.{Searching}
use Rattle.tables.proofs.arcs.target.Given as goal

abbrev pub invariant-loop-arc : goal.invariant-loop-arc
invariant-loop-arc l = Searching l.name (state_in l.state).arcs (arcs_left l.arc-iterator)
