-- The names so far, and those of the arcs still to be read.
use Rattle.model.specs.Tables.{state_in}
use Rattle.tables.specs.Arcs.{arcs_left}
use Rattle.tables.proofs.Marks.{Gathering}
use Rattle.tables.proofs.arcs.name_set.Given as goal

abbrev pub invariant-loop-arc : goal.invariant-loop-arc
invariant-loop-arc l = Gathering l.marks (state_in l.state).arcs (arcs_left l.arc-iterator) l.names
