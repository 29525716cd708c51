-- The arcs still to be read decide.
use Rattle.std.proofs.Common.{◌≡◌}
use Rattle.base.specs.Lists.{any}
use Rattle.model.specs.Tables.{state_in}
use Rattle.tables.specs.Arcs.{arcs_left}
use Rattle.levels.specs.Found.{rises}
use Rattle.levels.proofs.RisingLaws.{up}
use Rattle.levels.proofs.rising.rises.Given as goal

abbrev pub invariant-loop-arc : goal.invariant-loop-arc
invariant-loop-arc l = any (up l.q) (arcs_left l.arc-iterator) ≡ rises l.q (state_in l.state)
