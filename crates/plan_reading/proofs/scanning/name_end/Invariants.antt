-- The bytes up to i are a name.
use Rattle.plan_reading.proofs.ScanLaws.{Naming}
use Rattle.plan_reading.proofs.scanning.name_end.Given as goal

abbrev pub invariant-loop-i : goal.invariant-loop-i
invariant-loop-i l = Naming l.s l.at l.i
