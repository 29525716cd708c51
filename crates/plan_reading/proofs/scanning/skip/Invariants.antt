-- The bytes up to i pass the test.
use Rattle.plan_reading.proofs.ScanLaws.{Passing}
use Rattle.plan_reading.proofs.scanning.skip.Given as goal

abbrev pub invariant-loop-i : goal.invariant-loop-i
invariant-loop-i g l = Passing g.test l.s l.at l.i
