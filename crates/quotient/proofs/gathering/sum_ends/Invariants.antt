-- Before v all states are looked at.
use Rattle.quotient.proofs.EndsPass.{SummedUpTo}
use Rattle.quotient.proofs.gathering.sum_ends.Given as goal

abbrev pub invariant-loop-v : goal.invariant-loop-v
invariant-loop-v l = SummedUpTo l.v l.ends l.groups l.sums
