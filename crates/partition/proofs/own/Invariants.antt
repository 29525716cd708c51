-- The first v elements are their own places.
use Rattle.base.proofs.Fills.{Filled}
use Rattle.partition.proofs.FillLaws.{IsOwn}
use Rattle.partition.proofs.own.Given as goal

abbrev pub invariant-loop-v : goal.invariant-loop-v
invariant-loop-v l = Filled IsOwn l.v l.initial.numbers l.numbers
