use Rattle.std.proofs.Common.{arith}
use Rattle.partition.proofs.FillLaws.{own-all}
use Rattle.partition.proofs.own.Goals as goal

pub returns : goal.returns
returns c = own-all c.loop-v.v _ _ (omega arith) c.loop-v.invariant
