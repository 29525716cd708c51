use Rattle.std.proofs.Common.{arith}
use Rattle.base.proofs.Bits.{lowest-in}
use Rattle.base.proofs.sets.NamesIterator.next.Goals as goal

pub overflow_sub-self : goal.overflow_sub-self
overflow_sub-self c = omega (arith, lowest-in 64 c.args.self.now.left (omega arith))
