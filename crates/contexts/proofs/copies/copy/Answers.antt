use native.Mathlib.Omega.{arith}
use lib.Seq.{ext_get_or}
use Rattle.contexts.proofs.copies.copy.Goals as goal

pub returns-clause-after : goal.returns-clause-after
returns-clause-after c =
    ext_get_or 0 c.loop-v.to c.args.from.now (omega arith) (λ w h. c.loop-v.invariant w (omega arith))
