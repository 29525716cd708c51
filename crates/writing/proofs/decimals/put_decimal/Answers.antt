use native.Mathlib.Omega.{arith}
use Rattle.writing.proofs.Digits.{digits-start, digits-turn, digits-written}
use Rattle.writing.proofs.decimals.put_decimal.Goals as goal

pub loop-i-init : goal.loop-i-init
loop-i-init c = digits-start _ _ _ _ (omega arith) (omega arith)

pub loop-i-preserved : goal.loop-i-preserved
loop-i-preserved c = digits-turn c.loop-i.invariant (omega arith) (omega arith)

pub returns : goal.returns
returns c = record { written = digits-written c.loop-i.invariant (omega arith); ends = omega arith }
