-- Answer by answer.
use native.Mathlib.Omega.{arith}
use Rattle.plan_reading.proofs.StackLaws.{judged_unknown, judged_other}
use Rattle.plan_reading.proofs.tag_fault.Goals as goal

pub returns-in-Some : goal.returns-in-Some
returns-in-Some c =
    judged_unknown c.args.stack.now.opens c.args.stack.now.depth c.args.number c.args.sought.now (λ h. omega arith) (λ h. omega arith)
    c.in-Some.around c.in-Some.ensures (omega arith)

pub returns-in_default : goal.returns-in_default
returns-in_default c =
    judged_other c.args.stack.now.opens c.args.stack.now.depth c.args.number c.args.sought.now (λ h. omega arith)
    c.in-Some.around c.in-Some.ensures (λ e. omega arith)
