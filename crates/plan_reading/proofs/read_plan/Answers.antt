use native.Mathlib.Omega.{arith}
use Rattle.plan_reading.specs.Turns.{sought_names, sought_name}
use Rattle.plan_reading.proofs.TurnLaws.{plan_read, plan_unfinished}
use Rattle.plan_reading.proofs.read_plan.Goals as goal
use Rattle.plan_reading.proofs.read_plan.Goals.{else-stack-eq0-via-then-stack-eq0+else-r-gt0, else-stack-eq0-via-else-stack-eq0}

pub returns-then-r-gt0-clause-plan_read_as : goal.returns-then-r-gt0-clause-plan_read_as
returns-then-r-gt0-clause-plan_read_as c =
    let a = c.args in
    plan_read (sought_names a.sought.now) (sought_name a.sought.now) a.plan.now c.loop-r.stack c.loop-r.log c.loop-r.r
    c.loop-r.invariant.0 c.loop-r-test.false (omega arith) (omega arith)

pub returns-clause-plan_read_as : goal.returns-clause-plan_read_as
returns-clause-plan_read_as c =
    let a = c.args in
    let bad =
    plan_unfinished (sought_names a.sought.now) (sought_name a.sought.now) a.plan.now c.loop-r.stack c.loop-r.log c.loop-r.r
    c.loop-r.invariant.0 c.loop-r-test.false
    (λ outer some.
    elim c.else-stack-eq0.branch [
      | else-stack-eq0-via-then-stack-eq0+else-r-gt0 w ↦ omega arith
      | else-stack-eq0-via-else-stack-eq0 w ↦ omega arith
    ]) in
    rw c.from.ensures bad
