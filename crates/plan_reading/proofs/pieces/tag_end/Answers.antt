use native.Mathlib.Omega.{arith}
use Rattle.std.proofs.lemmas.Result.{err_from_is_err_and}
use Rattle.plan_reading.proofs.PieceLaws.{end_full, end_bad, empty_bad, end_empty}
use Rattle.plan_reading.proofs.pieces.tag_end.Goals as goal
use Rattle.plan_reading.proofs.pieces.tag_end.Goals.{else-next-plan-via-then-next-plan+else-plan-next-eq47}
use Rattle.plan_reading.proofs.pieces.tag_end.Goals.{else-next-plan-via-else-next-plan}

pub returns-in_err-last : goal.returns-in_err-last
returns-in_err-last c =
    let p = err_from_is_err_and c.from_residual.result c.from_residual.ensures.1 in
    rw (p.1, p.2)
    (empty_bad c.args.plan.now c.args.at c.skip-next.result c.skip-next.ensures c.if-next-plan.true c.if-plan-next-eq47.true _
    c.in_err-last.ensures)

pub returns-then-plan-next-eq47 : goal.returns-then-plan-next-eq47
returns-then-plan-next-eq47 c =
    end_empty c.args.plan.now c.args.at c.skip-next.result c.skip-next.ensures c.if-next-plan.true c.if-plan-next-eq47.true _
    c.in_ok-last.ensures

pub returns-in_err-last-2 : goal.returns-in_err-last-2
returns-in_err-last-2 c =
    let p = err_from_is_err_and c.from_residual-in_err-last-2.result c.from_residual-in_err-last-2.ensures.1 in
    rw (p.1, p.2)
    (end_bad c.args.plan.now c.args.at c.skip-next.result c.skip-next.ensures _
    (λ h e.
    elim c.else-next-plan.branch [
      | else-next-plan-via-then-next-plan+else-plan-next-eq47 w ↦ w.if-plan-next-eq47.false e
      | else-next-plan-via-else-next-plan w ↦ omega arith
    ])
    c.in_err-last-2.ensures)

pub returns : goal.returns
returns c = end_full c.args.plan.now c.args.at c.skip-next.result c.skip-next.ensures _ c.in_ok-last-2.ensures
