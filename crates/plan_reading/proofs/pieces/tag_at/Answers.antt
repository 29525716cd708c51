use Rattle.std.proofs.lemmas.Result.{err_from_is_err_and}
use Rattle.plan_reading.proofs.PieceLaws.{tag_ends, tag_unended}
use Rattle.plan_reading.proofs.pieces.tag_at.Goals as goal

pub returns-in_err-at-in-Some : goal.returns-in_err-at-in-Some
returns-in_err-at-in-Some c =
    let p = err_from_is_err_and c.from_residual.result c.from_residual.ensures.1 in
    let inner = c.in-Some.ensures in
    rw (p.1, p.2)
    (tag_unended c.args.plan.now c.args.stack.now.opens c.args.stack.now.depth c.args.r c.in-Some.innermost inner.1 inner.0
    c.if-r-plan.true c.if-plan-r-eq47.true _ c.in_err-at-in-Some.ensures)

pub returns-in_ok-at-in-Some : goal.returns-in_ok-at-in-Some
returns-in_ok-at-in-Some c =
    let inner = c.in-Some.ensures in
    tag_ends c.args.plan.now c.args.stack.now.opens c.args.stack.now.depth c.args.r c.in-Some.innermost inner.1 inner.0
    c.if-r-plan.true c.if-plan-r-eq47.true c.requires c.in_ok-at-in-Some.at c.in_ok-at-in-Some.ensures
