use Rattle.plan_reading.proofs.PieceLaws.{only_before}
use Rattle.plan_reading.proofs.pieces.next_piece.Goals as goal

pub returns-then-plan-at-clause-piece_from : goal.returns-then-plan-at-clause-piece_from
returns-then-plan-at-clause-piece_from c =
    only_before c.args.plan.now c.args.stack.now.opens c.args.stack.now.depth c.args.r c.before_tag-at.result c.before_tag-at.ensures
    c.requires.stacked c.requires.at_in_bounds c.if-plan-at.true
