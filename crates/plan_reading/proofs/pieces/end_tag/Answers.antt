use native.Mathlib.Omega.{arith}
use Rattle.plan_reading.proofs.PieceLaws.{end_due}
use Rattle.plan_reading.proofs.pieces.end_tag.Goals as goal

pub returns : goal.returns
returns c =
    end_due c.args.plan.now c.args.innermost c.args.at c.requires.name_behind c.requires.at_in_bounds c.agree-stop.result
    c.agree-stop.ensures (omega arith) c.skip.result c.skip.ensures c.expect.result c.expect.ensures
