use mathlib.Core.Path.{ap}
use native.Mathlib.Omega.{arith}
use lib.ListN.{length}
use Rattle.plan_rows.proofs.Measuring.{passed_more, passed_long, passed_all}
use Rattle.plan_rows.proofs.Log.measure_rows.Goals as goal

pub returns-then-length-gt-ROW_LIMIT : goal.returns-then-length-gt-ROW_LIMIT
returns-then-length-gt-ROW_LIMIT c =
    passed_long c.len-length.result c.len-length.ensures (omega arith) (rw c.in-Some.ensures.steps at c.loop-row.invariant.1)
    (omega (arith, c.count_rows-rows.ensures))

pub loop-row-preserved : goal.loop-row-preserved
loop-row-preserved c = (
  omega (arith, ap length c.in-Some.ensures.steps),
  passed_more c.len-length.result c.len-length.ensures (omega arith) (rw c.in-Some.ensures.steps at c.loop-row.invariant.1),
)

pub returns : goal.returns
returns c =
    passed_all c.count_rows-rows.result c.count_rows-rows.ensures (omega arith)
    (rw c.in-None.ensures.steps.0 at c.loop-row.invariant.1)
