-- One law of RowsLaws for each answer.
use native.Mathlib.Omega.{arith}
use Rattle.plan_rows.specs.LoggedRows.{log_rows}
use Rattle.plan_calls.proofs.RowsLaws.{rows_short, rows_written}
use Rattle.plan_calls.proofs.reading.write_rows.Goals as goal

pub returns-then-out-size : goal.returns-then-out-size
returns-then-out-size c =
    rows_short (log_rows c.args.log.bytes.now c.args.log.count c.args.chosen) c.args.out.now c.in_ok-size.ensures (omega arith)

pub returns : goal.returns
returns c =
    rw (c.default.ensures.0, c.default.ensures.1.1.1)
    (rows_written (log_rows c.args.log.bytes.now c.args.log.count c.args.chosen) c.args.out.now c.in_ok-size.ensures c.put_rows.new.out
    c.put_rows.result (omega arith) c.put_rows.ensures)
