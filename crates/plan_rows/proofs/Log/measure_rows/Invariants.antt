-- The rows but those left are measured.
use Rattle.std.proofs.Common.{◌+◌, ◌*◌, ◌≤◌, length}
use Rattle.base.specs.Limits.{row_limit}
use Rattle.plan_rows.specs.LoggedRows.{log_rows}
use Rattle.plan_rows.specs.Rows.{rows_of}
use Rattle.plan_rows.proofs.Measuring.{MeasuredTo}
use Rattle.plan_rows.proofs.Log.measure_rows.Given as goal

abbrev pub invariant-loop-row : goal.invariant-loop-row
invariant-loop-row l =
    (l.bytes + (3 + row_limit) * length (rows_of l.row-iterator) ≤ (3 + row_limit) * l.rows)
    × MeasuredTo (log_rows l.self.bytes.now l.self.count l.chosen) (rows_of l.row-iterator) l.bytes
