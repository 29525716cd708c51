-- The rows but those left are written.
use Rattle.plan_rows.specs.LoggedRows.{log_rows}
use Rattle.plan_rows.specs.Rows.{rows_of}
use Rattle.plan_rows.proofs.Putting.{Putting}
use Rattle.plan_rows.proofs.Log.put_rows.Given as goal

abbrev pub invariant-loop-row : goal.invariant-loop-row
invariant-loop-row l =
    Putting l.initial.out (log_rows l.self.bytes.now l.self.count l.chosen) l.out l.at (rows_of l.row-iterator)
