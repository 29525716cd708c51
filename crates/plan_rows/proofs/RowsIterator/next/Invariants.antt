-- What is left where the loop is is what was left.
use Rattle.std.proofs.Common.{◌≡◌}
use Rattle.written_plans.specs.Reading.{rows_in}
use Rattle.plan_rows.specs.LoggedRows.{entries_from}
use Rattle.plan_rows.specs.Rows.{rows_of}
use Rattle.plan_rows.proofs.RowsIterator.next.Given as goal

abbrev pub invariant-loop-at : goal.invariant-loop-at
invariant-loop-at l =
    let rows = l.initial.self in
    (l.self ≡ record { log = rows.log; chosen = rows.chosen; at = l.at })
    × (rows_of rows ≡ rows_in rows.chosen (entries_from rows.log.bytes.now rows.log.count l.at))
