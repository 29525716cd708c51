-- The row is where the loop is, and what is left there is what was left.
use Rattle.std.proofs.Common.{◌≡◌}
use Rattle.written_plans.specs.Reading.{row_after}
use Rattle.plan_rows.specs.LoggedRows.{entries_from}
use Rattle.plan_rows.specs.Rows.{entries_of}
use Rattle.plan_rows.proofs.RowIterator.next.Given as goal

abbrev pub invariant-loop-at : goal.invariant-loop-at
invariant-loop-at l =
    let row = l.initial.self in
    (l.self ≡ record { log = row.log; depth = row.depth; at = l.at })
    × (entries_of row ≡ row_after row.depth (entries_from row.log.bytes.now row.log.count l.at))
