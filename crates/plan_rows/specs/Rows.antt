-- What is left of a row, and of the rows of the chosen number, that are read entry by entry. Assumes nothing.
use Rattle.std.specs.Prelude.{List, ℕ}
use Rattle.written_plans.specs.Reading.{row_after, rows_in}
use Rattle.plan_rows.specs.LoggedRows.{entries_from}
use Rattle.plan_rows.specs.declared.Row.{Row}
use Rattle.plan_rows.specs.declared.Rows.{Rows}

abbrev pub entries_of : Row → List ℕ
entries_of row = row_after row.depth (entries_from row.log.bytes.now row.log.count row.at)

abbrev pub rows_of : Rows → List (List ℕ)
rows_of rows = rows_in rows.chosen (entries_from rows.log.bytes.now rows.log.count rows.at)
