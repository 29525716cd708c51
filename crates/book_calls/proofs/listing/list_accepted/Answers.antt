-- The table is read again, and what is read is listed.
use Rattle.tables.proofs.TableLaws.{table_read}
use Rattle.book_calls.proofs.listing.list_accepted.Goals as goal

pub list_table-requires-clause-table_read : goal.list_table-requires-clause-table_read
list_table-requires-clause-table_read c =
    let read = rw c.unwrap-place.ensures at c.read_table.ensures in
    table_read c.args.table.now c.unwrap-place.result read
