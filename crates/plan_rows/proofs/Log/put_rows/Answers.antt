use Rattle.plan_rows.proofs.Putting.{none_put, row_short, field_fits, row_put, rows_put}
use Rattle.plan_rows.specs.LoggedRows.{log_rows}
use Rattle.plan_rows.specs.Rows.{entries_of, rows_of}
use Rattle.plan_rows.proofs.Log.put_rows.Goals as goal

pub loop-row-init : goal.loop-row-init
loop-row-init c =
    rw (c.into_iter-row-iterator.ensures.into_iter_gives, c.rows-row-items.ensures)
    (none_put c.args.out.now (log_rows c.args.self.bytes.now c.args.self.count c.args.chosen) c.requires.chosen_value c.requires.fits)

pub put-at-requires-clause-len_bound : goal.put-at-requires-clause-len_bound
put-at-requires-clause-len_bound c =
    row_short (entries_of c.in-Some.row) (rows_of c.next.new.self) (rw c.in-Some.ensures.steps at c.loop-row.invariant)

pub put-at-requires-clause-fits : goal.put-at-requires-clause-fits
put-at-requires-clause-fits c =
    field_fits (entries_of c.in-Some.row) (rows_of c.next.new.self) (rw c.in-Some.ensures.steps at c.loop-row.invariant)

pub loop-row-preserved : goal.loop-row-preserved
loop-row-preserved c =
    row_put (entries_of c.in-Some.row) (rows_of c.next.new.self) (rw c.in-Some.ensures.steps at c.loop-row.invariant)
    c.put-at.new.out c.put-at.result c.put-at.ensures

pub returns : goal.returns
returns c = rows_put (rw c.in-None.ensures.steps.0 at c.loop-row.invariant)
