-- One law of RowsLaws for each answer.
use mathlib.Core.List.{[], ◌∷◌}
use Rattle.std.proofs.lemmas.Result.{err_from_is_err_and}
use Rattle.written_plans.specs.Reading.{read_plan}
use Rattle.plan_reading.specs.Turns.{sought_names, sought_name}
use Rattle.plan_calls.proofs.RowsLaws.{rows_read}
use Rattle.plan_calls.proofs.reading.rows_with.Goals as goal

pub returns-in_err-rows-clause-gives : goal.returns-in_err-rows-clause-gives
returns-in_err-rows-clause-gives c =
    let a = c.args in
    let names = sought_names a.sought.now in
    let told = c.from_residual-in_err-rows in
    let p = err_from_is_err_and told.result told.ensures.1 in
    rw (p.1, p.2)
    (rows_read names a.sought.now.chosen (read_plan names (sought_name a.sought.now) a.plan.now) c.in_ok-count.ensures.plan_read_as
    (a.out.now ∷ []) (c.write_rows.new.out ∷ []) _ c.in_err-rows.ensures)

pub returns-clause-gives : goal.returns-clause-gives
returns-clause-gives c =
    let a = c.args in
    let names = sought_names a.sought.now in
    rows_read names a.sought.now.chosen (read_plan names (sought_name a.sought.now) a.plan.now) c.in_ok-count.ensures.plan_read_as
    (a.out.now ∷ []) (c.write_rows.new.out ∷ []) c.in_ok-rows.rows c.in_ok-rows.ensures
