-- One law of RowsLaws for each answer.
use native.Mathlib.Omega.{arith}
use Rattle.std.proofs.lemmas.Result.{err_from_is_err_and}
use Rattle.model.specs.Fields.{standard, name_list}
use Rattle.fields.proofs.Parts.{list_at, refused-number}
use Rattle.plan_reading.proofs.TurnLaws.{some_number}
use Rattle.plan_calls.proofs.RowsLaws.{sizes_told, plan_sizes_refused, list_sizes_refused, list_refused, chosen_refused, rows_asked}
use Rattle.plan_calls.proofs.RowsLaws.{plan_room, list_ascends}
use Rattle.plan_calls.proofs.reading.read_rows.Goals as goal

pub returns-in_err-judge_sizes-clause-gives : goal.returns-in_err-judge_sizes-clause-gives
returns-in_err-judge_sizes-clause-gives c =
    let a = c.args in
    let p = err_from_is_err_and c.from_residual.result c.from_residual.ensures.1 in
    rw (p.1, p.2)
    (plan_sizes_refused a.plan.now a.list.now a.chosen a.work.now a.out.now
    (sizes_told a.plan.now a.work.now _ c.in_err-judge_sizes.ensures) (some_number c.in_err-judge_sizes.field-0.0))

pub returns-in_err-judge_sizes-2-clause-gives : goal.returns-in_err-judge_sizes-2-clause-gives
returns-in_err-judge_sizes-2-clause-gives c =
    let a = c.args in
    let told = c.from_residual-in_err-judge_sizes-2 in
    let p = err_from_is_err_and told.result told.ensures.1 in
    rw (p.1, p.2)
    (list_sizes_refused a.plan.now a.list.now a.chosen a.work.now a.out.now
    (sizes_told a.plan.now a.work.now 0 c.in_ok-judge_sizes.ensures)
    (sizes_told a.list.now a.work.now _ c.in_err-judge_sizes-2.ensures) (some_number c.in_err-judge_sizes-2.field-0.0))

pub returns-in_err-place-clause-gives : goal.returns-in_err-place-clause-gives
returns-in_err-place-clause-gives c =
    let a = c.args in
    let told = c.from_residual-in_err-place in
    let p = err_from_is_err_and told.result told.ensures.1 in
    rw (p.1, p.2)
    (list_refused a.plan.now a.list.now a.chosen a.work.now a.out.now
    (sizes_told a.plan.now a.work.now 0 c.in_ok-judge_sizes.ensures)
    (sizes_told a.list.now a.work.now 0 c.in_ok-judge_sizes-2.ensures) _
    (refused-number standard name_list a.list.now _ c.in_err-place.ensures) c.in_err-place.ensures.kept)

pub returns-then-place-chosen-clause-gives : goal.returns-then-place-chosen-clause-gives
returns-then-place-chosen-clause-gives c =
    let a = c.args in
    rw c.into.ensures
    (chosen_refused a.plan.now a.list.now a.chosen a.work.now a.out.now
    (sizes_told a.plan.now a.work.now 0 c.in_ok-judge_sizes.ensures)
    (sizes_told a.list.now a.work.now 0 c.in_ok-judge_sizes-2.ensures)
    (list_at a.list.now c.in_ok-place.place c.in_ok-place.ensures) (omega arith))

pub new-sought-requires-clause-ascends : goal.new-sought-requires-clause-ascends
new-sought-requires-clause-ascends c = list_ascends (list_at c.args.list.now c.in_ok-place.place c.in_ok-place.ensures)

pub rows_with-requires : goal.rows_with-requires
rows_with-requires c =
    plan_room c.args.plan.now c.args.work.now (sizes_told c.args.plan.now c.args.work.now 0 c.in_ok-judge_sizes.ensures)

pub returns-clause-gives : goal.returns-clause-gives
returns-clause-gives c =
    let a = c.args in
    let new = c.new-sought.ensures in
    rows_asked a.plan.now a.list.now a.chosen a.work.now a.out.now
    (sizes_told a.plan.now a.work.now 0 c.in_ok-judge_sizes.ensures)
    (sizes_told a.list.now a.work.now 0 c.in_ok-judge_sizes-2.ensures)
    (list_at a.list.now c.in_ok-place.place c.in_ok-place.ensures) (omega arith) c.rows_with.new.out _
    (rw (new.list_kept, new.count_kept, new.chosen_kept) at c.rows_with.ensures.gives)
