-- One law of BuildLaws for each answer.
use mathlib.Core.Path.{sym}
use native.Mathlib.Omega.{arith}
use Rattle.std.specs.Prelude.{Ok, Err}
use Rattle.std.proofs.lemmas.Result.{err_from_is_err_and}
use Rattle.model.specs.Calls.{sizes_fault}
use Rattle.fields.specs.Places.{settings_of}
use Rattle.book_calls.proofs.BuildLaws.{build_sizes_refused, build_fields_refused, build_from, inferred_small}
use Rattle.book_calls.proofs.building.build_with.Goals as goal

pub overflow_cast-result : goal.overflow_cast-result
overflow_cast-result c =
    let small = inferred_small _ _ _ c.args.work.now _ c.in_ok-place.place c.in_ok-place.ensures _ c.requires c.in_ok-inferred.ensures in
    omega (arith, small.length_small)

pub overflow_cast-result-2 : goal.overflow_cast-result-2
overflow_cast-result-2 c =
    let small = inferred_small _ _ _ c.args.work.now _ c.in_ok-place.place c.in_ok-place.ensures _ c.requires c.in_ok-inferred.ensures in
    omega (arith, small.states_small)

pub overflow_cast-result-3 : goal.overflow_cast-result-3
overflow_cast-result-3 c =
    let small = inferred_small _ _ _ c.args.work.now _ c.in_ok-place.place c.in_ok-place.ensures _ c.requires c.in_ok-inferred.ensures in
    omega (arith, small.joins_small)

pub overflow_cast-result-4 : goal.overflow_cast-result-4
overflow_cast-result-4 c =
    let small = inferred_small _ _ _ c.args.work.now _ c.in_ok-place.place c.in_ok-place.ensures _ c.requires c.in_ok-inferred.ensures in
    omega (arith, small.distinct_small)

pub overflow_cast-result-5 : goal.overflow_cast-result-5
overflow_cast-result-5 c =
    let small = inferred_small _ _ _ c.args.work.now _ c.in_ok-place.place c.in_ok-place.ensures _ c.requires c.in_ok-inferred.ensures in
    omega (arith, small.counts_small)

pub returns-in_err-judge_sizes-clause-gives : goal.returns-in_err-judge_sizes-clause-gives
unfolding sizes_fault
returns-in_err-judge_sizes-clause-gives c =
    let args = c.args in
    let p = err_from_is_err_and c.from_residual.result c.from_residual.ensures.1 in
    rw (p.1, p.2)
    (build_sizes_refused (settings_of args.settings) args.wanted args.book.now args.work.now _ _ c.in_err-judge_sizes.ensures)

pub returns-in_err-place-clause-gives : goal.returns-in_err-place-clause-gives
unfolding sizes_fault
returns-in_err-place-clause-gives c =
    let args = c.args in
    let p = err_from_is_err_and c.from_residual-in_err-place.result c.from_residual-in_err-place.ensures.1 in
    rw (p.1, p.2)
    (build_fields_refused (settings_of args.settings) args.wanted args.book.now args.work.now _ _
    (sym c.in_ok-judge_sizes.ensures) c.in_err-place.ensures)

pub returns-in_err-inferred-clause-gives : goal.returns-in_err-inferred-clause-gives
unfolding sizes_fault
returns-in_err-inferred-clause-gives c =
    let args = c.args in
    let p = err_from_is_err_and c.from_residual-in_err-inferred.result c.from_residual-in_err-inferred.ensures.1 in
    rw (p.1, p.2)
    (build_from (settings_of args.settings) args.wanted args.book.now args.work.now _ c.in_ok-place.place c.in_ok-place.ensures _
    (Err c.in_err-inferred.field-0.0) (sym c.in_ok-judge_sizes.ensures) c.in_err-inferred.ensures)

pub returns-clause-gives : goal.returns-clause-gives
unfolding sizes_fault
returns-clause-gives c =
    let args = c.args in
    build_from (settings_of args.settings) args.wanted args.book.now args.work.now _ c.in_ok-place.place c.in_ok-place.ensures _
    (Ok c.in_ok-inferred.inferred) (sym c.in_ok-judge_sizes.ensures) c.in_ok-inferred.ensures
