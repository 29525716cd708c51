-- A build with counts of which none are wanted.
use mathlib.Core.Bool.{false}
use native.Mathlib.Omega.{arith}
use Rattle.std.proofs.lemmas.Result.{err_from_is_err_and}
use Rattle.model.proofs.CallLaws.{gives_as}
use Rattle.fields.specs.Places.{settings_of}
use Rattle.book_calls.proofs.BuildLaws.{as_built}
use Rattle.book_calls.proofs.building.build.Goals as goal

pub returns-in_err-counted-clause-gives : goal.returns-in_err-counted-clause-gives
returns-in_err-counted-clause-gives c =
    let args = c.args in
    let p = err_from_is_err_and c.from_residual.result c.from_residual.ensures.1 in
    rw (p.1, p.2)
    (as_built (settings_of args.settings) false args.book.now args.work.now args.out.now
    c.build_with.new.out _ _ _ (λ none. omega arith) c.in_err-counted.ensures.gives)

pub returns-clause-gives : goal.returns-clause-gives
returns-clause-gives c =
    let args = c.args in
    gives_as _ _ c.from.ensures
    (as_built (settings_of args.settings) false args.book.now args.work.now args.out.now
    c.build_with.new.out _ _ c.in_ok-counted.counted (λ none. omega arith) c.in_ok-counted.ensures.gives)
