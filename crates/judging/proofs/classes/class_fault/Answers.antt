use native.Mathlib.Omega.{arith}
use borrow.Author.Tests.{eq-eqb}
use lib.ListN.{length}
use Rattle.std.proofs.lemmas.Result.{err_from_is_err_and}
use Rattle.model.specs.Fields.{class_fault}
use Rattle.judging.proofs.classes.class_fault.Goals as goal

pub returns-in_err-try_from : goal.returns-in_err-try_from
unfolding class_fault
returns-in_err-try_from c =
    let size = length c.args.body.now in
    let p = err_from_is_err_and c.from_residual.result c.from_residual.ensures.1 in
    let w = c.in_err-try_from.ensures in
    rw (p.1, p.2, w.1, class_fault, eq-eqb size 3 (omega arith), w.0)
