-- One law of CallLaws for each answer.
use native.Mathlib.Omega.{arith}
use Rattle.std.proofs.lemmas.Result.{err_from_is_err_and}
use Rattle.model.proofs.CallLaws.{table_sizes}
use Rattle.tables.proofs.TableLaws.{opened_table}
use Rattle.table_calls.proofs.CallLaws.{rewrite_refused, rewrite_short, rewrite_copied}
use Rattle.table_calls.proofs.rewriting.rewrite.Goals as goal

pub returns-in_err-place : goal.returns-in_err-place
returns-in_err-place c =
    let out = err_from_is_err_and c.from_residual.result c.from_residual.ensures.1 in
    rw (out.1, out.2) (rewrite_refused c.args.table.now c.args.work.now c.args.out.now _ c.in_err-place.ensures)

pub returns-then-out-table : goal.returns-then-out-table
returns-then-out-table c =
    rewrite_short c.args.table.now c.args.work.now c.args.out.now (λ i h. omega (arith, c.type_inv.table i))
    (opened_table c.in_ok-place.ensures).not_refused (omega arith)

pub overflow_cast-result : goal.overflow_cast-result
overflow_cast-result c =
    omega (arith, (table_sizes c.args.table.now c.args.work.now (opened_table c.in_ok-place.ensures).not_refused).input_fits)

pub returns : goal.returns
returns c =
    let opened = opened_table c.in_ok-place.ensures in
    rewrite_copied c.args.table.now c.args.work.now c.args.out.now
    (λ i h. omega (arith, c.type_inv.table i)) opened.not_refused c.copy_in.new.out _
    (omega arith) c.copy_in.ensures.written opened.kept.items_are
