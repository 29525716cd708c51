-- One law of CallLaws for each answer.
use mathlib.Core.Path.{sym, ◌∙◌}
use native.Mathlib.Omega.{arith}
use Rattle.std.proofs.lemmas.Result.{err_from_is_err_and}
use Rattle.tables.proofs.ReadyLaws.{few_arcs}
use Rattle.tables.proofs.TableLaws.{opened_table}
use Rattle.table_calls.proofs.CallLaws.{names_count, walk_refused, walk-row-refused, walk-ended}
use Rattle.table_calls.proofs.walking.walk.Goals as goal

pub returns-in_err-place : goal.returns-in_err-place
returns-in_err-place c =
    let out = err_from_is_err_and c.from_residual.result c.from_residual.ensures.1 in
    rw (out.1, out.2) (walk_refused c.args.table.now c.args.row.now c.args.work.now _ c.in_err-place.ensures)

pub returns-then-not-row_ok : goal.returns-then-not-row_ok
returns-then-not-row_ok c =
    let table = c.args.table.now in
    let opened = opened_table c.in_ok-place.ensures in
    walk-row-refused table c.args.row.now c.args.work.now _ opened.not_refused
    (names_count table c.in_ok-place.place opened.kept.read) (sym c.row_ok.ensures ∙ c.if-not-row_ok.true)

pub walk_over-requires-clause-few_arcs : goal.walk_over-requires-clause-few_arcs
walk_over-requires-clause-few_arcs c =
    few_arcs c.args.table.now c.args.work.now (λ i h. omega (arith, c.type_inv.table i)) (opened_table c.in_ok-place.ensures).not_refused

pub returns : goal.returns
returns c =
    let table = c.args.table.now in
    let opened = opened_table c.in_ok-place.ensures in
    walk-ended table c.args.row.now c.args.work.now _ opened.not_refused (names_count table c.in_ok-place.place opened.kept.read)
    (sym c.row_ok.ensures ∙ c.if-not-row_ok.false) c.walk_over.ensures
