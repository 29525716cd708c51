use native.Mathlib.Omega.{arith}
use Rattle.std.proofs.lemmas.Result.{err_from_is_err_and}
use Rattle.prefix_tree.specs.Growth.{held}
use Rattle.prefix_tree.proofs.StepLaws.{walking-begins, walking-goes, walking-full, row_full, walking-few, walking-ended}
use Rattle.prefix_tree.proofs.Growing.add_row.Goals as goal

pub loop-name-init : goal.loop-name-init
loop-name-init c =
    walking-begins c.args.row.now c.args.self.now.count (held c.args.self.now c.args.work.now) (omega arith) (omega arith)

pub returns-in_err-state : goal.returns-in_err-state
returns-in_err-state c =
    let p = err_from_is_err_and c.from_residual.result c.from_residual.ensures.1 in
    let full = c.in_err-state.ensures in
    rw (p.1, p.2, full.0) (row_full _ c.args.self.now.few_states (walking-full c.loop-name.invariant (omega arith) full.1))

pub loop-name-preserved : goal.loop-name-preserved
loop-name-preserved c = walking-goes c.loop-name.invariant (omega arith) c.in_ok-state.ensures c.step.auto.work

pub end_in-again-requires : goal.end_in-again-requires
end_in-again-requires c =
    let inv = c.loop-name.invariant in
    (inv.low, walking-few inv c.requires.few_rows)

pub returns : goal.returns
returns c =
    let ended = c.end_in-again.ensures in
    rw (ended.parents, ended.names, ended.count)
    (walking-ended c.requires.few_rows c.loop-name.invariant (omega arith) c.loop-name.self.sized.2 ended.ended)
