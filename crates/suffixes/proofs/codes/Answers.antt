use Rattle.std.proofs.Common.{arith, sym}
use Rattle.base.proofs.Fills.{filled_none, filled_more}
use Rattle.suffixes.proofs.CodeLaws.{IsCode, code-root, turn_room, turn_cut}
use Rattle.suffixes.proofs.codes.Goals as goal

pub loop-v-init : goal.loop-v-init
loop-v-init c =
    let tree = c.args.tree in
    filled_more (IsCode c.args.i tree.parents.now tree.names.now) 0 0 c.args.values.now c.args.values.now (omega arith)
    (sym (code-root _ tree.parents.now tree.names.now tree.arrays c.args.i)) (filled_none _ c.args.values.now)

pub with_name-requires-clause-code_bound : goal.with_name-requires-clause-code_bound
with_name-requires-clause-code_bound c =
    turn_room _ _ _ c.args.tree.arrays c.args.i c.loop-v.v c.loop-v.values (omega arith) (omega arith)
    c.loop-v.invariant.done c.requires.i_le_setting_limit

pub loop-v-preserved : goal.loop-v-preserved
loop-v-preserved c =
    let tree = c.args.tree in
    filled_more (IsCode c.args.i tree.parents.now tree.names.now) c.loop-v.v _ _ _ (omega arith)
    (turn_cut _ _ _ tree.arrays c.args.i c.loop-v.v c.loop-v.values (omega arith) (omega arith) c.loop-v.invariant.done
    _ (c.with_name.ensures c.args.i c.mask_of-mask.ensures))
    c.loop-v.invariant
