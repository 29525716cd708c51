-- One law for each arm.
use Rattle.std.proofs.Common.{arith}
use Rattle.std.proofs.lemmas.Grind.{common_steps}
use Rattle.model.specs.Fields.{row_fault, state_fault, with_field}
use Rattle.fields.specs.Places.{kind_of}
use Rattle.fields.proofs.MarkLaws.{name_arm, class_arm, row_arm, state_arm}
use Rattle.fields.proofs.PlaceLaws.{rows_left, states_left, item_room, item_step}
use Rattle.fields.proofs.whole_field.Goals as goal

pub returns-in-1 : goal.returns-in-1
returns-in-1 c =
    name_arm (kind_of c.args.kind) c.args.s.now c.args.p c.name_field.result c.in-1.is (grind (arith, common_steps)) c.name_field.ensures

pub returns-in-2 : goal.returns-in-2
returns-in-2 c =
    class_arm (kind_of c.args.kind) c.args.s.now c.args.p c.class_field.result c.in-2.is (grind (arith, common_steps))
    (grind (arith, common_steps)) c.class_field.ensures

pub item_field-requires-clause-p_lt_state_limit : goal.item_field-requires-clause-p_lt_state_limit
item_field-requires-clause-p_lt_state_limit c =
    item_room row_fault c.args.s.now c.args.p c.body.result.now _ c.body.ensures c.row_fault.ensures rows_left

pub returns-in-3 : goal.returns-in-3
unfolding with_field
returns-in-3 c =
    row_arm (kind_of c.args.kind) c.args.s.now c.args.p c.item_field.result c.in-3.is (grind (arith, common_steps))
    (grind (arith, common_steps))
    (item_step row_fault c.args.s.now c.args.p c.body.result.now _ c.body.ensures c.row_fault.ensures c.item_field.result
    c.item_field.ensures)

pub item_field-requires-in-4-clause-p_lt_state_limit : goal.item_field-requires-in-4-clause-p_lt_state_limit
item_field-requires-in-4-clause-p_lt_state_limit c =
    item_room state_fault c.args.s.now c.args.p c.body-in-4.result.now _ c.body-in-4.ensures c.state_fault.ensures states_left

pub returns-in-4 : goal.returns-in-4
unfolding with_field
returns-in-4 c =
    state_arm (kind_of c.args.kind) c.args.s.now c.args.p c.item_field-in-4.result c.in-4.is (grind (arith, common_steps))
    (grind (arith, common_steps))
    (item_step state_fault c.args.s.now c.args.p c.body-in-4.result.now _ c.body-in-4.ensures c.state_fault.ensures
    c.item_field-in-4.result c.item_field-in-4.ensures)
