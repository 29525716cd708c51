-- The laws of PlaceLaws at what the code has at hand.
use mathlib.Core.Path.{refl}
use Rattle.fields.proofs.PlaceLaws.{class-fault-is, class_goes, handed_on}
use Rattle.fields.proofs.class_field.Goals as goal

pub returns-in_err-class_fault : goal.returns-in_err-class_fault
returns-in_err-class_fault c =
    let s = c.args.s.now in
    let p = c.args.p in
    let found = class-fault-is s p c.requires.whole c.body-bytes.result.now _ c.body-bytes.ensures c.in_err-class_fault.ensures in
    handed_on s p _ _ c.from_residual.result c.in_err-class_fault.field-0.0 c.from_residual.ensures.1 found

pub returns : goal.returns
returns c =
    let next = c.next_field-next in
    class_goes c.args.s.now c.args.p c.requires.whole c.body-bytes.result.now 0 c.body-bytes.ensures
    c.in_ok-class_fault.ensures next.result next.ensures c.requires.stage_le_class_met refl
