-- The laws of PlaceLaws at what the code has at hand.
use mathlib.Core.Path.{refl}
use Rattle.fields.proofs.PlaceLaws.{name-fault-is, name-goes, handed_on}
use Rattle.fields.proofs.name_field.Goals as goal

pub returns-in_err-name_fault : goal.returns-in_err-name_fault
returns-in_err-name_fault c =
    let s = c.args.s.now in
    let p = c.args.p in
    let found = name-fault-is s p c.requires.whole c.body-name.result.now _ c.body-name.ensures c.in_err-name_fault.ensures in
    handed_on s p _ _ c.from_residual.result c.in_err-name_fault.field-0.0 c.from_residual.ensures.1 found

pub returns : goal.returns
returns c =
    let next = c.next_field-next in
    name-goes c.args.s.now c.args.p c.requires.whole c.body-name.result.now 0 c.body-name.ensures
    c.in_ok-name_fault.ensures next.result next.ensures c.requires.stage_le_names_met refl
