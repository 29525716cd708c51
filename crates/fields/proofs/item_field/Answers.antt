-- The laws of PlaceLaws at what the code has at hand.
use mathlib.Core.Path.{ap}
use Rattle.base.specs.Refusals.{fault_of}
use Rattle.fields.proofs.PlaceLaws.{item_goes}
use Rattle.fields.proofs.item_field.Goals as goal

pub returns : goal.returns
returns c =
    let next = c.next_field in
    let none = ap fault_of c.in_ok-judged.was in
    item_goes c.args.s.now c.args.p c.requires.whole next.result (fault_of c.args.judged) next.ensures none
    (c.requires.p_lt_state_limit none)
