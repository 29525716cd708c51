-- A group with a number is met, and one without is new.
use Rattle.std.proofs.Common.{refl, arith}
use Rattle.quotient.proofs.MetLaws.{meet_old, meet_room, meet_new}
use Rattle.quotient.proofs.numbering.meet_one.Goals as goal

pub returns-then-numbers-target-ne-NO_STATE : goal.returns-then-numbers-target-ne-NO_STATE
returns-then-numbers-target-ne-NO_STATE c = λ n after m. meet_old m c.if-numbers-target-ne-NO_STATE.true

pub bounds-order-count : goal.bounds-order-count
bounds-order-count c =
    omega (arith, meet_room c.requires.2 c.if-numbers-target-ne-NO_STATE.false, c.requires.2.so_far.met_size)

pub returns : goal.returns
returns c = λ n after m. meet_new m c.if-numbers-target-ne-NO_STATE.false c.args.target c.args.count refl refl
