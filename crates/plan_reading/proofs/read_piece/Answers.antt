-- Answer by answer.
use lib.ListN.{drop}
use Rattle.std.proofs.lemmas.Result.{err_from_is_err_and}
use Rattle.base.specs.Refusals.{number_of}
use Rattle.plan_reading.specs.Scanning.{part}
use Rattle.plan_reading.specs.Turns.{sought_names, sought_name, judge_of}
use Rattle.plan_reading.proofs.StackLaws.{fine_shallow}
use Rattle.plan_reading.proofs.TurnLaws.{some_number, turn_fault, turn_ended}
use Rattle.plan_reading.proofs.read_piece.Goals as goal

pub returns-in-Err : goal.returns-in-Err
returns-in-Err c =
    let a = c.args in
    let s = a.plan.now in
    let met = rw c.in-Name.is at c.in_ok-at.ensures.piece_from in
    turn_fault (sought_names a.sought.now) (judge_of a.sought.now) s a.stack.now a.log.now a.r c.requires.standing
    c.in-Name.from c.in-Name.end met (number_of c.in-Err.refusal)
    (c.in-Err.ensures.is s (part s c.in-Name.from c.in-Name.end) (drop c.in-Name.end s) c.requires.standing.numbered
    c.number_by_guess-number.ensures)
    (some_number c.in-Err.refusal)

-- the tag is not refused, so there is room on the stack for its element
pub begin_element-requires-clause-depth_lt_plan_depth : goal.begin_element-requires-clause-depth_lt_plan_depth
begin_element-requires-clause-depth_lt_plan_depth c =
    let a = c.args in
    let s = a.plan.now in
    let name = part s c.in-Name.from c.in-Name.end in
    let onward = drop c.in-Name.end s in
    let number = c.number_by_guess-number in
    fine_shallow (sought_names a.sought.now) (sought_name a.sought.now) s a.stack.now.opens a.stack.now.depth name onward
    (c.in_default.ensures.is s name onward c.requires.standing.numbered number.ensures)

pub returns-in_err-next-in-Name : goal.returns-in_err-next-in-Name
returns-in_err-next-in-Name c =
    let a = c.args in
    let s = a.plan.now in
    let from = c.in-Name.from in
    let end = c.in-Name.end in
    let number = c.number_by_guess-number in
    let told = c.from_residual-in_err-next-in-Name in
    let p = err_from_is_err_and told.result told.ensures.1 in
    let met = rw c.in-Name.is at c.in_ok-at.ensures.piece_from in
    let fine =
    c.in_default.ensures.is s (part s from end) (drop end s) c.requires.standing.numbered number.ensures in
    rw (p.1, p.2)
    (turn_ended (sought_names a.sought.now) (judge_of a.sought.now) s a.stack.now a.log.now a.r c.requires.standing
    from end met fine _ (c.in_err-next-in-Name.ensures.is (sought_names a.sought.now) c.requires.standing number.ensures))
