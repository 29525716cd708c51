-- A state with no level enters the queue, which has room.
use native.Mathlib.Omega.{arith}
use Rattle.levels.proofs.QueueLaws.{enters_inside, longer-one}
use Rattle.levels.proofs.spreading.Reached.reach.Goals as goal

pub bounds-self-last : goal.bounds-self-last
bounds-self-last c =
    enters_inside c.requires.may_enter.queued c.args.q c.requires.q_lt_state_limit (omega arith)

pub returns : goal.returns
returns c =
    let reached = c.args.self.now in
    longer-one c.args.level reached.levels reached.queue reached.last c.requires.may_enter c.args.q
    c.requires.q_lt_state_limit (omega arith)
