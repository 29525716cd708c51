use native.Mathlib.Numerals.{add-one}
use native.Mathlib.Omega.{arith}
use Rattle.worklist.proofs.ForkRounds.{settled-more, settled_all}
use Rattle.worklist.proofs.forks.settle.Goals as goal

pub join-requires-clause-sorted : goal.join-requires-clause-sorted
join-requires-clause-sorted c =
    let at = c.requires.closing in
    let closing = c.loop-v.invariant.closing at.0 at.1 at.2 in
    (closing.rows, closing.kind.sorted, closing.room)

pub join-requires-clause-v_inside : goal.join-requires-clause-v_inside
join-requires-clause-v_inside c =
    let at = c.requires.closing in
    let closing = c.loop-v.invariant.closing at.0 at.1 at.2 in
    omega (arith, (closing.reached.inside c.loop-v.done (omega arith) (omega arith)).0)

pub join-requires-clause-w_inside : goal.join-requires-clause-w_inside
join-requires-clause-w_inside c =
    let at = c.requires.closing in
    let closing = c.loop-v.invariant.closing at.0 at.1 at.2 in
    omega (arith, (closing.reached.inside c.loop-v.done (omega arith) (omega arith)).1)

pub loop-v-preserved : goal.loop-v-preserved
loop-v-preserved c =
    let pair = c.in-Some.ensures in
    rw add-one (settled-more c.loop-v.invariant pair.0 pair.1 pair.2 c.join.ensures)

pub returns : goal.returns
returns c =
    let at = c.requires.closing in
    settled_all c.loop-v.invariant c.in_default.ensures (c.loop-v.invariant.closing at.0 at.1 at.2).reached.order
