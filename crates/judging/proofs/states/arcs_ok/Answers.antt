use native.Mathlib.Omega.{arith}
use Rattle.judging.proofs.StateLaws.{rest_short, rest_unnamed, rest_unordered, rest_more}
use Rattle.judging.proofs.states.arcs_ok.Goals as goal
use Rattle.judging.proofs.states.arcs_ok.Goals.{then-name-next-via-then-name-next, then-name-next-via-else-name-next+then-names-name}

pub returns-then-name-next : goal.returns-then-name-next
returns-then-name-next c =
    let s = c.loop-arcs.arcs.now in
    let next = c.loop-arcs.next in
    let left = c.loop-arcs.invariant in
    elim c.then-name-next.branch [
      | then-name-next-via-then-name-next w ↦ rest_unordered c.args.names next s _ (omega arith) (omega arith) left
      | then-name-next-via-else-name-next+then-names-name w ↦ rest_unnamed c.args.names next s _ (omega arith) (omega arith) left
    ]

pub loop-arcs-preserved : goal.loop-arcs-preserved
loop-arcs-preserved c =
    rest_more c.args.names c.loop-arcs.next c.loop-arcs.arcs.now _ (omega arith) (omega arith) (omega arith) c.loop-arcs.invariant

pub returns : goal.returns
returns c =
    let left = c.loop-arcs.invariant in
    rw c.is_empty.ensures (rest_short c.args.names c.loop-arcs.next c.loop-arcs.arcs.now _ (omega arith) left)
