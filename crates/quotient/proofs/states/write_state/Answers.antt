-- The arcs, then the head in front of them.
use Rattle.std.proofs.Common.{◌≡◌, ◌∙◌, ◌++◌, ℕ, ◌+◌, ◌-◌, ap, get_or, ltb, arith}
use Rattle.writing.specs.Writing.{state_head}
use Rattle.writing.proofs.WritingLaws.{put_before}
use Rattle.quotient.proofs.StatePieces.{state-parts}
use Rattle.quotient.proofs.states.write_state.Goals as goal

pub write_arcs-end-requires-clause-by_index : goal.write_arcs-end-requires-clause-by_index
write_arcs-end-requires-clause-by_index c =
    let given = c.requires.by_index in
    let parts = state-parts given.1 in
    let fits = given.2 in
    (parts.rest, parts.arcs_left, omega (arith, parts.sized))

pub overflow_sub-end : goal.overflow_sub-end
overflow_sub-end c =
    let parts = state-parts c.requires.by_index.1 in
    omega (arith, (c.write_arcs-end.ensures parts.rest parts.arcs_left).ends)

pub put_state-requires-clause-fits : goal.put_state-requires-clause-fits
put_state-requires-clause-fits c =
    let given = c.requires.by_index in
    let parts = state-parts given.1 in
    let fits = given.2 in
    omega (arith, parts.sized, c.write_arcs-end.auto.out)

pub put_state-requires-clause-bytes_bound : goal.put_state-requires-clause-bytes_bound
put_state-requires-clause-bytes_bound c =
    let parts = state-parts c.requires.by_index.1 in
    omega (arith, parts.few, (c.write_arcs-end.ensures parts.rest parts.arcs_left).ends)

pub returns : goal.returns
returns c =
    let fits = c.requires.by_index.2 in
    let room = (state-parts c.requires.by_index.1).sized in
    let accepts = ltb 0 (get_or c.args.made.sums.now c.args.g 0) in
    let arcs = c.write_arcs-end in
    λ bytes given.
    let parts = state-parts given in
    let put = arcs.ensures parts.rest parts.arcs_left in
    let bytes_are : bytes ≡ state_head accepts (arcs.result - (c.args.at + 4)) ++ parts.rest =
    parts.bytes_are ∙ ap (λ (n : ℕ). state_head accepts n ++ parts.rest) (omega (arith, put.ends)) in
    rw bytes_are (put_before put c.put_state.ensures (omega arith) (omega (arith, room)))
