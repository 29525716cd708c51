use Rattle.std.proofs.Common.{refl, sym, ap, subst, List, ℕ, ◌+◌, ◌≤◌, length, get_or, arith}
use Rattle.model.specs.Joinings.{tree_of}
use Rattle.model.specs.Quotients.{met_groups, states_of}
use Rattle.model.specs.Tables.{state_fields}
use Rattle.writing.proofs.BytesLeft.{BytesLeft, left-all, left-more, left-room, left-none}
use Rattle.quotient.proofs.MetLaws.{met-nth, met-low}
use Rattle.quotient.proofs.StatePieces.{states_from, states_all, field_of, fields_more, fields_none, state-ready}
use Rattle.quotient.proofs.states.write_states.Goals as goal

pub loop-i-init : goal.loop-i-init
loop-i-init c =
    let args = c.args in
    λ rows groups ready.
    subst
    (λ (left : List ℕ). BytesLeft args.out.now args.out.now args.at args.at (state_fields (states_of rows (tree_of rows) groups)) left)
    (ap state_fields (sym (states_all rows groups)))
    (left-all args.out.now args.at (state_fields (states_of rows (tree_of rows) groups)))

pub write_state-end-requires-clause-work_bytes_in_bounds : goal.write_state-end-requires-clause-work_bytes_in_bounds
write_state-end-requires-clause-work_bytes_in_bounds c =
    let ready = c.requires.2 in
    let low = met-low (met_groups (tree_of c.requires.0) c.requires.1) ready.numbered c.loop-i.i c.loop-i-test.true in
    (ready.gathered.work_size, omega (arith, low, ready.gathered.few))

pub write_state-end-requires-clause-g_in_bounds : goal.write_state-end-requires-clause-g_in_bounds
write_state-end-requires-clause-g_in_bounds c =
    let ready = c.requires.2 in
    let low = met-low (met_groups (tree_of c.requires.0) c.requires.1) ready.numbered c.loop-i.i c.loop-i-test.true in
    (omega (arith, low, ready.gathered.next_size), omega (arith, low, ready.summed.size))

-- what is written in the turn: the state of its group, the first field of those that are left
pub write_state-end-requires-clause-by_index : goal.write_state-end-requires-clause-by_index
write_state-end-requires-clause-by_index c =
    let args = c.args in
    let rows = c.requires.0 in
    let groups = c.requires.1 in
    let ready = c.requires.2 in
    let at = c.loop-i in
    let g = (get_or c.args.made.order.now c.loop-i.i 0) in
    let more =
    fields_more rows groups at.i g (omega (arith, c.loop-i-test.true, ready.numbered.counted))
    (met-nth (met_groups (tree_of rows) groups) ready.numbered at.i c.loop-i-test.true) in (
      field_of rows groups g,
      state-ready rows groups args.work.now args.made.next.now args.made.sums.now args.made.order.now args.made.numbers.now
          args.made.count ready at.i g c.loop-i-test.true refl,
      left-room (at.invariant rows groups ready) (field_of rows groups g)
          (state_fields (states_from rows groups (at.i + 1))) more c.requires.3,
    )

pub loop-i-preserved : goal.loop-i-preserved
loop-i-preserved c =
    let args = c.args in
    let fits = c.requires.3 in
    let start-low : args.at ≤ length args.out.now = omega arith in
    let at = c.loop-i in
    let g = (get_or c.args.made.order.now c.loop-i.i 0) in
    let written = c.write_state-end in
    λ rows groups ready.
    let state =
    state-ready rows groups args.work.now args.made.next.now args.made.sums.now args.made.order.now args.made.numbers.now
    args.made.count ready at.i g c.loop-i-test.true refl in
    let more =
    fields_more rows groups at.i g (omega (arith, c.loop-i-test.true, ready.numbered.counted))
    (met-nth (met_groups (tree_of rows) groups) ready.numbered at.i c.loop-i-test.true) in
    left-more (at.invariant rows groups ready) (field_of rows groups g) (state_fields (states_from rows groups (at.i + 1)))
    written.new.out written.result more (written.ensures (field_of rows groups g) state) start-low

pub returns : goal.returns
returns c =
    λ rows groups ready.
    left-none (c.loop-i.invariant rows groups ready)
    (fields_none rows groups c.loop-i.i (omega (arith, ready.numbered.counted, c.loop-i-test.false)))
