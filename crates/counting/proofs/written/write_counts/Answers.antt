use mathlib.Core.Path.{refl, sym, subst}
use mathlib.Core.List.{List}
use Prim.Native.Nat.{ℕ, ◌+◌, ◌<◌}
use native.Mathlib.Omega.{arith}
use lib.ListN.{get_or}
use Rattle.model.specs.Joinings.{tree_of}
use Rattle.model.specs.Quotients.{states_of}
use Rattle.counts.specs.Counts.{count_field, counts_file}
use Rattle.writing.proofs.BytesLeft.{BytesLeft, left-all, left-more, left-room, left-none}
use Rattle.counting.proofs.CountPieces.{fields_from, fields_all, fields_more, fields_none, count_states, count_low}
use Rattle.counting.proofs.CountPieces.{group-low, field-ready}
use Rattle.counting.proofs.written.write_counts.Goals as goal

pub loop-i-init : goal.loop-i-init
loop-i-init c =
    let out = c.args.out.now in
    λ rows parents names groups ready.
    subst (λ (left : List ℕ). BytesLeft out out 0 0 (counts_file (states_of rows (tree_of rows) groups) rows) left)
    (sym (fields_all rows groups)) (left-all out 0 (counts_file (states_of rows (tree_of rows) groups) rows))

pub bounds-made-i : goal.bounds-made-i
bounds-made-i c =
    let p = c.requires in
    let low =
    count_low p.0 p.1 p.2 p.3 c.args.work.now c.args.made.next.now c.args.made.sums.now c.args.made.order.now c.args.made.count p.4 in
    omega (arith, low, p.4.met_size)

pub write_field-end-requires-clause-g_in_bounds : goal.write_field-end-requires-clause-g_in_bounds
write_field-end-requires-clause-g_in_bounds c =
    let p = c.requires in
    let low =
    group-low p.0 p.1 p.2 p.3 c.args.work.now c.args.made.next.now c.args.made.sums.now c.args.made.order.now
    c.args.made.count p.4 c.loop-i.i (get_or c.args.made.order.now c.loop-i.i 0) c.loop-i-test.true refl in
    (omega (arith, low, p.4.next_size), omega (arith, low, p.4.summed.size))

pub write_field-end-requires-clause-work_bytes_in_bounds : goal.write_field-end-requires-clause-work_bytes_in_bounds
write_field-end-requires-clause-work_bytes_in_bounds c =
    let p = c.requires in
    let low =
    group-low p.0 p.1 p.2 p.3 c.args.work.now c.args.made.next.now c.args.made.sums.now c.args.made.order.now
    c.args.made.count p.4 c.loop-i.i (get_or c.args.made.order.now c.loop-i.i 0) c.loop-i-test.true refl in
    (p.4.passes.work_size, omega (arith, low, p.4.joined.few))

pub write_field-end-requires-clause-by_index : goal.write_field-end-requires-clause-by_index
write_field-end-requires-clause-by_index c =
    let p = c.requires in
    let g = get_or c.args.made.order.now c.loop-i.i 0 in
    let states = states_of p.0 (tree_of p.0) p.3 in
    let early : c.loop-i.i < c.args.made.count = c.loop-i-test.true in
    let all =
    count_states p.0 p.1 p.2 p.3 c.args.work.now c.args.made.next.now c.args.made.sums.now c.args.made.order.now
    c.args.made.count p.4 in (
      count_field states p.0 c.loop-i.i,
      field-ready p.0 p.1 p.2 p.3 c.args.work.now c.args.made.next.now c.args.made.sums.now c.args.made.order.now
          c.args.made.count p.4 c.loop-i.i g early refl
          (get_or c.args.made.next.now g 0) (get_or c.args.made.sums.now g 0) refl refl,
      left-room (c.loop-i.invariant p.0 p.1 p.2 p.3 p.4) (count_field states p.0 c.loop-i.i)
          (fields_from p.0 p.3 (c.loop-i.i + 1)) (fields_more p.0 p.3 c.loop-i.i (omega (arith, all))) p.5,
    )

pub loop-i-preserved : goal.loop-i-preserved
loop-i-preserved c =
    let written = c.write_field-end in
    let g = get_or c.args.made.order.now c.loop-i.i 0 in
    let i = c.loop-i.i in
    let early : i < c.args.made.count = c.loop-i-test.true in
    λ rows parents names groups ready.
    let field = count_field (states_of rows (tree_of rows) groups) rows i in
    let all =
    count_states rows parents names groups c.args.work.now c.args.made.next.now c.args.made.sums.now c.args.made.order.now
    c.args.made.count ready in
    left-more (c.loop-i.invariant rows parents names groups ready) field (fields_from rows groups (i + 1)) written.new.out
    written.result (fields_more rows groups i (omega (arith, all)))
    (written.ensures field
    (field-ready rows parents names groups c.args.work.now c.args.made.next.now c.args.made.sums.now c.args.made.order.now
    c.args.made.count ready i g early refl (get_or c.args.made.next.now g 0) (get_or c.args.made.sums.now g 0)
    refl refl))
    (omega arith)

pub returns : goal.returns
returns c =
    λ rows parents names groups ready.
    let all =
    count_states rows parents names groups c.args.work.now c.args.made.next.now c.args.made.sums.now c.args.made.order.now
    c.args.made.count ready in
    left-none (c.loop-i.invariant rows parents names groups ready)
    (fields_none rows groups c.loop-i.i (omega (arith, all, c.loop-i-test.false)))
