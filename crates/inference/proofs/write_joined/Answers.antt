use mathlib.Core.Path.{◌≡◌, refl, sym, subst}
use mathlib.Core.Bool.{Bool}
use native.Mathlib.Omega.{arith}
use Rattle.model.specs.Calls.{over}
use Rattle.counts.specs.Counts.{counts_if}
use Rattle.writing.proofs.WritingLaws.{written-from_zero}
use Rattle.inference.specs.Books.{made_of}
use Rattle.inference.proofs.StateLaws.{made_few, ready_lent, counts_ready, states-too_long, states-fit, counts-fit, states-written}
use Rattle.inference.proofs.write_joined.Goals as goal

pub counts_bytes-size-requires : goal.counts_bytes-size-requires
counts_bytes-size-requires c =
    let rows = c.requires.joined_tree.0 in
    let tree = c.requires.joined_tree.1 in
    let done = c.prepare.ensures rows tree.joined tree.ends_are in
    let most = made_few rows c.args.tree.parents.now c.args.tree.names.now c.args.groups.now tree.joined in
    (omega (arith, done.counted, most.0), omega (arith, done.arcs_are, most.1))

pub overflow_mul-states : goal.overflow_mul-states
overflow_mul-states c =
    let rows = c.requires.joined_tree.0 in
    let tree = c.requires.joined_tree.1 in
    let done = c.prepare.ensures rows tree.joined tree.ends_are in
    let most = made_few rows c.args.tree.parents.now c.args.tree.names.now c.args.groups.now tree.joined in
    omega (arith, done.counted, most.0)

pub overflow_mul-arcs : goal.overflow_mul-arcs
overflow_mul-arcs c =
    let rows = c.requires.joined_tree.0 in
    let tree = c.requires.joined_tree.1 in
    let done = c.prepare.ensures rows tree.joined tree.ends_are in
    let most = made_few rows c.args.tree.parents.now c.args.tree.names.now c.args.groups.now tree.joined in
    omega (arith, done.arcs_are, most.1)

pub overflow_add-states : goal.overflow_add-states
overflow_add-states c =
    let rows = c.requires.joined_tree.0 in
    let tree = c.requires.joined_tree.1 in
    let done = c.prepare.ensures rows tree.joined tree.ends_are in
    let most = made_few rows c.args.tree.parents.now c.args.tree.names.now c.args.groups.now tree.joined in
    omega (arith, done.counted, most.0, done.arcs_are, most.1)

pub returns-then-out-states : goal.returns-then-out-states
returns-then-out-states c rows tree =
    let args = c.args in
    let done = c.prepare.ensures rows tree.joined tree.ends_are in (
      refl,
      states-too_long rows args.groups.now args.wanted c.prepare.new.self.met.count
          c.prepare.new.self.arcs c.counts_bytes-size.result args.out.now args.counts.now done.counted
          done.arcs_are c.counts_bytes-size.ensures c.if-out-states.true,
    )

pub write_states-length-requires : goal.write_states-length-requires
write_states-length-requires c =
    let args = c.args in
    let rows = c.requires.joined_tree.0 in
    let tree = c.requires.joined_tree.1 in
    let done = c.prepare.ensures rows tree.joined tree.ends_are in
    let kept = c.made-made.ensures in
    let ready =
    ready_lent done.ready kept.next_kept kept.sums_kept kept.order_kept kept.numbers_kept kept.count_kept in (
      rows,
      args.groups.now,
      ready,
      states-fit rows args.groups.now args.wanted c.prepare.new.self.met.count c.prepare.new.self.arcs
          c.counts_bytes-size.result args.out.now args.counts.now done.counted done.arcs_are
          c.counts_bytes-size.ensures c.if-out-states.false,
    )

pub write_counts-requires : goal.write_counts-requires
write_counts-requires c =
    let args = c.args in
    let rows = c.requires.joined_tree.0 in
    let tree = c.requires.joined_tree.1 in
    let done = c.prepare.ensures rows tree.joined tree.ends_are in
    let kept = c.made-made.ensures in
    let ready =
    ready_lent done.ready kept.next_kept kept.sums_kept kept.order_kept kept.numbers_kept kept.count_kept in (
      rows,
      args.tree.parents.now,
      args.tree.names.now,
      args.groups.now,
      counts_ready rows args.tree.parents.now args.tree.names.now args.groups.now _ _ _ _ _ _ _ tree.joined ready
          (c.add_passes.ensures rows tree.joined tree.ends_are tree.short),
      counts-fit rows args.groups.now args.wanted c.prepare.new.self.met.count c.prepare.new.self.arcs
          c.counts_bytes-size.result args.out.now args.counts.now done.counted done.arcs_are
          c.counts_bytes-size.ensures c.if-out-states.false c.if-wanted.true,
    )

pub returns-then-wanted : goal.returns-then-wanted
returns-then-wanted c rows tree =
    let args = c.args in
    let made = made_of rows args.groups.now in
    let done = c.prepare.ensures rows tree.joined tree.ends_are in
    let kept = c.made-made.ensures in
    let ready =
    ready_lent done.ready kept.next_kept kept.sums_kept kept.order_kept kept.numbers_kept kept.count_kept in
    let summed = c.add_passes.ensures rows tree.joined tree.ends_are tree.short in
    let put =
    c.write_counts.ensures rows args.tree.parents.now args.tree.names.now args.groups.now
    (counts_ready rows args.tree.parents.now args.tree.names.now args.groups.now _ _ _ _ _ _ _ tree.joined ready summed) in
    states-written rows args.groups.now args.wanted c.prepare.new.self.met.count c.prepare.new.self.arcs
    c.counts_bytes-size.result args.out.now args.counts.now done.counted done.arcs_are
    c.counts_bytes-size.ensures c.if-out-states.false _ _ _
    (c.write_states-length.ensures rows args.groups.now ready)
    (subst (λ (b : Bool). c.write_counts.new.out ≡ over (counts_if b made rows) args.counts.now)
    (sym c.if-wanted.true) (written-from_zero put.written))

pub returns-else-wanted : goal.returns-else-wanted
returns-else-wanted c rows tree =
    let args = c.args in
    let made = made_of rows args.groups.now in
    let done = c.prepare.ensures rows tree.joined tree.ends_are in
    let kept = c.made-made.ensures in
    let ready =
    ready_lent done.ready kept.next_kept kept.sums_kept kept.order_kept kept.numbers_kept kept.count_kept in
    states-written rows args.groups.now args.wanted c.prepare.new.self.met.count c.prepare.new.self.arcs
    c.counts_bytes-size.result args.out.now args.counts.now done.counted done.arcs_are
    c.counts_bytes-size.ensures c.if-out-states.false _ args.counts.now _
    (c.write_states-length.ensures rows args.groups.now ready)
    (subst (λ (b : Bool). args.counts.now ≡ over (counts_if b made rows) args.counts.now) (sym c.if-wanted.false) refl)
