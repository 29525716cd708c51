-- One law of SpreadLaws for each goal.
use mathlib.Core.Path.{◌≡◌, refl, ap, subst}
use Prim.Native.Nat.{ℕ, suc, ◌+◌}
use native.Mathlib.Omega.{arith}
use lib.ListN.{get_or}
use Rattle.model.specs.Calls.{table_states}
use Rattle.tables.proofs.ReadyLaws.{ready_ascends}
use Rattle.levels.proofs.SpreadLaws.{LevelsSoFar, levels_begin, state-here, levels-go, levels_end}
use Rattle.levels.proofs.spreading.spread.Goals as goal

pub loop-first-init : goal.loop-first-init
loop-first-init c = levels_begin (table_states c.args.table.s.now) c.reach_accepting.ensures

pub reach_from-requires-clause-to_bound : goal.reach_from-requires-clause-to_bound
reach_from-requires-clause-to_bound c =
    let t = get_or c.loop-first.reached.queue c.loop-first.first 0 in
    let inside = state-here c.loop-first.invariant c.loop-first-test.true t refl in
    let next : t + 1 ≡ suc t = omega arith in
    omega (arith, ap (λ (k : ℕ). get_or c.args.ends.now k 0) next, c.requires.sorted_arcs.few t inside)

pub reach_from-requires-clause-by_index : goal.reach_from-requires-clause-by_index
reach_from-requires-clause-by_index c = λ j low high.
    let t = get_or c.loop-first.reached.queue c.loop-first.first 0 in
    let inside = state-here c.loop-first.invariant c.loop-first-test.true t refl in
    let next : t + 1 ≡ suc t = omega arith in
    let source =
    c.requires.sorted_arcs.here t j inside low (omega (arith, high, ap (λ (k : ℕ). get_or c.args.ends.now k 0) next)) in
    omega (arith, source.0, c.args.table.ready.few_states)

pub loop-first-preserved : goal.loop-first-preserved
loop-first-preserved c =
    let loop = c.loop-first in
    let grown = c.reach_from in
    let t = get_or loop.reached.queue loop.first 0 in
    let next : t + 1 ≡ suc t = omega arith in
    let one_more : suc loop.first ≡ loop.first + 1 = omega arith in
    subst
    (λ (k : ℕ).
    LevelsSoFar (table_states c.args.table.s.now) grown.new.self.levels grown.new.self.queue k grown.new.self.last)
    one_more
    (levels-go loop.invariant c.loop-first-test.true t refl c.requires.sorted_arcs
    (ready_ascends _ _ c.args.table.ready) refl (ap (λ (k : ℕ). get_or c.args.ends.now k 0) next) (omega arith) grown.ensures)

pub returns : goal.returns
returns c = levels_end (ready_ascends _ _ c.args.table.ready) c.loop-first.invariant c.loop-first-test.false
