-- Whether an arc leads up is said by RisingLaws.
use mathlib.Core.Path.{sym, ap, ◌∙◌}
use native.Mathlib.Omega.{arith}
use Rattle.base.specs.Lists.{any}
use Rattle.tables.specs.Arcs.{arcs_left}
use Rattle.tables.proofs.ArcReads.{state-some}
use Rattle.levels.proofs.RisingLaws.{up, rises-accepting, rises-by_arcs, up-found, up-goes, up-end}
use Rattle.levels.proofs.rising.rises.Goals as goal

pub bounds-state-0 : goal.bounds-state-0
bounds-state-0 c = state-some c.args.state.now c.requires

pub returns-then-state-eq1 : goal.returns-then-state-eq1
returns-then-state-eq1 c = sym (rises-accepting c.args.state.now c.args.q c.requires (omega arith))

pub loop-arc-init : goal.loop-arc-init
loop-arc-init c =
    ap (any (up c.args.q)) (ap arcs_left c.into_iter-arc-iterator.ensures.into_iter_gives ∙ c.of-arc-items.ensures)
    ∙ rises-by_arcs c.args.state.now c.args.q c.requires (λ e. omega arith)

pub returns-then-q-arc : goal.returns-then-q-arc
returns-then-q-arc c = sym (up-found c.args.q c.in-Some.ensures.steps (omega arith)) ∙ c.loop-arc.invariant

pub loop-arc-preserved : goal.loop-arc-preserved
loop-arc-preserved c = sym (up-goes c.args.q c.in-Some.ensures.steps (omega arith)) ∙ c.loop-arc.invariant

pub returns : goal.returns
returns c = sym (up-end c.args.q c.in-None.ensures.steps.0) ∙ c.loop-arc.invariant
