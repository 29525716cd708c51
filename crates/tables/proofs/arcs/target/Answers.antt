-- One law of ArcReads for each way.
use mathlib.Core.Path.{ap, ◌∙◌}
use native.Mathlib.Omega.{arith}
use Rattle.tables.specs.Arcs.{arcs_left}
use Rattle.tables.proofs.ArcReads.{search_begins, search_found, search_passed, search_goes, search_ends}
use Rattle.tables.proofs.arcs.target.Goals as goal

pub loop-arc-init : goal.loop-arc-init
loop-arc-init c =
    search_begins c.args.state.now c.args.name c.requires
    (ap arcs_left c.into_iter-arc-iterator.ensures.into_iter_gives ∙ c.of-arc-items.ensures)

pub returns-then-arc-name : goal.returns-then-arc-name
returns-then-arc-name c =
    omega (arith, search_found c.loop-arc.invariant c.in-Some.ensures.steps c.if-arc-name.true)

pub returns-then-name-arc : goal.returns-then-name-arc
returns-then-name-arc c = search_passed c.loop-arc.invariant c.in-Some.ensures.steps c.if-name-arc.true

pub loop-arc-preserved : goal.loop-arc-preserved
loop-arc-preserved c = search_goes c.loop-arc.invariant c.in-Some.ensures.steps c.if-arc-name.false

pub returns : goal.returns
returns c = search_ends c.loop-arc.invariant c.in-None.ensures.steps.0
