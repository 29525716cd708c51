-- One law of Marks for each way.
use mathlib.Core.Path.{ap, ◌∙◌}
use native.Mathlib.Omega.{arith}
use Rattle.tables.specs.Arcs.{arcs_left}
use Rattle.tables.proofs.Marks.{gathering_begins, gathered_name, gathered_target, gathered_one, gathered_none, gathering_ends}
use Rattle.tables.proofs.arcs.name_set.Goals as goal

pub loop-arc-init : goal.loop-arc-init
loop-arc-init c =
    gathering_begins c.args.state.now c.args.marks.now c.requires.state_ok c.requires.targets_below
    (ap arcs_left c.into_iter-arc-iterator.ensures.into_iter_gives ∙ c.of-arc-items.ensures)

pub bounds-marks-arc : goal.bounds-marks-arc
bounds-marks-arc c = omega (arith, gathered_target c.loop-arc.invariant c.in-Some.ensures.steps)

pub with_name-names-requires : goal.with_name-names-requires
with_name-names-requires c = gathered_name c.loop-arc.invariant c.in-Some.ensures.steps

pub loop-arc-preserved-then-marks-arc-ne0 : goal.loop-arc-preserved-then-marks-arc-ne0
loop-arc-preserved-then-marks-arc-ne0 c =
    gathered_one c.loop-arc.invariant c.in-Some.ensures.steps c.if-marks-arc-ne0.true c.with_name-names.ensures

pub loop-arc-preserved : goal.loop-arc-preserved
loop-arc-preserved c = gathered_none c.loop-arc.invariant c.in-Some.ensures.steps c.if-marks-arc-ne0.false

pub returns : goal.returns
returns c = gathering_ends c.loop-arc.invariant c.in-None.ensures.steps.0
