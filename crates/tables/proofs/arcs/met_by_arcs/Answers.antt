-- One law of MetLaws for each arc.
use mathlib.Core.Path.{sym, ◌∙◌}
use Rattle.std.proofs.lemmas.Cmp.{ranked}
use Rattle.tables.proofs.MetLaws.{met_past, met_same, met_next, met_end}
use Rattle.tables.proofs.arcs.met_by_arcs.Goals as goal

pub loop-arc-preserved-in-Less : goal.loop-arc-preserved-in-Less
loop-arc-preserved-in-Less c =
    sym (met_same c.loop-arc.count c.in-Some.ensures.steps (ranked _ _ _ c.in-Less.ensures)) ∙ c.loop-arc.invariant

pub loop-arc-preserved : goal.loop-arc-preserved
loop-arc-preserved c =
    sym (met_next c.loop-arc.count c.in-Some.ensures.steps (ranked _ _ _ c.in-Equal.ensures)) ∙ c.loop-arc.invariant

pub returns-in-Greater : goal.returns-in-Greater
returns-in-Greater c =
    sym c.loop-arc.invariant ∙ met_past c.loop-arc.count c.in-Some.ensures.steps (ranked _ _ _ c.in-Greater.ensures)

pub returns : goal.returns
returns c = sym c.loop-arc.invariant ∙ met_end c.loop-arc.count c.in-None.ensures.steps.0
