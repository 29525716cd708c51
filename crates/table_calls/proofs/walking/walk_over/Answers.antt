-- The start's mark decides.
use mathlib.Core.Path.{◌∙◌}
use Rattle.model.specs.Calls.{table_states}
use Rattle.table_calls.proofs.EndLaws.{start-dead, start-live}
use Rattle.table_calls.proofs.walking.walk_over.Goals as goal

pub returns-then-marks-eq0 : goal.returns-then-marks-eq0
returns-then-marks-eq0 c =
    c.walked_nowhere.ensures
    ∙ start-dead (table_states c.args.table.now) c.args.row.now _ c.requires.ready.some_state c.mark_live-marks.ensures.marked
    c.if-marks-eq0.true

pub returns : goal.returns
returns c =
    c.walk_marked.ensures
    ∙ start-live (table_states c.args.table.now) c.args.row.now _ c.requires.ready.some_state c.mark_live-marks.ensures.marked
    c.if-marks-eq0.false
