-- White space outside the outermost element, text inside it.
use Rattle.written_plans.specs.Written.{is_white, is_text}
use Rattle.plan_reading.proofs.pieces.before_tag.Given as goal

abbrev pub ghost-skip : goal.ghost-skip
ghost-skip a = is_white

abbrev pub ghost-skip-2 : goal.ghost-skip-2
ghost-skip-2 a = is_text
