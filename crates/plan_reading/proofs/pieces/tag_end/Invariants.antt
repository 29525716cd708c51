-- White space after the name.
use Rattle.written_plans.specs.Written.{is_white}
use Rattle.plan_reading.proofs.pieces.tag_end.Given as goal

abbrev pub ghost-skip : goal.ghost-skip
ghost-skip a = is_white
