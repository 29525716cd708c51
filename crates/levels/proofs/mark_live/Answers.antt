-- One law of MarkLaws for each way.
use native.Mathlib.Omega.{arith}
use Rattle.base.specs.Limits.{state_limit}
use Rattle.model.specs.Calls.{table_states}
use Rattle.levels.proofs.MarkLaws.{marked_all, marked_levels}
use Rattle.levels.proofs.mark_live.Goals as goal

pub returns-then-all_rise-clause-marked : goal.returns-then-all_rise-clause-marked
returns-then-all_rise-clause-marked c =
    marked_all state_limit _ (table_states c.args.s.now) (omega arith) c.requires.ready.few_states
    (c.all_rise.ensures c.if-all_rise.true)

pub returns-clause-marked : goal.returns-clause-marked
returns-clause-marked c = marked_levels _ _ c.find_levels.ensures.levels_found
