-- The invariant is LevelsSoFar of SpreadLaws.
use Rattle.std.proofs.Common.{◌-◌}
use Rattle.base.specs.Limits.{state_limit}
use Rattle.model.specs.Calls.{table_states}
use Rattle.levels.proofs.SpreadLaws.{LevelsSoFar}
use Rattle.levels.proofs.spreading.spread.Given as goal

abbrev pub invariant-loop-first : goal.invariant-loop-first
invariant-loop-first l = LevelsSoFar (table_states l.table.s.now) l.reached.levels l.reached.queue l.first l.reached.last

abbrev pub decreases-loop-first : goal.decreases-loop-first
decreases-loop-first l = state_limit - l.first
