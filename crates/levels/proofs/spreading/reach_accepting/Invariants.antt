-- The accepting states below q are in the queue.
use Rattle.std.proofs.Common.{replicate}
use Rattle.base.specs.Limits.{state_limit}
use Rattle.model.specs.Calls.{table_states}
use Rattle.levels.specs.Queues.{Longer, AcceptsBelow}
use Rattle.levels.proofs.spreading.reach_accepting.Given as goal

abbrev pub invariant-loop-q : goal.invariant-loop-q
invariant-loop-q l =
    Longer (AcceptsBelow (table_states l.table.s.now) l.q) 1 (replicate state_limit 0) (replicate state_limit 0) 0
    l.reached.levels l.reached.queue l.reached.last
