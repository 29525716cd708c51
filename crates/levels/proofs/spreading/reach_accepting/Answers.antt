-- At first no state has a level, and the queue is empty.
use Rattle.std.proofs.Common.{replicate}
use lib.ListN.{length-replicate}
use Prim.Native.Nat.{ℕ}
use Rattle.base.specs.Limits.{state_limit}
use Rattle.model.specs.Calls.{table_states}
use Rattle.levels.proofs.LongerLaws.{accepting_none}
use Rattle.levels.proofs.spreading.reach_accepting.Goals as goal

pub loop-q-init : goal.loop-q-init
loop-q-init c =
    rw (c.requires.levels, c.requires.queue, c.requires.last)
    (accepting_none (table_states c.args.table.s.now) (replicate state_limit 0) (length-replicate {A = ℕ} state_limit 0))
