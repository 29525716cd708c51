-- At the end all sources are in the queue.
use native.Mathlib.Omega.{arith}
use Rattle.levels.proofs.LongerLaws.{sources_all}
use Rattle.levels.proofs.spreading.Reached.reach_from.Goals as goal

pub returns : goal.returns
returns c =
    sources_all c.args.work.now c.args.from c.args.to c.loop-j.j c.loop-j.invariant.within (omega arith)
    c.loop-j.invariant.grown
