-- Where all states rise, all have a way to an end.
use native.Mathlib.Omega.{arith}
use Rattle.levels.proofs.RisingLaws.{all-rising}
use Rattle.levels.proofs.rising.all_rise.Goals as goal

pub returns : goal.returns
returns c = λ e q low.
    all-rising c.args.table.s.now c.args.table.work.now c.args.table.ready
    (λ p h. c.loop-q.invariant p (omega (arith, h, c.requires.count_value))) q low
