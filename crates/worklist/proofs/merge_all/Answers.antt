-- Three kinds of lists merged, one after the other, the third where it has keys.
use lib.ListN.{length}
use Rattle.worklist.proofs.FillLaws.{given_none}
use Rattle.worklist.proofs.MergeLaws.{merged_none}
use Rattle.worklist.proofs.SizeLaws.{merged-by_states}
use Rattle.worklist.proofs.merge_all.Goals as goal

pub returns-in-Some : goal.returns-in-Some
returns-in-Some c =
    rw c.in-Some.ensures.1
    (λ rows₁ rows₂ rows₃ listed.
    record {
      firsts₁ = c.merge.new.queue.firsts;
      seconds₁ = c.merge.new.queue.seconds;
      tail₁ = c.merge.new.queue.tail;
      firsts₂ = c.merge-2.new.queue.firsts;
      seconds₂ = c.merge-2.new.queue.seconds;
      tail₂ = c.merge-2.new.queue.tail;
      forks = merged-by_states listed.forks (rw (c.forks.ensures.outs, c.forks.ensures.keys) at (c.merge.ensures rows₁));
      backs = merged-by_states listed.backs (rw (c.backs.ensures.outs, c.backs.ensures.keys) at (c.merge-2.ensures rows₂));
      others = merged-by_states listed.others (rw c.in-Some.ensures.0 at (c.merge-in-Some.ensures rows₃));
    })

pub returns-in_default : goal.returns-in_default
returns-in_default c =
    rw c.in_default.ensures
    (λ rows₁ rows₂ rows₃ listed.
    record {
      firsts₁ = c.merge.new.queue.firsts;
      seconds₁ = c.merge.new.queue.seconds;
      tail₁ = c.merge.new.queue.tail;
      firsts₂ = c.merge-2.new.queue.firsts;
      seconds₂ = c.merge-2.new.queue.seconds;
      tail₂ = c.merge-2.new.queue.tail;
      forks = merged-by_states listed.forks (rw (c.forks.ensures.outs, c.forks.ensures.keys) at (c.merge.ensures rows₁));
      backs = merged-by_states listed.backs (rw (c.backs.ensures.outs, c.backs.ensures.keys) at (c.merge-2.ensures rows₂));
      others =
          merged_none c.args.rules.parents.now c.args.to c.merge-2.new.queue.firsts c.merge-2.new.queue.seconds
          c.merge-2.new.queue.tail listed.others (given_none (length c.args.rules.parents.now)) c.requires.inside;
    })
