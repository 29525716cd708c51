-- Three kinds of lists filled, one after the other, the third where it has keys.
use lib.ListN.{length, replicate, length-replicate}
use Prim.Native.Nat.{ℕ}
use Rattle.base.specs.Limits.{name_limit}
use Rattle.worklist.proofs.FillLaws.{filled_none, given_none}
use Rattle.worklist.proofs.SizeLaws.{own_below}
use Rattle.worklist.proofs.fill_all.Goals as goal

pub fill-requires-2-clause-ins_below : goal.fill-requires-2-clause-ins_below
fill-requires-2-clause-ins_below c = own_below c.requires.ready.own

pub fill-requires-in-Some-clause-ins_below : goal.fill-requires-in-Some-clause-ins_below
fill-requires-in-Some-clause-ins_below c = own_below c.requires.ready.own

pub returns-in-Some : goal.returns-in-Some
returns-in-Some c =
    let more = c.in-Some.ensures in
    rw more.1
    (record {
      firsts₁ = c.fill.new.queue.firsts;
      seconds₁ = c.fill.new.queue.seconds;
      tail₁ = c.fill.new.queue.tail;
      firsts₂ = c.fill-2.new.queue.firsts;
      seconds₂ = c.fill-2.new.queue.seconds;
      tail₂ = c.fill-2.new.queue.tail;
      forks = rw (c.forks.ensures.outs, c.forks.ensures.keys) at c.fill.ensures;
      backs = rw (c.backs.ensures.outs, c.backs.ensures.keys) at c.fill-2.ensures;
      others = rw more.0 at c.fill-in-Some.ensures;
    })

-- the first two kinds, and a third that no keys are of
pub returns-in_default : goal.returns-in_default
returns-in_default c =
    let n = length c.args.groups.now in
    rw c.in_default.ensures
    (record {
      firsts₁ = c.fill.new.queue.firsts;
      seconds₁ = c.fill.new.queue.seconds;
      tail₁ = c.fill.new.queue.tail;
      firsts₂ = c.fill-2.new.queue.firsts;
      seconds₂ = c.fill-2.new.queue.seconds;
      tail₂ = c.fill-2.new.queue.tail;
      forks = rw (c.forks.ensures.outs, c.forks.ensures.keys) at c.fill.ensures;
      backs = rw (c.backs.ensures.outs, c.backs.ensures.keys) at c.fill-2.ensures;
      others =
          filled_none n c.args.rules.numbers.now c.args.rules.parents.now (replicate n name_limit) c.args.groups.now
          c.args.kinds.now.others.links c.args.kinds.now.others.heads c.fill-2.new.queue.firsts c.fill-2.new.queue.seconds
          c.fill-2.new.queue.tail c.requires.ready.few (length-replicate {A = ℕ} n name_limit) c.requires.empty.others
          (given_none n);
    })
