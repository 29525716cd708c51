-- The lists are filled; where no pair is queued the partition is closed as it is; else all pairs are joined, and the forest is
-- flattened.
use native.Mathlib.Omega.{arith}
use lib.ListN.{length}
use Rattle.partition.proofs.ForestLaws.{flat_roots}
use Rattle.worklist.proofs.SettleLaws.{settling_filled, settling-done}
use Rattle.worklist.proofs.SizeLaws.{own-size}
use Rattle.worklist.proofs.close.Goals as goal

pub invariant_of-rules : goal.invariant_of-rules
invariant_of-rules c =
    let ready = c.requires.ready in
    record {
      names_size = rw ready.parents_size ready.names_size;
      numbers_size = rw ready.parents_size (own-size ready.own);
      keys_size = rw ready.parents_size ready.keys_size;
      more_size = rw ready.parents_size ready.more_size;
    }

pub returns-then-kinds-eq0 : goal.returns-then-kinds-eq0
returns-then-kinds-eq0 c =
    settling-done
    (settling_filled c.requires.ready c.new-kinds.result.queue.room (rw c.new-kinds.ensures.pairs at c.fill_all.ensures))
    (omega arith)

pub settle-requires-clause-settling : goal.settle-requires-clause-settling
settle-requires-clause-settling c =
    let groups = c.args.groups.now in
    rw (c.requires.ready.parents_size, flat_roots (length groups) groups c.requires.ready.labelled)
    (settling_filled c.requires.ready c.new-kinds.result.queue.room (rw c.new-kinds.ensures.pairs at c.fill_all.ensures))

pub returns : goal.returns
returns c =
    let groups = c.args.groups.now in
    rw c.flatten.ensures
    (rw (c.requires.ready.parents_size, flat_roots (length groups) groups c.requires.ready.labelled) at c.settle.ensures.until)
