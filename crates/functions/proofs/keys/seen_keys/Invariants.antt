-- The first v keys of both kinds are right.
use Rattle.std.proofs.Common.{true, false}
use Rattle.base.proofs.Fills.{Filled}
use Rattle.functions.proofs.KeyLaws.{KeyAt}
use Rattle.functions.proofs.keys.seen_keys.Given as goal

abbrev pub invariant-loop-v : goal.invariant-loop-v
invariant-loop-v l = record {
  enlarging : Filled (KeyAt true l.tree.parents.now l.tree.names.now l.seen) l.v l.fn.enlarging l.enlarging;
  others : Filled (KeyAt false l.tree.parents.now l.tree.names.now l.seen) l.v l.fn.others l.others;
}
