-- The first v sets are right.
use Rattle.std.proofs.Common.{◌≡◌, get_or}
use Rattle.functions.proofs.SeenLaws.{ArcsSeen}
use Rattle.functions.proofs.seen.seen_sets.Given as goal

abbrev pub invariant-loop-v : goal.invariant-loop-v
invariant-loop-v l = record {
  root : get_or l.seen 0 0 ≡ 0;
  arcs : ArcsSeen l.tree.parents.now l.tree.names.now l.v l.seen;
}
