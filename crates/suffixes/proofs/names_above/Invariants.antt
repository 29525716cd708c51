-- The first v states have the names above them.
use Rattle.base.proofs.Fills.{Filled}
use Rattle.suffixes.proofs.AboveLaws.{IsAbove}
use Rattle.suffixes.proofs.names_above.Given as goal

abbrev pub invariant-loop-v : goal.invariant-loop-v
invariant-loop-v l = Filled (IsAbove l.j l.tree.parents.now l.tree.names.now) l.v l.fn.keys l.keys
