-- The first v states have their codes.
use Rattle.base.proofs.Fills.{Filled}
use Rattle.suffixes.proofs.CodeLaws.{IsCode}
use Rattle.suffixes.proofs.codes.Given as goal

abbrev pub invariant-loop-v : goal.invariant-loop-v
invariant-loop-v l = Filled (IsCode l.i l.tree.parents.now l.tree.names.now) l.v l.fn.values l.values
