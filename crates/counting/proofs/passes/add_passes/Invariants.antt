-- The passes of the states from v on are added.
use Rattle.std.proofs.Common.{List}
use Rattle.model.specs.Classes.{Word}
use Rattle.indexed.specs.Trees.{EndsArray}
use Rattle.indexed.specs.Partitions.{Joined}
use Rattle.counting.specs.PassCells.{RowsShort}
use Rattle.counting.proofs.PassSums.{PassesLeft}
use Rattle.counting.proofs.passes.add_passes.Given as goal

abbrev pub invariant-loop-v : goal.invariant-loop-v
invariant-loop-v l =
    (rows : List Word) → Joined rows l.tree.parents.now l.tree.names.now l.groups → EndsArray rows l.initial.through → RowsShort rows →
    PassesLeft rows l.tree.parents.now l.tree.names.now l.groups l.v l.through l.work
