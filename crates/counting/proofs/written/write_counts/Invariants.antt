-- The fields from state i on are still to be written.
use mathlib.Core.List.{List}
use Prim.Native.Nat.{ℕ}
use Rattle.model.specs.Classes.{Word}
use Rattle.model.specs.Joinings.{tree_of}
use Rattle.model.specs.Quotients.{states_of}
use Rattle.counts.specs.Counts.{counts_file}
use Rattle.writing.proofs.BytesLeft.{BytesLeft}
use Rattle.counting.specs.Ready.{CountsReady}
use Rattle.counting.proofs.CountPieces.{fields_from}
use Rattle.counting.proofs.written.write_counts.Given as goal

abbrev pub invariant-loop-i : goal.invariant-loop-i
invariant-loop-i l =
    (rows : List Word) (parents names groups : List ℕ) →
    CountsReady rows parents names groups l.work l.made.next.now l.made.sums.now l.made.order.now l.made.count →
    BytesLeft l.initial.out l.out 0 l.end (counts_file (states_of rows (tree_of rows) groups) rows) (fields_from rows groups l.i)
