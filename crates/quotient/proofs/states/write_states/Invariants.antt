-- The fields from state i on are still to be written.
use Rattle.std.proofs.Common.{ℕ, List}
use Rattle.model.specs.Classes.{Word}
use Rattle.model.specs.Joinings.{tree_of}
use Rattle.model.specs.Quotients.{states_of}
use Rattle.model.specs.Tables.{state_fields}
use Rattle.quotient.specs.Ready.{Ready}
use Rattle.writing.proofs.BytesLeft.{BytesLeft}
use Rattle.quotient.proofs.StatePieces.{states_from}
use Rattle.quotient.proofs.states.write_states.Given as goal

abbrev pub invariant-loop-i : goal.invariant-loop-i
invariant-loop-i l =
    (rows : List Word) (groups : List ℕ) →
    Ready rows groups l.work l.made.next.now l.made.sums.now l.made.order.now l.made.numbers.now l.made.count →
    BytesLeft l.initial.out l.out l.at l.end (state_fields (states_of rows (tree_of rows) groups))
    (state_fields (states_from rows groups l.i))
