-- The invariant is Passing of TableLaws: before state i the offset is its field's, the offsets of those before are kept, and the numbers
-- met so far decide.
use Rattle.tables.proofs.TableLaws.{Passing}
use Rattle.tables.proofs.number_states.Given as goal

abbrev pub invariant-loop-i : goal.invariant-loop-i
invariant-loop-i l = Passing l.s l.p l.initial.work l.work l.at l.met l.i
