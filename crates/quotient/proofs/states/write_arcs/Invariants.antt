-- The arcs of what is left of the set are still to be written.
use Rattle.std.proofs.Common.{ℕ, List, get_or}
use Rattle.quotient.specs.Ready.{ArcsToWrite}
use Rattle.writing.proofs.BytesLeft.{BytesLeft}
use Rattle.quotient.proofs.states.write_arcs.Given as goal

abbrev pub invariant-loop-name : goal.invariant-loop-name
invariant-loop-name l =
    (bytes : List ℕ) → ArcsToWrite l.work l.g (get_or l.made.next.now l.g 0) l.made.numbers.now bytes →
    (rest : List ℕ) × ArcsToWrite l.work l.g l.name-iterator.left l.made.numbers.now rest
    × BytesLeft l.initial.out l.out l.at l.end bytes rest
