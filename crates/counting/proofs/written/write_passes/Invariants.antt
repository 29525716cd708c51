-- The passes of what is left of the set are still to be written.
use mathlib.Core.List.{List}
use Prim.Native.Nat.{ℕ}
use Rattle.writing.proofs.BytesLeft.{BytesLeft}
use Rattle.counting.specs.Ready.{PassesToWrite}
use Rattle.counting.proofs.written.write_passes.Given as goal

abbrev pub invariant-loop-name : goal.invariant-loop-name
invariant-loop-name l =
    (bytes : List ℕ) → PassesToWrite l.work l.row l.names bytes →
    (rest : List ℕ) × PassesToWrite l.work l.row l.name-iterator.left rest × BytesLeft l.initial.out l.out l.at l.end bytes rest
