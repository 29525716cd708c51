-- The first i bytes of src are written.
use lib.ListN.{take}
use Rattle.writing.specs.Writing.{Written}
use Rattle.writing.proofs.copy_in.Given as goal

abbrev pub invariant-loop-i : goal.invariant-loop-i
invariant-loop-i l = Written l.initial.out l.out l.at (take l.i l.src)
