-- Reading the whole file comes to reading on from the place; what is left of the input falls.
use Prim.Native.Nat.{◌-◌}
use lib.ListN.{length}
use Rattle.fields.specs.Places.{kind_of, settings_of}
use Rattle.fields.proofs.TurnLaws.{Reading}
use Rattle.fields.proofs.read_with.Given as goal

abbrev pub invariant-loop-p : goal.invariant-loop-p
invariant-loop-p l = Reading (settings_of l.fn.settings) (kind_of l.kind) l.s l.p

abbrev pub decreases-loop-p : goal.decreases-loop-p
decreases-loop-p l = length l.s - l.p.at
