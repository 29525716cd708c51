-- Reading the whole plan comes to the tags in the log, and then to reading on from what is reached; what is left of the plan falls.
use Rattle.std.proofs.Common.{◌≡◌, ◌-◌, length}
use Rattle.plan_reading.specs.Turns.{sought_names, sought_name}
use Rattle.plan_reading.proofs.TurnLaws.{ReadSoFar}
use Rattle.plan_reading.proofs.read_plan.Given as goal

abbrev pub invariant-loop-r : goal.invariant-loop-r
invariant-loop-r l =
    ReadSoFar (sought_names l.sought) (sought_name l.sought) l.plan l.stack l.log l.r
    × (length l.log ≡ length l.initial.log)

abbrev pub decreases-loop-r : goal.decreases-loop-r
decreases-loop-r l = length l.plan - l.r.at
