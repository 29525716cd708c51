-- The name stands at no place below low, nor from high on.
use Rattle.std.proofs.Common.{◌≤◌, ◌-◌}
use Rattle.judging.specs.Offsets.{fields_at}
use Rattle.name_search.proofs.SearchLaws.{PlacesLeft}
use Rattle.name_search.proofs.Index.number_of.Given as goal

abbrev pub invariant-loop-low : goal.invariant-loop-low
invariant-loop-low l =
    (l.high ≤ l.self.count) × PlacesLeft (fields_at l.self.list.now 0 l.self.count) l.name l.low l.high

abbrev pub decreases-loop-low : goal.decreases-loop-low
decreases-loop-low l = l.high - l.low
