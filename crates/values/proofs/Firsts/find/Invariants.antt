-- Whichever states accept, no state of the list from `at` on has the value. The measure is `at`, as the links lead down.
use Rattle.std.proofs.Common.{List, ℕ}
use Rattle.indexed.specs.Chains.{Searched}
use Rattle.values.specs.Buckets.{Listed, Buckets}
use Rattle.values.proofs.BucketLaws.{SameValue}
use Rattle.values.proofs.Firsts.find.Given as goal

abbrev pub invariant-loop-at : goal.invariant-loop-at
invariant-loop-at l =
    (ends : List ℕ) → Buckets ends l.values l.v l.self.links l.self.heads →
    Searched l.v (Listed ends l.values) (SameValue l.values l.v) l.b l.at

abbrev pub decreases-loop-at : goal.decreases-loop-at
decreases-loop-at l = l.at
