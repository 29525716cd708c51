-- What was passed is judged, the rest is as it came.
use Rattle.std.proofs.Common.{◌≡◌, ℕ, ◌<◌, ◌≤◌, get_or}
use Rattle.suffixes.specs.Classes.{Judged}
use Rattle.suffixes.proofs.drop_short.Given as goal

abbrev pub invariant-loop-v : goal.invariant-loop-v
invariant-loop-v l =
    ((w : ℕ) → w < l.v → Judged l.bound (get_or l.values w 0) (get_or l.initial.classes w 0) (get_or l.classes w 0))
    × ((w : ℕ) → l.v ≤ w → get_or l.classes w 0 ≡ get_or l.initial.classes w 0)
