-- Reading without its answers: the place that bytes lead to, and the tags met on the way, all of them and those at one byte. Assumes
-- nothing.
use mathlib.Core.List.{List, [], ◌∷◌, ◌++◌}
use Prim.Native.Nat.{ℕ, zero, suc}
use Rattle.written_plans.specs.Written.{Tag}
use Rattle.written_plans.specs.Reading.{Place, Next, stop, go, step, met}

-- the place that the bytes lead to, if they can be read
unfoldable pub run : Place → List ℕ → Next
run q [] = go q
run q (b ∷ s) = elim (step q b) [ stop ↦ stop | go r ↦ run r s ]

-- the tags met on the way, as far as the bytes can be read
unfoldable pub tags_from : Place → List ℕ → List Tag
tags_from q [] = []
tags_from q (b ∷ s) = elim (step q b) [ stop ↦ [] | go r ↦ met q b s ++ tags_from r s ]

-- the tags met at byte p, if it is reached and can be read: one or none
unfoldable pub met_at : Place → ℕ → List ℕ → List Tag
met_at q p [] = []
met_at q zero (b ∷ s) = elim (step q b) [ stop ↦ [] | go r ↦ met q b s ]
met_at q (suc p) (b ∷ s) = elim (step q b) [ stop ↦ [] | go r ↦ met_at r p s ]
