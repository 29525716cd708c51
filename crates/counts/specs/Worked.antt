-- Counts worked out by hand, to the byte: a table of two states, of which the second goes on to itself, and rows over it.
-- `worked_counts_hold` of proofs/Worked.antt proves them. Assumes nothing.
use Rattle.std.specs.Prelude.{◌≡◌, true, false, List, [], ◌∷◌, ℕ, replicate}
use Rattle.base.specs.Limits.{book_rows}
use Rattle.model.specs.Tables.{State, state, arc}
use Rattle.model.specs.Classes.{Word}
use Rattle.counts.specs.Counts.{counts_file}

-- name 0 leads from the start to the second state, which accepts, and name 1 from there to itself
abbrev pub two_states : List State
two_states = state false (arc 0 1 ∷ []) ∷ (state true (arc 1 1 ∷ []) ∷ [])

-- a row that passes the second arc twice
abbrev pub passes_twice : Word
passes_twice = 0 ∷ (1 ∷ (1 ∷ []))

-- the fields of both states: mark 05 and a length of 4; then ends and passes, of two bytes each, high byte first
abbrev pub fields_of : ℕ → ℕ → ℕ → ℕ → ℕ → ℕ → ℕ → ℕ → List ℕ
fields_of a b c d e f g h =
    5 ∷ (0 ∷ (4 ∷ (a ∷ (b ∷ (c ∷ (d ∷ (5 ∷ (0 ∷ (4 ∷ (e ∷ (f ∷ (g ∷ (h ∷ [])))))))))))))

pub record WorkedCounts : Type 0 where
  -- a row twice, and between its copies one that passes the second arc twice: no row ends in the first state, three in the second
  pub three_rows : counts_file two_states ((0 ∷ []) ∷ (passes_twice ∷ ((0 ∷ []) ∷ []))) ≡ fields_of 0 0 0 3 0 3 0 2
  -- as many copies as a book may have: 256 and twice 256, in two bytes
  pub many_copies : counts_file two_states (replicate book_rows passes_twice) ≡ fields_of 0 0 1 0 1 0 2 0
  -- a walk that stops counts for what it passed, and ends where it stopped
  pub stopped : counts_file two_states ((0 ∷ (0 ∷ [])) ∷ ((1 ∷ []) ∷ [])) ≡ fields_of 0 1 0 1 0 1 0 0
