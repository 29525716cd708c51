-- The log of a plan's tags: two bytes a tag, the number of its name and how many elements are around it. Assumes nothing.
use Rattle.std.specs.Prelude.{List, [], ◌∷◌, ℕ, zero, suc, ◌+◌, ◌*◌, get_or}
use Rattle.written_plans.specs.Reading.{Entry}

-- the entry at this number
abbrev pub entry_at : List ℕ → ℕ → Entry
entry_at log i = record { number = get_or log (2 * i) 0; depth = get_or log (2 * i + 1) 0 }

-- n entries of a log, the first of them number i
unfoldable pub entries_at : List ℕ → ℕ → ℕ → List Entry
entries_at log i zero = []
entries_at log i (suc n) = entry_at log i ∷ entries_at log (suc i) n
