-- The rows in a log of a plan's tags, and what measuring them answers. Assumes nothing.
use Rattle.std.specs.Prelude.{◌≡◌, List, ℕ, ◌+◌, ◌-◌, ◌*◌, ◌≤◌, length, Result, Ok, Err}
use Rattle.base.specs.Limits.{input_limit}
use Rattle.model.specs.Calls.{Refuses}
use Rattle.model.specs.Tables.{row_fields}
use Rattle.written_plans.specs.Reading.{Entry, row_after, rows_in, rows_fault}
use Rattle.written_plans.specs.Logs.{entry_at, entries_at}
use Rattle.base.specs.Refusals.{number_of}
use Rattle.base.specs.declared.refusals.Refusal.{Refusal}
use Rattle.plan_rows.specs.declared.Size.{Size}

-- of so many entries of a log, those from number i on
unfoldable pub entries_from : List ℕ → ℕ → ℕ → List Entry
entries_from log count i = entries_at log i (count - i)

-- the row of the element at entry i
unfoldable pub row_at : List ℕ → ℕ → ℕ → List ℕ
row_at log count i = row_after (entry_at log i).depth (entries_from log count (i + 1))

-- the rows of the chosen number in a log of so many entries
abbrev pub log_rows : List ℕ → ℕ → ℕ → List (List ℕ)
log_rows log count chosen = rows_in chosen (entries_at log 0 count)

-- a log holds so many entries, no more than a plan has tags
pub record Held (log : List ℕ) (count : ℕ) : Type 0 where
  pub within : 2 * count ≤ length log
  pub few : count ≤ input_limit

-- the rows are not refused; so many they are, and so many bytes their fields have
pub record MeasuredAs (rows : List (List ℕ)) (count bytes : ℕ) : Type 0 where
  pub no_fault : rows_fault rows ≡ 0
  pub rows_are : count ≡ length rows
  pub bytes_are : bytes ≡ length (row_fields rows)

-- the rows measured, or refused
abbrev pub Measures : List (List ℕ) → Result Size Refusal → Type 0
Measures rows (Ok size) = MeasuredAs rows size.rows size.bytes
Measures rows (Err k) = Refuses (rows_fault rows) (number_of k)
