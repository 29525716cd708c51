-- The parts of the call that reads a plan's rows, from its end on: rows written, and a plan read and its rows written. Assumes nothing.
use Rattle.std.specs.Prelude.{List, map, ℕ, ◌≤◌, Result, Ok, Err}
use Rattle.base.specs.Limits.{input_limit, first_of}
use Rattle.base.specs.Refusals.{number_of}
use Rattle.model.specs.Calls.{Call}
use Rattle.written_plans.specs.Reading.{Reading, entry_of, rows_in, rows_fault}
use Rattle.plan_reading.specs.declared.Fault.{Fault}
use Rattle.results.specs.declared.PlanRows.{PlanRows}
use Rattle.results.specs.Says.{plan_rows_of, rows_or}

-- a refused call without a place in the plan, by its number
abbrev pub placeless_rows : ℕ → PlanRows
placeless_rows k = plan_rows_of k 0 0 0

-- what is given back: the rows, or with a fault its number and its place
abbrev pub rows_told : Result PlanRows Fault → PlanRows
rows_told (Ok rows) = rows
rows_told (Err fault) = plan_rows_of (number_of fault.refusal) 0 0 fault.at

-- a fault's place is an offset of an input
abbrev pub PlaceLow : Result PlanRows Fault → Type 0
PlaceLow (Ok rows) = Unit {0}
PlaceLow (Err fault) = fault.at ≤ input_limit

-- these rows written, or refused by 7 or 9
abbrev pub writing_rows : List (List ℕ) → Call PlanRows
writing_rows rows = rows_or (rows_fault rows) 0 rows

-- the rows of a plan that was read with these names
abbrev pub rows_with : List (List ℕ) → ℕ → Reading → Call PlanRows
rows_with names chosen reading =
    let rows = rows_in chosen (map (entry_of names) reading.met_tags) in
    rows_or (first_of reading.number (rows_fault rows)) reading.place rows
