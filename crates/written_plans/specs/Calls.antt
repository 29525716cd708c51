-- A plan's rows as a call gives them (docs/SCOPE.md, section 11): the reading of a plan with a list of names and the number of one of
-- them, its rows, and which refusal it comes to, in the order in which they are judged. Assumes nothing.
use Rattle.std.specs.Prelude.{List, [], map, ℕ, leb, length, get_or}
use Rattle.base.specs.Limits.{bad_row, when, first_of}
use Rattle.model.specs.Fields.{read_names}
use Rattle.model.specs.Calls.{sizes_fault, names_of}
use Rattle.written_plans.specs.Reading.{Reading, read_plan, entry_of, rows_in, rows_fault}

-- the chosen name
abbrev pub chosen_name : List ℕ → ℕ → List ℕ
chosen_name list chosen = get_or (names_of list) chosen []

-- the plan, read with the names of the list
unfoldable pub plan_reading : List ℕ → List ℕ → ℕ → Reading
plan_reading plan list chosen = read_plan (names_of list) (chosen_name list chosen) plan

-- its rows
unfoldable pub plan_rows : List ℕ → List ℕ → ℕ → List (List ℕ)
plan_rows plan list chosen = rows_in chosen (map (entry_of (names_of list)) (plan_reading plan list chosen).met_tags)

-- before the plan is read: 1 for the plan, the list or the working area; the list's own refusals; 9 for a number that names nothing
unfoldable pub asked_fault : List ℕ → List ℕ → ℕ → List ℕ → ℕ
asked_fault plan list chosen work =
    first_of (sizes_fault plan work)
    (first_of (sizes_fault list work)
    (first_of (read_names list).number
    (when (leb (length (names_of list)) chosen) bad_row)))

-- then 14, 15 or 16, the first in the plan; 7 for a 257th row, and 9 for a row too long; 13 comes after these (faultWith of model)
unfoldable pub plan_fault : List ℕ → List ℕ → ℕ → List ℕ → ℕ
plan_fault plan list chosen work =
    first_of (asked_fault plan list chosen work)
    (first_of (plan_reading plan list chosen).number
    (rows_fault (plan_rows plan list chosen)))
