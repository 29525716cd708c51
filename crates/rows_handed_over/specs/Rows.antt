-- What is handed over with a plan's rows, said of calls of rows_of_plan, and of plans_read_rows for C: what a refusal of the plan tells;
-- what is written where there is none; and which refusal it is. `rows_handed_over` of proofs/Rows.antt proves it. Assumes nothing.
use Rattle.std.specs.Prelude.{◌≡◌, ℕ, ◌≤◌, ◌<◌, ltb, length, take}
use mathlib.Core.List.{List, ◌++◌, map, flat_map, Memᴰ as In}
use Rattle.base.specs.Limits.{book_rows, rows_bytes, items_met, output_too_short, bad_plan, when, first_of}
use Rattle.model.specs.Fields.{Class, ClassOk, Settings, file, read_book, accepted_file, name_number}
use Rattle.model.specs.Tables.{class_field, row_fields}
use Rattle.model.specs.Calls.{names_of}
use Rattle.written_plans.specs.Written.{Plan, plan_bytes, traces, First}
use Rattle.written_plans.specs.Reading.{rows_fault}
use Rattle.written_plans.specs.Calls.{chosen_name, plan_rows, asked_fault}
use Rattle.written_plans.specs.Claims.{Faultless, Known}
use Rattle.results.specs.declared.PlanRows.{PlanRows}
use Rattle.results.specs.Says.{RowsSays}

-- a call: what was lent, before and after, and what it gave back
pub record RowsCall : Type 0 where
  pub plan : List ℕ
  pub list : List ℕ
  pub chosen : ℕ
  pub work : List ℕ
  pub work' : List ℕ
  pub out : List ℕ
  pub out' : List ℕ
  pub result : PlanRows
  pub says : RowsSays plan list chosen work work' out out' result

-- the bytes that it wrote
abbrev pub rows_written : RowsCall → List ℕ
rows_written c = take c.result.length c.out'

-- the traces of the chosen element in a plan
abbrev pub traces_in : RowsCall → Plan → List (List (List ℕ))
traces_in c plan = traces (chosen_name c.list c.chosen) plan.element

-- the same by the numbers of the list's names: the rows
abbrev pub rows_of : RowsCall → Plan → List (List ℕ)
rows_of c plan = map (map (name_number (names_of c.list))) (traces_in c plan)

-- no fault 14, 15 or 16 stands in what was lent as the plan
abbrev pub NoFault : RowsCall → Type 0
NoFault c = Faultless (names_of c.list) (chosen_name c.list c.chosen) c.plan

-- what was written are the traces of this plan
pub record Traced (c : RowsCall) (plan : Plan) : Type 0 where
  -- one row field for each chosen element, in the order of their start tags
  pub bytes_are : rows_written c ≡ row_fields (rows_of c plan)
  pub rows_are : c.result.rows ≡ length (rows_of c plan)
  -- every child of a chosen element is one of the list's names
  pub known : Known (names_of c.list) (traces_in c plan)

-- this list, a class field or none, and these bytes make a book with these rows, which is read without a refusal of its fields
pub record MakesBook (list bytes : List ℕ) (rows : List (List ℕ)) (settings : Settings) : Type 0 where
  pub without_class :
      read_book settings (list ++ bytes) ≡ accepted_file (file items_met (names_of list) settings.default_class rows)
  pub with_class : (class : Class) → ClassOk class →
      read_book settings (list ++ (class_field class ++ bytes)) ≡ accepted_file (file items_met (names_of list) class rows)

-- calls that read plans with this list and were not refused
abbrev pub ReadWith : List ℕ → List RowsCall → Type 0
ReadWith list calls = (c : RowsCall) → In c calls → (c.list ≡ list) × (c.result.refusal ≡ 0)

-- their rows, one call after the other, as the reading has them
abbrev pub all_rows : List RowsCall → List (List ℕ)
all_rows calls = flat_map (λ (c : RowsCall). plan_rows c.plan c.list c.chosen) calls

-- what holds of every call
pub record RowsHandedOver : Type 0 where
  -- a refusal 14, 15 or 16 is the first fault of all in the plan, at its place; with any other refusal, and with none, the place is 0
  pub first : (c : RowsCall) → bad_plan ≤ c.result.refusal
      → First (names_of c.list) (chosen_name c.list c.chosen) c.plan c.result.refusal c.result.at
  pub no_place : (c : RowsCall) → c.result.refusal < bad_plan → c.result.at ≡ 0
  -- what is not refused is a plan without a fault
  pub is_plan : (c : RowsCall) → c.result.refusal ≡ 0 → (plan : Plan) × (plan_bytes plan ≡ c.plan)
  pub no_fault : (c : RowsCall) → c.result.refusal ≡ 0 → NoFault c
  -- its traces are what was written, in at most `rows_bytes` bytes; where there is a row, the list and the rows make a book
  pub traced : (c : RowsCall) → c.result.refusal ≡ 0 → (plan : Plan) → plan_bytes plan ≡ c.plan → Traced c plan
  pub short : (c : RowsCall) → c.result.refusal ≡ 0 → c.result.length ≤ rows_bytes
  pub makes_book : (c : RowsCall) → c.result.refusal ≡ 0 → 1 ≤ c.result.rows → (plan : Plan) → plan_bytes plan ≡ c.plan
      → (settings : Settings) → MakesBook c.list (rows_written c) (rows_of c plan) settings
  -- so do the rows of several plans, one call after the other
  pub make_book : (list : List ℕ) (calls : List RowsCall) → ReadWith list calls
      → 1 ≤ length (all_rows calls) → length (all_rows calls) ≤ book_rows
      → (settings : Settings) → MakesBook list (flat_map rows_written calls) (all_rows calls) settings
  -- what is refused, in order: what is wrong with what was asked; then the first fault of the plan, at its place; then 7 and 9 for the
  -- traces, and 13 for the output
  pub asked_first : (c : RowsCall) → 0 < asked_fault c.plan c.list c.chosen c.work
      → c.result.refusal ≡ asked_fault c.plan c.list c.chosen c.work
  pub told : (c : RowsCall) → asked_fault c.plan c.list c.chosen c.work ≡ 0 → (number place : ℕ)
      → First (names_of c.list) (chosen_name c.list c.chosen) c.plan number place
      → (c.result.refusal ≡ number) × (c.result.at ≡ place)
  pub judged : (c : RowsCall) → asked_fault c.plan c.list c.chosen c.work ≡ 0 → NoFault c
      → (plan : Plan) → plan_bytes plan ≡ c.plan
      → c.result.refusal
      ≡ first_of (rows_fault (rows_of c plan)) (when (ltb (length c.out) (length (row_fields (rows_of c plan)))) output_too_short)
  -- an output of so many bytes is never too short
  pub enough : (c : RowsCall) → rows_bytes ≤ length c.out → c.result.refusal ≡ output_too_short → ⊥
