-- The worked plans hold, by computing. Assumes nothing.
use mathlib.Core.Path.{◌≡◌, refl}
use mathlib.Core.Bool.{true}
use mathlib.Core.List.{List, flat_map}
use Prim.Native.Nat.{ℕ, ◌≤◌}
use borrow.Author.Tests.{leb-true}
use lib.Dec.{leb}
use lib.ListN.{length, replicate}
use Rattle.base.specs.Lists.{all, any, same, has_row, before, last_or}
use Rattle.base.specs.Limits.{input_limit, work_bytes, too_many, bad_row}
use Rattle.model.specs.Fields.{name_ok, name_number, above, name_fault, field_fault, with_field, read_from, read_with}
use Rattle.model.specs.Tables.{field_bytes, name_fields}
use Rattle.model.specs.Calls.{WithWork, sizes_fault}
use Rattle.written_plans.specs.Reading.{read_plan, read_plan_from, begins_name, step, met, tag_fault, is_child, ended}
use Rattle.written_plans.specs.Reading.{after_name, after_end, end_begins, rows_in, row_after, rows_short, rows_fault}
use Rattle.written_plans.specs.Calls.{plan_reading, plan_rows, asked_fault, plan_fault}
use Rattle.model.specs.WorkedDays.{same_rows}
use Rattle.written_plans.specs.WorkedPlans.{times, holds, examples, day_of, plan_names, WorkedPlansHold}
use Rattle.model.proofs.CallLaws.{sizes_none}

-- the examples, one after the other
examples_hold : all holds examples ≡ true
unfolding all any same has_row name_ok name_number read_plan read_plan_from begins_name step met tag_fault is_child ended after_name after_end
    end_begins rows_in row_after same_rows times
examples_hold = refl

-- an input that is not too long passes 1, where there is room to work
passes : (input work : List ℕ) → leb (length input) input_limit ≡ true → work_bytes ≤ length work → sizes_fault input work ≡ 0
passes input work short enough =
    sizes_none input work (record { input_fits = leb-true (length input) input_limit short; work_fits = enough })

-- a day of 40 entries, and one of 41
record DaysJudged : Type 0 where
  at_40 : WithWork (plan_fault (day_of 40) (name_fields plan_names) 0) 0
  at_41 : WithWork (plan_fault (day_of 41) (name_fields plan_names) 0) bad_row

days_judged : DaysJudged
unfolding all any same has_row before last_or flat_map name_ok name_number above name_fault field_fault with_field read_from read_with field_bytes
    name_fields read_plan read_plan_from begins_name step met tag_fault is_child ended after_name after_end end_begins rows_in row_after rows_short
    rows_fault plan_reading plan_rows asked_fault plan_fault times
days_judged =
    record {
      at_40 = λ work enough. rw (passes (day_of 40) work refl enough, passes (name_fields plan_names) work refl enough);
      at_41 = λ work enough. rw (passes (day_of 41) work refl enough, passes (name_fields plan_names) work refl enough);
    }

-- too many rows, which are too long
seven_first : rows_fault (replicate 257 (replicate 41 0)) ≡ too_many
unfolding rows_fault all
seven_first = refl

pub worked_plans_hold : WorkedPlansHold
worked_plans_hold =
    record {
      examples_hold = examples_hold;
      row_passes = days_judged.at_40;
      row_refused = days_judged.at_41;
      seven_first = seven_first;
    }
