-- What is proved of the reading of plans: a refusal told is the first fault of all; bytes are accepted exactly where they are a plan
-- without a fault; and the rows are then the plan's traces. Assumes nothing.
use Rattle.std.specs.Prelude.{◌≡◌, ℕ, ◌<◌, eqb}
use mathlib.Core.List.{List, map, Memᴰ as In}
use Rattle.base.specs.Lists.{same}
use Rattle.model.specs.Fields.{name_number}
use Rattle.written_plans.specs.Written.{Plan, plan_bytes, plan_tags, traces, Fault, First}
use Rattle.written_plans.specs.Reading.{read_plan, entry_of, rows_in}

-- no fault of these bytes, at any place
abbrev pub Faultless : List (List ℕ) → List ℕ → List ℕ → Type 0
Faultless names chosen s = (number p : ℕ) → Fault names chosen s number p → ⊥

-- the reading of any bytes, with any names and any chosen one
pub record ReadingTells (names : List (List ℕ)) (chosen s : List ℕ) : Type 0 where
  -- a refusal told is the first fault of all
  pub first : 0 < (read_plan names chosen s).number
      → First names chosen s (read_plan names chosen s).number (read_plan names chosen s).place
  -- what is not refused is a plan without a fault, and the tags met are its tags
  pub is_plan : (read_plan names chosen s).number ≡ 0 → (plan : Plan) × (plan_bytes plan ≡ s)
  pub faultless : (read_plan names chosen s).number ≡ 0 → Faultless names chosen s
  pub tags_are : (read_plan names chosen s).number ≡ 0 → (plan : Plan) → plan_bytes plan ≡ s
      → (read_plan names chosen s).met_tags ≡ plan_tags plan
  -- what has no fault is not refused, and so is a plan
  pub accepts : Faultless names chosen s → (read_plan names chosen s).number ≡ 0

-- this number is that of the chosen name, and of no other
abbrev pub NumberOnly : List (List ℕ) → ℕ → List ℕ → Type 0
NumberOnly names number chosen = (n : List ℕ) → eqb (name_number names n) number ≡ same n chosen

-- the rows made from the numbers and depths of a plan's tags are the traces, name by name
abbrev pub RowsAreTraces : Type 0
RowsAreTraces =
    (names : List (List ℕ)) (number : ℕ) (chosen : List ℕ) → NumberOnly names number chosen → (plan : Plan)
    → rows_in number (map (entry_of names) (plan_tags plan)) ≡ map (map (name_number names)) (traces chosen plan.element)

-- every name in these rows is among the names
abbrev pub Known : List (List ℕ) → List (List (List ℕ)) → Type 0
Known names rows = (row : List (List ℕ)) → In row rows → (n : List ℕ) → In n row → In n names

-- where a plan has no fault, every child of a chosen element is among the names
abbrev pub ChildrenKnown : Type 0
ChildrenKnown =
    (names : List (List ℕ)) (chosen : List ℕ) (plan : Plan) → Faultless names chosen (plan_bytes plan)
    → Known names (traces chosen plan.element)
