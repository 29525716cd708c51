-- The refusals' numbers (docs/SCOPE.md, section 4.1), and the number that an answer stands for. Assumes nothing.
use Rattle.std.specs.Prelude.{ℕ, Result, Ok, Err}
use Rattle.base.specs.Limits.{bad_sizes, cut_off, misplaced, unfinished, bad_name, name_order, too_many, bad_class, bad_row}
use Rattle.base.specs.Limits.{tree_too_large, bad_state, bad_numbering, output_too_short, bad_plan, too_deep, unknown_child}
use Rattle.base.specs.declared.refusals.Refusal.{Refusal}
use Rattle.base.specs.declared.refusals.Refusal.TheVariants as refusal

-- the number of a refusal
abbrev pub number_of : Refusal → ℕ
number_of refusal.BadSizes = bad_sizes
number_of refusal.CutOff = cut_off
number_of refusal.Misplaced = misplaced
number_of refusal.Unfinished = unfinished
number_of refusal.BadName = bad_name
number_of refusal.NameOrder = name_order
number_of refusal.TooMany = too_many
number_of refusal.BadClass = bad_class
number_of refusal.BadRow = bad_row
number_of refusal.TreeTooLarge = tree_too_large
number_of refusal.BadState = bad_state
number_of refusal.BadNumbering = bad_numbering
number_of refusal.OutputTooShort = output_too_short
number_of refusal.BadPlan = bad_plan
number_of refusal.TooDeep = too_deep
number_of refusal.UnknownChild = unknown_child

-- the number that an answer stands for: its refusal's, 0 for none
abbrev pub fault_of : {A : Type 0} → Result A Refusal → ℕ
fault_of (Ok _) = 0
fault_of (Err k) = number_of k

-- what is given back: the answer itself, or with a refusal what goes with its number
abbrev pub told : {A : Type 0} → (ℕ → A) → Result A Refusal → A
told none (Ok answer) = answer
told none (Err k) = none (number_of k)
