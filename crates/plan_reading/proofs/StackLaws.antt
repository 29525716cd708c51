-- The stack of the open elements: how many names it holds, what one element more leaves as it was, and what a tag is refused for by the
-- numbers on it. Assumes nothing.
use mathlib.Core.Path.{◌≡◌, refl, sym, ap, ap₂, ◌∙◌}
use mathlib.Core.Logic.{◌≢◌, ⊎_elim}
use mathlib.Core.Bool.{Bool, true, false, ◌&&◌, not}
use mathlib.Core.List.{List, ◌∷◌}
use Rattle.std.proofs.Common.{Some}
use Prim.Native.Nat.{ℕ, zero, suc, ◌-◌, ◌≤◌, ◌<◌}
use native.Mathlib.Omega.{arith}
use lib.Dec.{eqb, ltb, leb}
use lib.ListN.{length, set}
use lib.Seq.{get_or-set_other}
use Rattle.base.specs.Lists.{has_row}
use Rattle.base.specs.Limits.{plan_depth, too_deep, unknown_child, when, first_of}
use Rattle.base.proofs.Tests.{told-false, tells_eqb, tells_ltb, tells_leb, le_or_lt}
use Rattle.model.specs.Fields.{name_number}
use Rattle.model.proofs.NameNumbers.{number-only, known_test}
use Rattle.judging.proofs.OffsetLaws.{length_fields}
use Rattle.written_plans.specs.Written.{tag}
use Rattle.written_plans.specs.Reading.{is_child, tag_fault}
use Rattle.plan_reading.specs.Scanning.{part}
use Rattle.plan_reading.specs.Pieces.{open_at, open_name, open_names, IsInnermost}
use Rattle.plan_reading.specs.Turns.{sought_names, sought_name, Numbered, TagJudged}
use Rattle.plan_reading.specs.declared.sought.Sought.{Sought}
use Rattle.plan_reading.specs.declared.opens.Open.{Open}

-- ---- the names of the open elements

-- one for each
pub open_count : (s : List ℕ) (opens : List Open) (d : ℕ) → length (open_names s opens d) ≡ d
unfolding open_names
open_count s opens zero = refl
open_count s opens (suc d) = ap suc (open_count s opens d)

-- the name at a depth is what it was where the element there is
pub name_kept : (s : List ℕ) (opens opens' : List Open) (d : ℕ) → open_at opens' d ≡ open_at opens d
    → open_name s opens' d ≡ open_name s opens d
name_kept s opens opens' d kept = ap (λ (o : Open). part s o.from o.end) kept

-- and so are all names below a depth
pub names_kept : (s : List ℕ) (opens opens' : List Open) (d : ℕ) → ((j : ℕ) → j < d → open_at opens' j ≡ open_at opens j)
    → open_names s opens' d ≡ open_names s opens d
unfolding open_names
names_kept s opens opens' zero kept = refl
names_kept s opens opens' (suc d) kept =
    ap₂ (λ (n : List ℕ) (ns : List (List ℕ)). n ∷ ns) (name_kept s opens opens' d (kept d (omega arith)))
    (names_kept s opens opens' d (λ j h. kept j (omega arith)))

-- ---- one element more

-- the elements around it are what they were
pub pushed-below : (opens : List Open) (d : ℕ) (element : Open) (j : ℕ) → j < d → open_at (set opens d element) j ≡ open_at opens j
pushed-below opens d element j h =
    let apart : j ≢ d = λ e. let z : ⊥ = omega arith in z in get_or-set_other opens d j element _ apart

-- ---- what refuses a tag

-- the number for the three tests of a tag: it stands too deep, it is a child of the chosen element, its name is known
abbrev fault_for : Bool → Bool → Bool → ℕ
fault_for deep child known = first_of (when deep too_deep) (when (child && not known) unknown_child)

-- by these tests
fault_is :
    (names : List (List ℕ)) (chosen : List ℕ) (around : List (List ℕ)) (name onward : List ℕ) {deep child known : Bool}
    → leb plan_depth (length around) ≡ deep → is_child chosen around ≡ child → has_row name names ≡ known
    → tag_fault names chosen (tag around name onward) ≡ fault_for deep child known
unfolding tag_fault
fault_is names chosen around name onward {deep} {child} {known} e f g =
    ap (λ (x : Bool). fault_for x (is_child chosen around) (has_row name names)) e ∙ ap₂ (fault_for deep) f g

-- a known name is no fault
known_passes : (child : Bool) → fault_for false child true ≡ 0
known_passes true = refl
known_passes false = refl

-- the innermost open element is a chosen one by its number on the stack
child_test :
    (sought : Sought) (s : List ℕ) (opens : List Open) (depth : ℕ) → Numbered (sought_names sought) s opens depth → 0 < depth
    → is_child (sought_name sought) (open_names s opens depth) ≡ eqb (open_at opens (depth - 1)).number sought.chosen
unfolding open_names is_child
child_test sought s opens zero numbered inner = let z : ⊥ = omega arith in absurd z
child_test sought s opens (suc d) numbered inner =
    let some : sought.chosen < length (sought_names sought) =
    omega (arith, sought.some, length_fields sought.names.list.now 0 sought.names.count) in
    let place : d ≡ suc d - 1 = omega arith in
    sym (number-only (sought_names sought) sought.ascends sought.chosen some (open_name s opens d))
    ∙ ap (λ (k : ℕ). eqb k sought.chosen) (sym (numbered d (omega arith)))
    ∙ ap (λ (i : ℕ). eqb (open_at opens i).number sought.chosen) place

-- no element is open: none of them is chosen
child_of_none : (chosen s : List ℕ) (opens : List Open) (depth : ℕ) → depth ≡ 0 → is_child chosen (open_names s opens depth) ≡ false
unfolding open_names is_child
child_of_none chosen s opens depth none = ap (λ (d : ℕ). is_child chosen (open_names s opens d)) none

-- a tag that is not refused does not stand too deep
pub fine_shallow :
    (names : List (List ℕ)) (chosen s : List ℕ) (opens : List Open) (depth : ℕ) (name onward : List ℕ)
    → tag_fault names chosen (tag (open_names s opens depth) name onward) ≡ 0 → depth < plan_depth
fine_shallow names chosen s opens depth name onward e =
    ⊎_elim
    (λ (h : plan_depth ≤ depth).
    let deep : tag_fault names chosen (tag (open_names s opens depth) name onward) ≡ too_deep =
    fault_is names chosen (open_names s opens depth) name onward
    (ap (leb plan_depth) (open_count s opens depth) ∙ (tells_leb plan_depth depth).test h) refl refl in
    let z : ⊥ = omega arith in absurd z)
    (λ h. h) (le_or_lt plan_depth depth)

module _ (opens : List Open) (depth number : ℕ) (sought : Sought) where
  -- the names of the open elements
  abbrev around : List ℕ → List (List ℕ)
  around s = open_names s opens depth

  -- a tag inside fewer elements does not stand too deep
  not_too_deep : (s : List ℕ) → (plan_depth ≤ depth → ⊥) → leb plan_depth (length (around s)) ≡ false
  not_too_deep s shallow =
      ap (leb plan_depth) (open_count s opens depth) ∙ told-false (tells_leb plan_depth depth) shallow

  -- a name is known by its number
  known_by : (name : List ℕ) → number ≡ name_number (sought_names sought) name
      → has_row name (sought_names sought) ≡ ltb number sought.names.count
  known_by name e =
      known_test (sought_names sought) name ∙ ap₂ ltb (sym e) (length_fields sought.names.list.now 0 sought.names.count)

  -- it stands inside too many others
  pub judged_deep : plan_depth ≤ depth → TagJudged opens depth number sought too_deep
  judged_deep h =
      record {
        is = λ s name onward numbered e.
            fault_is (sought_names sought) (sought_name sought) (around s) name onward
            (ap (leb plan_depth) (open_count s opens depth) ∙ (tells_leb plan_depth depth).test h) refl refl;
      }

  module _ (shallow : plan_depth ≤ depth → ⊥) where
    -- its name is known
    pub judged_known : number < sought.names.count → TagJudged opens depth number sought 0
    judged_known low =
        record {
          is = λ s name onward numbered e.
              let child = is_child (sought_name sought) (around s) in
              fault_is (sought_names sought) (sought_name sought) (around s) name onward (not_too_deep s shallow) refl
              (known_by name e ∙ (tells_ltb number sought.names.count).test low)
              ∙ known_passes child;
        }

    -- its name is unknown, and it is a child of the chosen element
    pub judged_unknown : (number < sought.names.count → ⊥) → (element : Open) → IsInnermost opens depth (Some element)
        → element.number ≡ sought.chosen → TagJudged opens depth number sought unknown_child
    judged_unknown high element inner child =
        record {
          is = λ s name onward numbered e.
              fault_is (sought_names sought) (sought_name sought) (around s) name onward (not_too_deep s shallow)
              (child_test sought s opens depth numbered inner.0
              ∙ ap (λ (o : Open). eqb o.number sought.chosen) (sym inner.1)
              ∙ (tells_eqb element.number sought.chosen).test child)
              (known_by name e ∙ told-false (tells_ltb number sought.names.count) high);
        }

    -- or it is a child of another element
    pub judged_other : (element : Open) → IsInnermost opens depth (Some element) → (element.number ≡ sought.chosen → ⊥)
        → TagJudged opens depth number sought 0
    judged_other element inner other =
        record {
          is = λ s name onward numbered e.
              fault_is (sought_names sought) (sought_name sought) (around s) name onward (not_too_deep s shallow)
              (child_test sought s opens depth numbered inner.0
              ∙ ap (λ (o : Open). eqb o.number sought.chosen) (sym inner.1)
              ∙ told-false (tells_eqb element.number sought.chosen) other)
              refl;
        }

    -- or it stands inside no other
    pub judged_outermost : depth ≡ 0 → TagJudged opens depth number sought 0
    judged_outermost none =
        record {
          is = λ s name onward numbered e.
              fault_is (sought_names sought) (sought_name sought) (around s) name onward (not_too_deep s shallow)
              (child_of_none (sought_name sought) s opens depth none)
              refl;
        }

-- a tag by what it is refused for
pub ruleset judged = (judged_deep, judged_outermost, judged_known, judged_unknown, judged_other)
