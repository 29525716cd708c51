-- What a tag is refused for, against what is wrong with it: 15 where it stands too deep, 16 where it is an unknown child. Assumes nothing.
use mathlib.Core.Path.{◌≡◌, refl, ap, ap₂}
use mathlib.Core.Bool.{Bool, true, false, ◌&&◌, not, false≢true}
use mathlib.Core.List.{List, [], ◌∷◌, Memᴰ as In, head-eq_of_cons-eq, nil≢cons}
use Prim.Native.Nat.{ℕ, ◌≤◌}
use lib.Dec.{leb}
use lib.ListN.{length}
use Rattle.base.specs.Lists.{has_row}
use Rattle.base.specs.Limits.{plan_depth, too_deep, unknown_child, when, first_of}
use Rattle.base.proofs.Tests.{Tells, not_told, tells_and, tells_by, tells_has_row, tells_leb, tells_not, tells_same}
use Rattle.written_plans.specs.Written.{Tag, ChildOf}
use Rattle.written_plans.specs.Reading.{is_child, tag_fault}

-- the tag of an element inside too many others
abbrev pub TooDeep : Tag → Type 0
TooDeep t = plan_depth ≤ length t.around

-- the tag of a child of the chosen element that is not among the names
abbrev pub UnknownChild : List (List ℕ) → List ℕ → Tag → Type 0
UnknownChild names chosen t = ChildOf chosen t × (In t.name names → ⊥)

-- the test of a child
tells_child : (chosen : List ℕ) (around : List (List ℕ)) →
    Tells (is_child chosen around) ((others : List (List ℕ)) × (around ≡ chosen ∷ others))
unfolding is_child
tells_child chosen [] = record { fact = λ e. absurd (false≢true e); test = λ h. absurd (nil≢cons h.1) }
tells_child chosen (n ∷ around) =
    tells_by (tells_same n chosen) (λ e. (around, ap (λ (z : List ℕ). z ∷ around) e)) (λ h. head-eq_of_cons-eq h.1)

-- what a tag is refused for, with its reason
pub data Verdict (names : List (List ℕ)) (chosen : List ℕ) (t : Tag) : Type 0 where
  fine : tag_fault names chosen t ≡ 0 → (TooDeep t → ⊥) → (UnknownChild names chosen t → ⊥) → Verdict names chosen t
  deep : tag_fault names chosen t ≡ too_deep → TooDeep t → Verdict names chosen t
  unknown : tag_fault names chosen t ≡ unknown_child → (TooDeep t → ⊥) → UnknownChild names chosen t → Verdict names chosen t

-- the number for the two tests of a tag
abbrev number_for : Bool → Bool → ℕ
number_for x y = first_of (when x too_deep) (when y unknown_child)

-- one of the three
pub verdict : (names : List (List ℕ)) (chosen : List ℕ) (t : Tag) → Verdict names chosen t
unfolding tag_fault
verdict names chosen t = look (leb plan_depth (length t.around)) (is_child chosen t.around && not (has_row t.name names)) refl refl
  where
    tells-deep : Tells (leb plan_depth (length t.around)) (TooDeep t)
    tells-deep = tells_leb plan_depth (length t.around)

    tells-unknown : Tells (is_child chosen t.around && not (has_row t.name names)) (UnknownChild names chosen t)
    tells-unknown = tells_and (tells_child chosen t.around) (tells_not (tells_has_row t.name names))

    look : (x y : Bool) → leb plan_depth (length t.around) ≡ x → (is_child chosen t.around && not (has_row t.name names)) ≡ y
        → Verdict names chosen t
    look true y d e = deep (ap₂ number_for d e) (tells-deep.fact d)
    look false true d e = unknown (ap₂ number_for d e) (not_told tells-deep d) (tells-unknown.fact e)
    look false false d e = fine (ap₂ number_for d e) (not_told tells-deep d) (not_told tells-unknown e)
