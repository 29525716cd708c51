-- A field's mark and the place in the order: one law for each arm of the reader's match, and one for what it refuses. Assumes nothing.
use mathlib.Core.Path.{◌≡◌}
use mathlib.Core.Bool.{true, false, and-false}
use mathlib.Core.List.{List}
use Prim.Native.Nat.{ℕ, ◌≤◌, ◌<◌}
use native.Mathlib.Omega.{arith}
use borrow.Author.Tests.{le-leb, lt-leb, eq-eqb, ne_eqb}
use lib.ListN.{get_or}
use Rattle.model.specs.Fields.{FileKind, takes_class, takes_rows, takes_states, File, may_come, name_fault, class_fault, row_fault}
use Rattle.model.specs.Fields.{state_fault, field_fault, with_field}
use Rattle.judging.specs.Offsets.{body_at}
use Rattle.base.specs.declared.refusals.Refusal.{Refusal}
use Rattle.base.specs.Limits.{misplaced}
use Rattle.model.specs.Calls.{Refuses}
use Rattle.std.specs.Prelude.{Result}
use Rattle.fields.specs.Places.{stage_of, file_of, Stepped, StepBy, FieldStep}
use Rattle.fields.specs.declared.Place.{Place}

-- a mark not allowed next is refused with 3
misplaced-fault : (kind : FileKind) (f : File) (mark : ℕ) (b : List ℕ) → may_come kind f.stage mark ≡ false → field_fault kind f mark b ≡ 3
unfolding field_fault
misplaced-fault kind f mark b e = rw e

-- the field at a place is refused so
abbrev MisplacedAt : FileKind → List ℕ → Place → Type 0
MisplacedAt kind s p = Refuses (field_fault kind (file_of s p) (get_or s p.at 0) (body_at s p.at)) misplaced

module _ (kind : FileKind) (s : List ℕ) (p : Place) where
  misplaced_lem : may_come kind (stage_of p.stage) (get_or s p.at 0) ≡ false → MisplacedAt kind s p
  misplaced_lem e =
      record { is = misplaced-fault kind (file_of s p) (get_or s p.at 0) (body_at s p.at) e; some = omega arith }

  -- what the arm for a mark found is what the mark's field comes to
  by_mark_lem : (r : Result Place Refusal) (mark fault : ℕ) → get_or s p.at 0 ≡ mark
      → field_fault kind (file_of s p) mark (body_at s p.at) ≡ fault
      → Stepped s p fault (with_field (file_of s p) mark (body_at s p.at)) r → FieldStep kind s p r
  by_mark_lem r mark fault m e h = rw (m, e) h

  pub name_arm : (r : Result Place Refusal) → get_or s p.at 0 ≡ 1 → stage_of p.stage ≤ 1
      → StepBy (λ f. name_fault f.names) 1 s p r → FieldStep kind s p r
  unfolding field_fault
  name_arm r m h = by_mark_lem r 1 (name_fault (file_of s p).names (body_at s p.at)) m (rw (le-leb (stage_of p.stage) 1 h))

  pub class_arm : (r : Result Place Refusal) → get_or s p.at 0 ≡ 2 → takes_class kind ≡ true → stage_of p.stage ≡ 1
      → StepBy (λ _. class_fault) 2 s p r → FieldStep kind s p r
  unfolding field_fault
  class_arm r m k h = by_mark_lem r 2 (class_fault (body_at s p.at)) m (rw (k, eq-eqb (stage_of p.stage) 1 h))

  pub row_arm : (r : Result Place Refusal) → get_or s p.at 0 ≡ 3 → takes_rows kind ≡ true → 1 ≤ stage_of p.stage
      → StepBy row_fault 3 s p r → FieldStep kind s p r
  unfolding field_fault
  row_arm r m k h = by_mark_lem r 3 (row_fault (file_of s p) (body_at s p.at)) m (rw (k, le-leb 1 (stage_of p.stage) h))

  pub state_arm : (r : Result Place Refusal) → get_or s p.at 0 ≡ 4 → takes_states kind ≡ true → 2 ≤ stage_of p.stage
      → StepBy state_fault 4 s p r → FieldStep kind s p r
  unfolding field_fault
  state_arm r m k h = by_mark_lem r 4 (state_fault (file_of s p) (body_at s p.at)) m (rw (k, le-leb 2 (stage_of p.stage) h))

  -- marks that may not come are refused
  pub no_name : get_or s p.at 0 ≡ 1 → 1 < stage_of p.stage → MisplacedAt kind s p
  no_name m h = misplaced_lem (rw (m, lt-leb (stage_of p.stage) 1 h))

  pub no_class : get_or s p.at 0 ≡ 2 → takes_class kind ≡ false → MisplacedAt kind s p
  no_class m k = misplaced_lem (rw (m, k))

  pub no_class_now : get_or s p.at 0 ≡ 2 → (stage_of p.stage ≡ 1 → ⊥) → MisplacedAt kind s p
  no_class_now m h = misplaced_lem (rw (m, ne_eqb (stage_of p.stage) 1 h, and-false))

  pub no_row : get_or s p.at 0 ≡ 3 → takes_rows kind ≡ false → MisplacedAt kind s p
  no_row m k = misplaced_lem (rw (m, k))

  pub no_row_yet : get_or s p.at 0 ≡ 3 → stage_of p.stage < 1 → MisplacedAt kind s p
  no_row_yet m h = misplaced_lem (rw (m, lt-leb 1 (stage_of p.stage) h, and-false))

  pub no_state : get_or s p.at 0 ≡ 4 → takes_states kind ≡ false → MisplacedAt kind s p
  no_state m k = misplaced_lem (rw (m, k))

  pub no_state_yet : get_or s p.at 0 ≡ 4 → stage_of p.stage < 2 → MisplacedAt kind s p
  no_state_yet m h = misplaced_lem (rw (m, lt-leb 2 (stage_of p.stage) h, and-false))

  pub no_mark : (get_or s p.at 0 ≡ 1 → ⊥) → (get_or s p.at 0 ≡ 2 → ⊥) → (get_or s p.at 0 ≡ 3 → ⊥) → (get_or s p.at 0 ≡ 4 → ⊥)
      → MisplacedAt kind s p
  no_mark a b c d =
      let mark = get_or s p.at 0 in
      misplaced_lem (rw (ne_eqb mark 1 a, ne_eqb mark 2 b, ne_eqb mark 3 c, ne_eqb mark 4 d))

-- what refuses a mark
pub ruleset misplaced_marks = (no_name, no_class, no_class_now, no_row, no_row_yet, no_state, no_state_yet, no_mark)
