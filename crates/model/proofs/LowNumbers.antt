-- The refusals of fields have numbers below 13: whatever is read, it is refused neither as an output too short nor as a plan. Assumes
-- nothing.
use mathlib.Core.Bool.{Bool, true, false, not, cond}
use mathlib.Core.List.{List}
use Prim.Native.Nat.{ℕ, zero, suc, ◌<◌}
use native.Mathlib.Omega.{arith}
use lib.Dec.{eqb, leb}
use lib.ListN.{length, get_or}
use Rattle.base.specs.Limits.{name_limit, book_rows, state_limit, name_mark, class_mark, row_mark, when, first_of}
use Rattle.base.specs.Limits.{cut_off, misplaced, unfinished, bad_name, name_order, too_many, bad_class, bad_row, bad_state}
use Rattle.base.specs.Limits.{output_too_short}
use Rattle.model.specs.Fields.{Settings, FileKind, File, Read, refused, unread, at_end, last_stage, may_come, name_ok, above, class_ok}
use Rattle.model.specs.Fields.{row_ok, state_ok, name_fault, class_fault, row_fault, state_fault, field_fault, with_field, runs_past, body_of}
use Rattle.model.specs.Fields.{after_field, read_from, read_with}

-- a refusal of a test, and the first of two, below any limit
pub when-low : {limit : ℕ} (t : Bool) (n : ℕ) → n < limit → when t n < limit
when-low true n h = h
when-low false n h = omega arith

pub first_low : {limit : ℕ} (a b : ℕ) → a < limit → b < limit → first_of a b < limit
first_low zero b h k = k
first_low (suc a) b h k = h

either_low : (t : Bool) (a b : ℕ) → a < output_too_short → b < output_too_short → cond t a b < output_too_short
either_low true a b h k = h
either_low false a b h k = k

-- two tests, one after the other
two_low : (t u : Bool) (m n : ℕ) → m < output_too_short → n < output_too_short → first_of (when t m) (when u n) < output_too_short
two_low t u m n h k = first_low (when t m) (when u n) (when-low t m h) (when-low u n k)

name_low : (names : List (List ℕ)) (body : List ℕ) → name_fault names body < output_too_short
unfolding name_fault
name_low names body =
    let more = two_low (not (above names body)) (leb name_limit (length names)) name_order too_many (omega arith) (omega arith) in
    first_low (when (not (name_ok body)) bad_name) _ (when-low (not (name_ok body)) bad_name (omega arith)) more

class_low : (body : List ℕ) → class_fault body < output_too_short
unfolding class_fault
class_low body = when-low (not (class_ok body)) bad_class (omega arith)

row_low : (f : File) (body : List ℕ) → row_fault f body < output_too_short
unfolding row_fault
row_low f body =
    two_low (leb book_rows (length f.items)) (not (row_ok (length f.names) body)) too_many bad_row (omega arith) (omega arith)

state-low : (f : File) (body : List ℕ) → state_fault f body < output_too_short
unfolding state_fault
state-low f body =
    two_low (leb state_limit (length f.items)) (not (state_ok (length f.names) body)) too_many bad_state (omega arith) (omega arith)

-- one field, by its mark
field_low : (kind : FileKind) (f : File) (mark : ℕ) (body : List ℕ) → field_fault kind f mark body < output_too_short
unfolding field_fault
field_low kind f mark body =
    let item = either_low (eqb mark row_mark) (row_fault f body) (state_fault f body) (row_low f body) (state-low f body) in
    let more = either_low (eqb mark class_mark) (class_fault body) _ (class_low body) item in
    let by_mark_lem = either_low (eqb mark name_mark) (name_fault f.names body) _ (name_low f.names body) more in
    let may-not = not (may_come kind f.stage mark) in
    first_low (when may-not misplaced) _ (when-low may-not misplaced (omega arith)) by_mark_lem

-- what reading from any file on comes to, whatever the fuel
from_low : (l : ℕ) (kind : FileKind) (f : File) (s : List ℕ) → (read_from l kind f s).number < output_too_short
unfolding read_from
from_low zero kind f s = omega arith
from_low (suc l) kind f s =
    go (eqb (length s) 0) (runs_past s) (eqb fault 0) (from_low l kind (with_field f (get_or s 0 0) (body_of s)) (after_field s))
  where
    fault : ℕ
    fault = field_fault kind f (get_or s 0 0) (body_of s)

    at_end_fact : (t : Bool) → (cond t (record { number = 0; file_is = f }) (refused unfinished)).number < output_too_short
    at_end_fact true = omega arith
    at_end_fact false = omega arith

    go : (t u v : Bool) → (read_from l kind (with_field f (get_or s 0 0) (body_of s)) (after_field s)).number < output_too_short
        → (elim t as (λ (b : Bool). Read) [
          | true ↦ at_end kind f
          | false ↦
              elim u as (λ (b : Bool). Read) [
                | true ↦ refused cut_off
                | false ↦
                    elim v as (λ (b : Bool). Read) [
                      | true ↦ read_from l kind (with_field f (get_or s 0 0) (body_of s)) (after_field s)
                      | false ↦ refused fault
                    ]
              ]
        ]).number < output_too_short
    go true u v onward = at_end_fact (eqb f.stage (last_stage kind))
    go false true v onward = omega arith
    go false false true onward = onward
    go false false false onward = field_low kind f (get_or s 0 0) (body_of s)

-- a whole file of any kind
pub fields_low : (settings : Settings) (kind : FileKind) (s : List ℕ) → (read_with settings kind s).number < output_too_short
unfolding read_with
fields_low settings kind s = from_low (suc (length s)) kind (unread settings.default_class) s
