-- The pieces of which model's fields are written: a state field is its head and its arcs' parts, and arcs are written one after the
-- other; and how many bytes a front takes (arcBytes: model's arc-bytes-length). Assumes nothing.
use mathlib.Core.Path.{◌≡◌, refl, ap}
use mathlib.Core.List.{List, [], ◌∷◌, ◌++◌, flat_map}
use Prim.Native.Nat.{ℕ, ◌+◌, ◌/◌, ◌%◌, ◌≤◌}
use native.Mathlib.Omega.{arith}
use lib.ListN.{length, take, length-append}
use lib.Seq.{length-take-le}
use Rattle.base.specs.Limits.{class_bytes, class_mark}
use Rattle.model.specs.Fields.{Class, class_from}
use Rattle.model.specs.Tables.{Arc, State, field_bytes, class_field, arc_bytes, state_body}
use Rattle.writing.specs.Writing.{state_head, arc_part, front_of}

pub state-bytes : (s : State) → field_bytes 4 (state_body s) ≡ state_head s.accepts (length (arc_bytes s.arcs)) ++ arc_bytes s.arcs
unfolding field_bytes state_body
state-bytes s =
    let size : length (state_body s) ≡ 1 + length (arc_bytes s.arcs) = omega arith in
    ap (λ (n : ℕ). 4 ∷ (n / 256 ∷ (n % 256 ∷ state_body s))) size

class_field-length : (c : Class) → length (class_field c) ≡ class_bytes
unfolding class_field field_bytes
class_field-length c = refl

-- a class field whose three bytes stand as they are
pub class_field_bytes : (l : List ℕ) → length l ≡ 3 → class_field (class_from l) ≡ field_bytes class_mark l
unfolding class_field field_bytes
class_field_bytes [] h = absurd (omega arith)
class_field_bytes (a ∷ []) h = absurd (omega arith)
class_field_bytes (a ∷ (b ∷ [])) h = absurd (omega arith)
class_field_bytes (a ∷ (b ∷ (c ∷ []))) h = refl
class_field_bytes (a ∷ (b ∷ (c ∷ (d ∷ l)))) h = absurd (omega arith)

pub front_length :
    (file : List ℕ) (names : ℕ) (c : Class) → names ≤ length file → length (front_of file names c) ≡ names + class_bytes
front_length file names c h =
    omega (arith, length-append (take names file) (class_field c), length-take-le names file h, class_field-length c)

pub arc-bytes_cons : (a : Arc) (arcs : List Arc) → arc_bytes (a ∷ arcs) ≡ arc_part a.name a.to ++ arc_bytes arcs
unfolding arc_bytes flat_map
arc-bytes_cons a arcs = refl
