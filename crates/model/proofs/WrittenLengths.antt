-- How many bytes written names and states take: a name at most 35, a state 4 and 3 for each of its arcs; and names that are
-- allowed are at most 64. Assumes nothing.
use mathlib.Core.Path.{◌≡◌, refl}
use mathlib.Core.Bool.{true, ◌&&◌, and-eq-true_iff}
use mathlib.Core.List.{List, [], ◌∷◌, ◌++◌, flat_map}
use Prim.Native.Nat.{ℕ, ◌+◌, ◌*◌, ◌≤◌, ◌<◌}
use native.Mathlib.Omega.{arith}
use lib.Dec.{leb}
use lib.ListN.{length, length-append}
use borrow.Author.Tests.{leb-true}
use Rattle.base.specs.Lists.{all, total}
use Rattle.base.specs.Limits.{name_limit, name_bytes}
use Rattle.model.specs.Fields.{name_ok, starts_name, continues_name}
use Rattle.model.specs.Tables.{State, arc_count, field_bytes, name_fields, state_fields, state_body}
use Rattle.model.proofs.StateBodies.{body_length}
use Rattle.model.proofs.Books.{NamesOk}

-- a field has three bytes before its body
field_length : (mark : ℕ) (body : List ℕ) → length (field_bytes mark body) ≡ 3 + length body
unfolding field_bytes
field_length mark body = omega arith

-- a name is within its limit
pub name_length : (n : List ℕ) → name_ok n ≡ true → length n ≤ name_bytes
unfolding name_ok
name_length [] ok = omega arith
name_length (b ∷ bs) ok =
    let n = length (b ∷ bs) in
    leb-true n name_bytes ((and-eq-true_iff (leb n name_bytes) (starts_name b && all continues_name bs)).0 ok).0

-- so the fields of names take at most 35 bytes each
pub name_fields-length :
    (names more : List (List ℕ)) → NamesOk names more →
    length (name_fields more) ≤ (3 + name_bytes) * length more
unfolding name_fields flat_map
name_fields-length names [] ok = omega arith
name_fields-length names (n ∷ more) ok =
    omega (
      arith,
      length-append (field_bytes 1 n) (name_fields more),
      field_length 1 n,
      name_length n ok.0.well_formed,
      name_fields-length (names ++ (n ∷ [])) more ok.1,
    )

-- names that are allowed are within their number
pub names_few :
    (names more : List (List ℕ)) → NamesOk names more → length names ≤ name_limit →
    length names + length more ≤ name_limit
names_few names [] ok few = omega arith
names_few names (n ∷ more) ok few =
    let one_more : length (names ++ (n ∷ [])) ≡ length names + 1 = length-append names (n ∷ []) in
    let below : length names < name_limit = ok.0.few in
    omega (arith, names_few (names ++ (n ∷ [])) more ok.1 (omega arith))

-- the fields of states take 4 bytes each, and 3 for each arc
pub state-fields_length : (states : List State) → length (state_fields states) ≡ 4 * length states + 3 * arc_count states
unfolding state_fields flat_map arc_count total
state-fields_length [] = refl
state-fields_length (s ∷ states) =
    omega (
      arith,
      length-append (field_bytes 4 (state_body s)) (state_fields states),
      field_length 4 (state_body s),
      body_length s,
      state-fields_length states,
    )
