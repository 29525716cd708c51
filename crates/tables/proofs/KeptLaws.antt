-- Laws of kept offsets: keeping one leaves the area's length; the offset just kept is read again; that of another state reads as before.
-- Assumes nothing.
use mathlib.Core.Path.{◌≡◌}
use mathlib.Core.List.{List}
use Prim.Native.Nat.{ℕ, ◌/◌, ◌%◌, ◌≤◌, ◌<◌}
use native.Mathlib.Omega.{arith}
use lib.ListN.{length}
use Rattle.base.specs.Limits.{state_limit, work_bytes}
use Rattle.base.proofs.CellLaws.{length-with_cell, cell_same, cell_other}
use Rattle.tables.specs.KeptFields.{field_at, with_field}

pub length-with_field : (work : List ℕ) (i value : ℕ) → length (with_field work i value) ≡ length work
unfolding with_field
length-with_field work i value = length-with_cell work (i / 64) (i % 64) value

-- the offset just kept
pub field_same : (work : List ℕ) (i value : ℕ) → i < state_limit → work_bytes ≤ length work
    → field_at (with_field work i value) i ≡ value
unfolding field_at with_field
field_same work i value low room = cell_same work (i / 64) (i % 64) value (omega arith) (omega arith) room

-- the offset of another state
pub field_other : (work : List ℕ) (i value j : ℕ) → (j ≡ i → ⊥) → field_at (with_field work i value) j ≡ field_at work j
unfolding field_at with_field
field_other work i value j apart =
    cell_other work (i / 64) (i % 64) value (j / 64) (j % 64) (omega arith) (omega arith) (λ e f. apart (omega arith))
