-- Bytes written into a lent output: what a writing is, when one fits, what a function that writes gives back; and the pieces of which
-- model's fields are written. Assumes nothing.
use Rattle.std.specs.Prelude.{◌≡◌, Bool, List, [], ◌∷◌, ◌++◌, ℕ, ◌+◌, ◌≤◌, length, take, drop}
use Rattle.base.specs.Limits.{when, state_mark}
use Rattle.model.specs.Fields.{Class}
use Rattle.model.specs.Tables.{two_bytes, class_field}

-- out' is out with the bytes in the place of what stood from offset `at` on, and otherwise as it was
pub record Written (out out' : List ℕ) (at : ℕ) (bytes : List ℕ) : Type 0 where
  pub becomes : out' ≡ take at out ++ (bytes ++ drop (at + length bytes) out)

-- there is room for the bytes from offset `at` on
abbrev pub Fits : List ℕ → ℕ → List ℕ → Type 0
Fits out at bytes = at + length bytes ≤ length out

-- the bytes are written, and `after` is the offset after them
pub record Put (out out' : List ℕ) (at : ℕ) (bytes : List ℕ) (after : ℕ) : Type 0 where
  pub written : Written out out' at bytes
  pub ends : after ≡ at + length bytes

-- a field's first three bytes: its mark, and how many bytes follow, high byte first
abbrev pub field_head : ℕ → ℕ → List ℕ
field_head mark count = mark ∷ two_bytes count

-- a state field's first four bytes: mark 4, the length of what follows (a byte, and those of the arcs), whether the state accepts
abbrev pub state_head : Bool → ℕ → List ℕ
state_head accepts bytes = field_head state_mark (1 + bytes) ++ (when accepts 1 ∷ [])

-- an arc's three bytes: its name, and its target high byte first
abbrev pub arc_part : ℕ → ℕ → List ℕ
arc_part name target = name ∷ two_bytes target

-- the front of a table, or of a book that names its class, with the names of another file: that file's bytes up to where its names end,
-- and then the class
abbrev pub front_of : List ℕ → ℕ → Class → List ℕ
front_of file names class = take names file ++ class_field class
