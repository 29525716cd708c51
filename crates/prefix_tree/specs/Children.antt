-- A child looked up in the arrays of a tree: what that needs of them, and what is promised of the answer. Assumes nothing.
use Rattle.std.specs.Prelude.{◌≡◌, Option, None, Some, ℕ, ◌<◌, ◌≤◌, length, get_or}
use mathlib.Core.List.{List}
use Rattle.base.specs.Limits.{work_bytes}
use Rattle.base.specs.Cells.{cell_at}

-- what finding a child needs of the arrays
pub record Roomy (count : ℕ) (parents names work : List ℕ) : Type 0 where
  pub parents_size : count ≤ length parents
  pub names_size : count ≤ length names
  pub work_size : work_bytes ≤ length work

-- the child of that state by that name, among so many states
pub record IsChild (count state name : ℕ) (parents names : List ℕ) (c : ℕ) : Type 0 where
  pub below : c < count
  pub parent : get_or parents c 0 ≡ state
  pub named : get_or names c 0 ≡ name

-- what the cell holds is not the child of that state by that name
pub record NoChild (count state name : ℕ) (parents names work : List ℕ) : Type 0 where
  pub none :
      (v : ℕ) → v < count → cell_at work state name ≡ v → get_or parents v 0 ≡ state → get_or names v 0 ≡ name → ⊥

-- the answer: the child, or none
abbrev pub ChildOf : ℕ → ℕ → ℕ → List ℕ → List ℕ → List ℕ → Option ℕ → Type 0
ChildOf count state name parents names work (Some c) = IsChild count state name parents names c
ChildOf count state name parents names work None = NoChild count state name parents names work
