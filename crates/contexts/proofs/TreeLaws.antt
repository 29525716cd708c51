-- The tree that is handed over, with the number of states that a partition of it has. Assumes nothing.
use mathlib.Core.Path.{◌≡◌, sym, subst}
use mathlib.Core.List.{List}
use Prim.Native.Nat.{ℕ}
use lib.ListN.{length}
use Rattle.indexed.specs.Trees.{Arrays}
use Rattle.indexed.proofs.Suffixes.{parent_below}
use Rattle.contexts.specs.Climbs.{Above}

module _ {n : ℕ} {parents names : List ℕ} (size : n ≡ length parents) (arrays : Arrays (length parents) parents names) where
  pub tree-arrays : Arrays n parents names
  tree-arrays = subst (λ (k : ℕ). Arrays k parents names) (sym size) arrays

  pub tree-above : Above n parents
  tree-above = record { size = sym size; below = parent_below n parents names tree-arrays }
