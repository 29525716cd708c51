-- Rounds of joins: what is joined by the context rule and no more, forks joined until none is left, and what the rounds start
-- from. Assumes nothing.
use Rattle.std.specs.Prelude.{List, ℕ, ◌+◌, ◌<◌, ◌≤◌}
use Rattle.base.specs.Limits.{setting_limit}
use Rattle.base.specs.Lists.{numbers_from}
use Rattle.indexed.specs.Trees.{Arrays}
use Rattle.indexed.specs.Partitions.{Refines, Labelled, ForkClosed, ContextClosed}
use Rattle.contexts.specs.Distances.{Tested}

-- every partition that is closed under forks and the context rule joins as much
abbrev pub ContextSound : ℕ → ℕ → ℕ → List ℕ → List ℕ → List ℕ → Type 0
ContextSound n h m parents names groups =
    (others : List ℕ) → ForkClosed n parents names others → ContextClosed n h m parents names others → Refines n groups others

-- forks joined until none is left
pub record ForksJoined (n : ℕ) (parents names groups groups' : List ℕ) : Type 0 where
  pub labelled : Labelled n groups'
  pub coarser : Refines n groups groups'
  pub sound : (others : List ℕ) → ForkClosed n parents names others → Refines n groups others → Refines n groups' others
  pub closed : ForkClosed n parents names groups'

-- what the rounds of the context rule start from: contexts of two names and more are left to them, and what the tree itself tells
-- is joined already
pub record RoundReady (n h m : ℕ) (parents names groups : List ℕ) : Type 0 where
  pub arrays : Arrays n parents names
  pub some_names : 0 < h
  pub more_names : 1 < m
  pub limit : h + m ≤ setting_limit
  pub labelled : Labelled n groups
  pub sound : ContextSound n h m parents names groups
  pub tested : Tested n h m parents names (numbers_from n 0) groups
