use mathlib.Core.Path.{◌≡◌, subst}
use Prim.Native.Nat.{ℕ, ◌+◌, ◌-◌}
use native.Mathlib.Omega.{arith}
use lib.ListN.{length}
use Rattle.indexed.specs.Trees.{Arrays}
use Rattle.indexed.proofs.Alone.{alone-joined}
use Rattle.contexts.specs.Climbs.{ClimbedBelow}
use Rattle.contexts.proofs.ClimbLaws.{starts_closed, climbs_closed}
use Rattle.contexts.proofs.RoundLaws.{climbs_ready, rounds_joined}
use Rattle.contexts.proofs.TreeLaws.{tree-arrays}
use Rattle.contexts.proofs.join_by_context.Goals as goal
use Rattle.contexts.proofs.join_by_context.Goals.{Start, After-climb_starts}

-- the tree, by the number of groups
arrays : (c : Start) → Arrays (length c.args.groups.now) c.args.tree.parents.now c.args.tree.names.now
arrays c = tree-arrays c.requires.size c.args.tree.arrays

-- the climbs from the classes of the last k names
climbed : (c : After-climb_starts) →
    ClimbedBelow (length c.args.groups.now) (length c.args.groups.now) (c.args.k - c.args.h) c.args.tree.parents.now
    c.by_suffix.new.groups c.by_suffix.new.groups c.climb_starts.new.groups
climbed c =
    let starts = c.by_suffix.new.groups in
    subst (λ (n : ℕ). ClimbedBelow n n (c.args.k - c.args.h) c.args.tree.parents.now starts starts c.climb_starts.new.groups)
    c.by_suffix.auto.groups c.climb_starts.ensures

-- no two states have the same last k names
pub returns-then-not-by_suffix : goal.returns-then-not-by_suffix
returns-then-not-by_suffix c =
    let by = c.by_suffix in
    alone-joined (length c.args.groups.now) c.args.tree.parents.now c.args.tree.names.now by.new.groups
    (arrays (goal.at.returns-then-not-by_suffix c).Start) (by.ensures.none c.if-not-by_suffix.true) c.args.k by.ensures.by c.args.h

pub returns-then-m-eq0 : goal.returns-then-m-eq0
returns-then-m-eq0 c =
    let by = c.by_suffix in
    let same : c.args.h ≡ c.args.k = omega (arith, c.requires.within, c.if-m-eq0.true) in
    starts_closed (length c.args.groups.now) c.args.h c.args.k c.args.tree.parents.now c.args.tree.names.now by.new.groups
    (arrays (goal.at.returns-then-m-eq0 c).Start) c.requires.some same by.ensures.by

pub returns-then-m-eq1 : goal.returns-then-m-eq1
returns-then-m-eq1 c =
    let n = length c.args.groups.now in
    let parents = c.args.tree.parents.now in
    let starts = c.by_suffix.new.groups in
    let last = c.climb_starts.new.groups in
    let one : c.args.k - c.args.h ≡ 1 = omega (arith, c.if-m-eq1.true) in
    let sum_is : c.args.h + 1 ≡ c.args.k = omega arith in
    climbs_closed n c.args.h c.args.k parents c.args.tree.names.now starts last (arrays (goal.at.returns-then-m-eq1 c).Start)
    c.requires.some sum_is c.by_suffix.ensures.by
    (subst (λ (m : ℕ). ClimbedBelow n n m parents starts starts last) one
    (climbed (goal.at.returns-then-m-eq1 c).After-climb_starts))

pub run_rounds-requires : goal.run_rounds-requires
run_rounds-requires c =
    let sum_is : c.args.h + (c.args.k - c.args.h) ≡ c.args.k = omega arith in
    record {
      ready =
          climbs_ready (length c.args.groups.now) c.args.h (c.args.k - c.args.h) c.args.k c.args.tree.parents.now
          c.args.tree.names.now c.by_suffix.new.groups c.climb_starts.new.groups
          (arrays (goal.at.run_rounds-requires c).Start) c.requires.some (omega (arith, c.if-m-eq0.false, c.if-m-eq1.false))
          sum_is c.requires.limit c.by_suffix.ensures.by (climbed (goal.at.run_rounds-requires c).After-climb_starts);
    }

pub returns : goal.returns
returns c =
    let sum_is : c.args.h + (c.args.k - c.args.h) ≡ c.args.k = omega arith in
    rounds_joined (length c.args.groups.now) c.args.h (c.args.k - c.args.h) c.args.k c.args.tree.parents.now
    c.args.tree.names.now c.climb_starts.new.groups c.run_rounds.new.groups
    (climbed (goal.at.returns c).After-climb_starts).labelled.size sum_is c.run_rounds.ensures
