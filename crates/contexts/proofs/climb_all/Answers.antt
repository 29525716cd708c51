use mathlib.Core.Path.{◌≡◌, subst}
use Prim.Native.Nat.{ℕ}
use native.Mathlib.Numerals.{add-one}
use native.Mathlib.Omega.{arith}
use lib.ListN.{length}
use Rattle.partition.specs.Forests.{roots_of}
use Rattle.partition.proofs.ForestLaws.{roots_labelled}
use Rattle.contexts.specs.Climbs.{ClimbedAt, ByRoots}
use Rattle.contexts.proofs.ClimbLaws.{Climbs, climbs-none, climbs-more, climbs-all}
use Rattle.contexts.proofs.TreeLaws.{tree-above}
use Rattle.contexts.proofs.climb_all.Goals as goal

pub loop-v-init : goal.loop-v-init
loop-v-init c =
    let groups = c.args.groups.now in
    let n = length groups in
    record {
      forest = c.requires.forest;
      promised =
          climbs-none n c.args.m c.args.tree.parents.now (tree-above c.requires.size c.args.tree.arrays) c.args.starts.now
          c.requires.starts_labelled (roots_of groups) (roots_labelled n groups c.requires.forest);
    }

pub loop-v-preserved : goal.loop-v-preserved
loop-v-preserved c =
    let loop = c.loop-v in
    let done = c.climb_at in
    let parents = c.args.tree.parents.now in
    let starts = c.args.starts.now in
    let n = length c.args.groups.now in
    let size = loop.invariant.forest.size in
    let climbed =
    subst (λ (k : ℕ). ByRoots k (ClimbedAt k c.args.m parents starts loop.v) loop.groups done.new.groups) size done.ensures in
    let after =
    climbs-more n c.args.m parents (tree-above c.requires.size c.args.tree.arrays) starts c.requires.starts_labelled loop.v
    (roots_of c.args.groups.now) (roots_of loop.groups) (roots_of done.new.groups)
    (omega (arith, c.requires.starts_labelled.size)) loop.invariant.promised climbed.promised in
    record { forest = climbed.forest; promised = rw add-one after }

pub returns : goal.returns
returns c =
    let loop = c.loop-v in
    let parents = c.args.tree.parents.now in
    let starts = c.args.starts.now in
    let n = length c.args.groups.now in
    let all : loop.v ≡ n = omega (arith, c.requires.starts_labelled.size) in
    let done =
    subst (λ (k : ℕ). ByRoots n (Climbs n k c.args.m parents starts) c.args.groups.now loop.groups) all loop.invariant in
    record {
      forest = done.forest;
      promised =
          climbs-all n c.args.m parents (tree-above c.requires.size c.args.tree.arrays) starts c.requires.starts_labelled
          (roots_of c.args.groups.now) (roots_of loop.groups) c.requires.starts_joined done.promised;
    }
