use mathlib.Core.Path.{refl, subst}
use Prim.Native.Nat.{ℕ}
use native.Mathlib.Numerals.{add-one}
use lib.ListN.{length, get_or}
use Rattle.partition.specs.Forests.{roots_of, JoinedRoots}
use Rattle.partition.specs.declared.forest.Roots.{Roots}
use Rattle.partition.proofs.ForestLaws.{roots_labelled}
use Rattle.partition.proofs.RootLaws.{roots_two}
use Rattle.contexts.proofs.ClimbLaws.{joined-roots, climbing_none, climbing-more}
use Rattle.contexts.proofs.TreeLaws.{tree-above}
use Rattle.contexts.proofs.climb.Goals as goal

pub loop-init : goal.loop-init
loop-init c =
    let groups = c.args.groups.now in
    let n = length groups in
    record {
      forest = c.requires.forest;
      climbing =
          climbing_none n c.args.m c.args.tree.parents.now (tree-above c.requires.size c.args.tree.arrays) c.args.v c.args.w
          (roots_of groups) c.requires.v_inside c.requires.w_inside (roots_labelled n groups c.requires.forest);
    }

pub loop-preserved : goal.loop-preserved
loop-preserved c =
    let loop = c.loop in
    let forest = loop.invariant.forest in
    let climbing = loop.invariant.climbing in
    let groups = c.args.groups.now in
    let n = length groups in
    let parents = c.args.tree.parents.now in
    let above = tree-above c.requires.size c.args.tree.arrays in
    let x = get_or parents loop.a 0 in
    let y = get_or parents loop.b 0 in
    let after = c.join.new.above in
    let found =
    joined-roots (get_or (roots_of loop.groups) x 0) (λ (r : Roots). r.to) (λ (r : Roots). r.from) c.join.result c.join.ensures in
    let roots = subst (λ (k : ℕ). JoinedRoots k loop.groups after x y found.0 found.1) forest.size found.2 in
    let two =
    roots_two n loop.groups after x y found.0 found.1 forest (above.below loop.a climbing.a_below)
    (above.below loop.b climbing.b_below) roots in
    let more =
    climbing-more n c.args.m parents above c.args.v c.args.w loop.counter loop.a loop.b x y (roots_of groups)
    (roots_of loop.groups) (roots_of after) two.0 c.requires.v_inside c.requires.w_inside c.loop-test.true refl refl climbing
    two.1 in
    record { forest = roots.forest; climbing = rw add-one more }
