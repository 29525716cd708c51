-- The starts that are read are those copied, and the groups are the roots of a forest at the entry and at the end.
use mathlib.Core.Path.{refl, sym, subst, subst₂}
use mathlib.Core.List.{List}
use Prim.Native.Nat.{ℕ}
use lib.ListN.{length}
use Rattle.indexed.specs.Partitions.{Refines}
use Rattle.base.proofs.Fills.{front_again}
use Rattle.partition.specs.Forests.{roots_of}
use Rattle.partition.proofs.ForestLaws.{flat_roots}
use Rattle.contexts.specs.Climbs.{ClimbedBelow}
use Rattle.contexts.proofs.climb_starts.Goals as goal

pub climb_all-requires-clause-starts_joined : goal.climb_all-requires-clause-starts_joined
climb_all-requires-clause-starts_joined c =
    let groups = c.args.groups.now in
    let n = length groups in
    subst₂ (λ (starts labels : List ℕ). Refines n starts labels)
    (sym (front_again n groups c.copy.new.to _ c.copy.ensures.after refl))
    (sym (flat_roots n groups c.requires.labelled)) (λ x y hx hy e. e)

pub returns : goal.returns
returns c =
    let groups = c.args.groups.now in
    let n = length groups in
    subst (λ (l : List ℕ). ClimbedBelow n n c.args.m c.args.tree.parents.now groups groups l) (sym c.flatten.ensures)
    (subst₂ (λ (starts first : List ℕ). ClimbedBelow n n c.args.m c.args.tree.parents.now starts first
    (roots_of c.climb_all.new.groups))
    (front_again n groups c.copy.new.to _ c.copy.ensures.after refl) (flat_roots n groups c.requires.labelled)
    c.climb_all.ensures.promised)
