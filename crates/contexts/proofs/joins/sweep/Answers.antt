-- The groups that are read are those copied, and the arcs are those linked.
use mathlib.Core.Path.{◌≡◌, sym, ap, ◌∙◌, subst, subst₂}
use mathlib.Core.List.{List}
use Prim.Native.Nat.{ℕ, suc, ◌-◌}
use native.Mathlib.Omega.{arith}
use lib.ListN.{length}
use Rattle.base.specs.Lists.{numbers_from}
use Rattle.indexed.specs.Partitions.{Refines, ForkClosed}
use Rattle.partition.specs.Forests.{roots_of}
use Rattle.partition.proofs.ForestLaws.{flat_forest, flat_roots}
use Rattle.worklist.specs.Forks.{Kept}
use Rattle.contexts.specs.Sweeps.{ArcsReady}
use Rattle.contexts.specs.Joins.{PairsJoined}
use Rattle.contexts.proofs.ForkLaws.{kept-forks}
use Rattle.indexed.proofs.Chains.{heads_none}
use Rattle.contexts.proofs.NearLaws.{arcs_none}
use Rattle.contexts.proofs.ReadyLaws.{arcs_fall}
use Rattle.contexts.proofs.SweepLaws.{pairs-sweep}
use Rattle.contexts.proofs.TreeLaws.{tree-arrays, tree-above}
use Rattle.contexts.proofs.joins.sweep.Goals as goal

-- all arcs of the groups at first
ready :
    (j : ℕ) (parents names classes groups before dist next links heads : List ℕ) → before ≡ groups →
    ArcsReady (length before) j parents names classes before dist next links heads →
    ArcsReady (length groups) j parents names classes groups dist next links heads
ready j parents names classes groups before dist next links heads same =
    subst (λ (l : List ℕ). ArcsReady (length l) j parents names classes l dist next links heads) same

pub distances-dist-requires-clause-above : goal.distances-dist-requires-clause-above
distances-dist-requires-clause-above c = tree-above c.requires.size c.args.tree.arrays

-- no arc is linked at first
pub link_all-requires : goal.link_all-requires
link_all-requires c = record { none = arcs_none (heads_none 512) (heads_none 512) (heads_none 512) }

pub invariant_of-pairs-clause-own : goal.invariant_of-pairs-clause-own
invariant_of-pairs-clause-own c =
    c.requires.own ∙ ap (λ (l : List ℕ). numbers_from (length l) 0) (sym c.copy.ensures.after)

pub invariant_of-pairs-clause-telling : goal.invariant_of-pairs-clause-telling
invariant_of-pairs-clause-telling c = c.names_ahead-ahead.ensures c.link_all.ensures.linked

pub invariant_of-pairs-clause-chains : goal.invariant_of-pairs-clause-chains
invariant_of-pairs-clause-chains c =
    let size : length c.link_all.new.self.links ≡ 512 = c.link_all.new.self.size in
    record {
      size = omega (arith, c.copy.ensures.len, c.requires.before_size, c.requires.size, c.args.tree.arrays.few_states);
      falling = arcs_fall c.link_all.ensures;
    }

pub join_all-joined-requires-clause-live : goal.join_all-joined-requires-clause-live
join_all-joined-requires-clause-live c =
    let groups = c.args.groups.now in
    let n = length groups in
    let labels = c.requires.kept.labelled in
    let forks = c.args.forks.now in
    record {
      forest = flat_forest n groups labels;
      kept =
          subst (λ (l : List ℕ). Kept n c.args.tree.parents.now c.args.tree.names.now c.args.numbers.now l forks.lists.links
          forks.lists.heads forks.queue.firsts forks.queue.seconds 0) (sym (flat_roots n groups labels)) c.requires.kept;
    }

pub join_all-joined-requires-clause-coarser : goal.join_all-joined-requires-clause-coarser
join_all-joined-requires-clause-coarser c =
    let groups = c.args.groups.now in
    let n = length groups in
    subst₂ (λ (a b : List ℕ). Refines n a b) (sym c.copy.ensures.after)
    (sym (flat_roots n groups c.requires.kept.labelled)) (λ v w hv hw one. one)

pub returns-clause-swept : goal.returns-clause-swept
returns-clause-swept c =
    let parents = c.args.tree.parents.now in
    let names = c.args.tree.names.now in
    let groups = c.args.groups.now in
    let n = length groups in
    let j = c.args.m - 1 in
    let labels = c.requires.kept.labelled in
    let arrays = tree-arrays c.requires.size c.args.tree.arrays in
    let same = c.copy.ensures.after in
    let joins = c.join_all-joined in
    let arcs = c.link_all.new.self in
    let m-is : suc j ≡ c.args.m = omega (arith, c.requires.some) in
    let fork : ForkClosed n parents names groups =
    kept-forks n parents names c.args.numbers.now arrays c.requires.own groups c.args.forks.now.lists.links c.args.forks.now.lists.heads
    c.args.forks.now.queue.firsts c.args.forks.now.queue.seconds 0 c.requires.kept in
    let all : PairsJoined n n j parents names groups arcs.links groups c.flatten.new.above joins.result =
    subst (λ (l : List ℕ). PairsJoined n n j parents names groups arcs.links groups l joins.result) (sym c.flatten.ensures)
    (subst₂ (λ (a b : List ℕ). PairsJoined n n j parents names a arcs.links b (roots_of joins.new.groups) joins.result)
    same (flat_roots n groups labels) joins.ensures.pairs) in
    pairs-sweep arrays labels fork
    (ready j parents names c.args.classes.now groups c.copy.new.to c.distances-dist.result arcs.next arcs.links
    arcs.heads same c.link_all.ensures)
    c.distances-dist.ensures all m-is same
