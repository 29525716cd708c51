use mathlib.Core.Path.{sym, ◌∙◌, subst}
use Prim.Native.Nat.{ℕ, ◌<◌}
use native.Mathlib.Omega.{arith}
use lib.ListN.{length}
use Rattle.partition.specs.Forests.{roots_of}
use Rattle.contexts.specs.Joins.{Live, Chains, ChainJoined}
use Rattle.contexts.proofs.JoinLaws.{pairs_more}
use Rattle.contexts.proofs.TreeLaws.{tree-arrays}
use Rattle.contexts.proofs.joins.Pairs.join_all.Goals as goal

pub loop-v-preserved : goal.loop-v-preserved
loop-v-preserved c =
    let loop = c.loop-v in
    let view = c.args.self.now.view in
    let parents = view.tree.parents.now in
    let names = view.tree.names.now in
    let arc = c.join_chain-joined in
    let last = arc.new in
    let size = loop.auto.groups in
    let inside : loop.v < length c.args.groups.now = omega (arith, c.loop-v-test.true, c.requires.size) in
    let chain =
    subst (λ (k : ℕ). ChainJoined k view.j parents names view.old.now c.args.self.now.links.now loop.v (roots_of loop.groups)
    (roots_of last.groups) arc.result) size arc.ensures.chain in
    record {
      live =
          subst (λ (k : ℕ). Live k parents names c.args.self.now.numbers.now last.groups last.forks.lists.links
          last.forks.lists.heads last.forks.queue.firsts last.forks.queue.seconds) size arc.ensures.live;
      pairs = pairs_more (tree-arrays (c.requires.size ∙ view.size) view.tree.arrays)
          (subst (λ (k : ℕ). Chains k c.args.self.now.links.now) (sym c.requires.size) c.args.self.now.chains) inside
          loop.invariant.pairs chain;
    }
