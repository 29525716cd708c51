use mathlib.Core.Path.{◌≡◌, sym, ap, ◌∙◌, subst}
use mathlib.Core.Bool.{◌||◌}
use Prim.Native.Nat.{ℕ, suc, ◌<◌, ◌≤◌}
use native.Mathlib.Omega.{arith}
use lib.ListN.{length, get_or}
use Rattle.base.specs.Limits.{state_limit}
use Rattle.indexed.proofs.Suffixes.{parent_below}
use Rattle.partition.specs.Forests.{roots_of}
use Rattle.worklist.specs.Lists.{plus_one}
use Rattle.contexts.specs.Sweeps.{Falling}
use Rattle.contexts.specs.Joins.{Live, PairJoined}
use Rattle.contexts.proofs.JoinLaws.{Chaining, come-to, chaining-more, chaining_done}
use Rattle.contexts.proofs.TreeLaws.{tree-arrays}
use Rattle.contexts.proofs.joins.Pairs.join_chain.Goals as goal
use Rattle.contexts.proofs.joins.Pairs.join_chain.Goals.{In-Some}

-- the chain of an arc leads down
falls : (c : In-Some) → Falling c.args.self.now.links.now (get_or c.args.self.now.links.now c.args.v 0) (length c.args.groups.now)
falls c =
    let links = c.args.self.now.links.now in
    let size = c.requires.size in
    subst (λ (k : ℕ). Falling links (get_or links c.args.v 0) k) (sym size)
    (c.args.self.now.chains.falling c.args.v (omega (arith, size, c.requires.inside)))

-- so it has come to an arc, which leads into a state, and links to an earlier one
come : (c : In-Some) →
    (c.in-Some.w < length c.args.groups.now) × (get_or c.args.self.now.links.now c.in-Some.w 0 ≤ c.in-Some.w)
come c = come-to (falls c) (ap plus_one c.in-Some.is) c.loop-at.invariant.chaining

low : (c : In-Some) → c.in-Some.w < state_limit
low c =
    let view = c.args.self.now.view in
    omega (arith, (come c).0, (tree-arrays (c.requires.size ∙ view.size) view.tree.arrays).few_states)

pub join_pair-joined-requires-clause-w_inside : goal.join_pair-joined-requires-clause-w_inside
join_pair-joined-requires-clause-w_inside c =
    omega (arith, (come (goal.at.join_pair-joined-requires-clause-w_inside c).In-Some).0)

pub offset_bounds-self-w : goal.offset_bounds-self-w
offset_bounds-self-w c = omega (arith, low (goal.at.offset_bounds-self-w c).In-Some)

pub bounds-self-w : goal.bounds-self-w
bounds-self-w c = omega (arith, low (goal.at.bounds-self-w c).In-Some)

pub loop-at-smaller : goal.loop-at-smaller
loop-at-smaller c =
    let is : plus_one c.loop-at.at ≡ suc c.in-Some.w = ap plus_one c.in-Some.is in
    omega (arith, (come (goal.at.loop-at-smaller c).In-Some).1, c.arc_of-at-in-Some.ensures, is)

pub loop-at-preserved : goal.loop-at-preserved
loop-at-preserved c =
    let loop = c.loop-at in
    let view = c.args.self.now.view in
    let parents = view.tree.parents.now in
    let names = view.tree.names.now in
    let n = length c.args.groups.now in
    let pair = c.join_pair-joined in
    let last = pair.new in
    let size = loop.auto.groups in
    let pair-here =
    subst (λ (k : ℕ). PairJoined k view.j parents names view.old.now c.args.v c.in-Some.w (roots_of loop.groups)
    (roots_of last.groups) pair.result) size pair.ensures.pair in
    let more =
    chaining-more (falls (goal.at.loop-at-preserved c).In-Some) (ap plus_one c.in-Some.is) loop.invariant.chaining
    (parent_below n parents names (tree-arrays (c.requires.size ∙ view.size) view.tree.arrays)) c.requires.inside pair-here in
    record {
      live =
          subst (λ (k : ℕ). Live k parents names c.args.self.now.numbers.now last.groups last.forks.lists.links
          last.forks.lists.heads last.forks.queue.firsts last.forks.queue.seconds) size pair.ensures.live;
      chaining =
          subst (λ (k : ℕ). Chaining n view.j parents names view.old.now c.args.self.now.links.now c.args.v
          (roots_of c.args.groups.now) k (roots_of last.groups) (loop.joined || pair.result)) (sym c.arc_of-at-in-Some.ensures)
          more;
    }

pub returns-clause-chain : goal.returns-clause-chain
returns-clause-chain c = chaining_done (ap plus_one c.in_default.is) c.loop-at.invariant.chaining
