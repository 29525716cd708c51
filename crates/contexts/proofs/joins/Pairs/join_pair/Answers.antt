use mathlib.Core.Path.{◌≡◌, sym, ap, ◌∙◌, subst}
use mathlib.Core.Logic.{⊎_elim}
use mathlib.Core.Bool.{true, true≢false}
use mathlib.Core.List.{List}
use Prim.Native.Nat.{ℕ, suc, ◌-◌, ◌<◌}
use native.Mathlib.Omega.{arith}
use lib.ListN.{length, get_or}
use Rattle.indexed.specs.Trees.{Arrays}
use Rattle.indexed.specs.Partitions.{Labelled, Share}
use Rattle.partition.specs.Forests.{roots_of}
use Rattle.worklist.specs.Settling.{Kind}
use Rattle.worklist.specs.Forks.{Nothing, ForkLists, ForksReady}
use Rattle.worklist.proofs.SearchLaws.{share_groups}
use Rattle.contexts.proofs.AheadLaws.{next_common}
use Rattle.contexts.proofs.ForkLaws.{forks-ready}
use Rattle.contexts.proofs.JoinLaws.{share_refines, pair_left, pair_joined}
use Rattle.base.specs.Lists.{numbers_from}
use Rattle.contexts.proofs.TreeLaws.{tree-arrays}
use Rattle.contexts.proofs.joins.Pairs.join_pair.Goals as goal
use Rattle.contexts.proofs.joins.Pairs.join_pair.Goals.{Start}

-- the tree, by the number of groups
arrays : (c : Start) →
    Arrays (length c.args.groups.now) c.args.self.now.view.tree.parents.now c.args.self.now.view.tree.names.now
arrays c =
    let view = c.args.self.now.view in
    tree-arrays (c.requires.size ∙ view.size) view.tree.arrays

-- the states' own numbers, as many as there are groups
own : (c : Start) → c.args.self.now.numbers.now ≡ numbers_from (length c.args.groups.now) 0
own c = c.args.self.now.own ∙ ap (λ (k : ℕ). numbers_from k 0) (sym c.requires.size)

-- so they can tell arcs
ready : (c : Start) →
    ForksReady (length c.args.groups.now) c.args.self.now.view.tree.parents.now c.args.self.now.view.tree.names.now
    c.args.self.now.numbers.now
ready c =
    let tree = c.args.self.now.view.tree in
    forks-ready (length c.args.groups.now) tree.parents.now tree.names.now c.args.self.now.numbers.now (arrays c) (own c)

-- the lists of arcs, for the search
lists : (c : Start) →
    ForkLists (length c.args.groups.now) c.args.self.now.view.tree.parents.now c.args.self.now.view.tree.names.now
    (roots_of c.args.groups.now) c.args.forks.now.lists.links c.args.forks.now.lists.heads
lists c =
    let tree = c.args.self.now.view.tree in
    let lists = c.args.forks.now.lists in
    let kept = c.requires.live.kept in
    record {
      rows = kept.rows;
      kind =
          subst (λ (l : List ℕ). Kind (length c.args.groups.now) tree.parents.now l tree.names.now (roots_of c.args.groups.now)
          kept.rows lists.links lists.heads Nothing) (own c) kept.kind;
    }

-- a root that is found has the group of its state
same-group :
    (n : ℕ) (roots : List ℕ) (u r : ℕ) → Labelled n roots → u < n → r ≡ get_or roots u 0 →
    get_or roots r 0 ≡ get_or roots u 0
same-group n roots u r labels hu is = ap (λ (z : ℕ). get_or roots z 0) is ∙ labels.own u hu

-- the sets tell that no names could be walked
pub returns-then-apart-clause-pair : goal.returns-then-apart-clause-pair
returns-then-apart-clause-pair c =
    let pairs = c.args.self.now in
    let j = pairs.view.j in
    let old = pairs.view.old.now in
    let parents = pairs.view.tree.parents.now in
    let names = pairs.view.tree.names.now in
    let n = length old in
    let size = c.requires.size in
    let j-is : j ≡ suc (j - 1) = omega (arith, pairs.some) in
    pair_left c.requires.live.kept.labelled
    (λ shared.
    let here : Share n parents names old j c.args.v c.args.w =
    subst (λ (k : ℕ). Share k parents names old j c.args.v c.args.w) size shared in
    absurd
    (⊎_elim
    (pairs.telling c.args.v c.args.w (omega (arith, size, c.requires.v_inside)) (omega (arith, size, c.requires.w_inside)) here)
    (next_common n (j - 1) parents names old pairs.next.now pairs.leave c.args.v c.args.w
    (subst (λ (i : ℕ). Share n parents names old i c.args.v c.args.w) j-is here))
    (c.apart.ensures c.if-apart.true)))

-- no names can be walked
pub returns-then-not-lead_on-clause-pair : goal.returns-then-not-lead_on-clause-pair
returns-then-not-lead_on-clause-pair c =
    let s = (goal.at.returns-then-not-lead_on-clause-pair c).Start in
    let n = length c.args.groups.now in
    let view = c.args.self.now.view in
    let parents = view.tree.parents.now in
    let names = view.tree.names.now in
    let roots = roots_of c.args.groups.now in
    let labels = c.requires.live.kept.labelled in
    let into = c.root-into.result in
    let other = c.root-other.result in
    pair_left labels
    (λ shared.
    let leads : c.lead_on.result ≡ true =
    (c.lead_on.ensures parents (arrays s) (lists s)).1
    (share_groups n parents names roots view.j c.args.v c.args.w into other
    (sym (same-group n roots c.args.v into labels c.requires.v_inside c.root-into.ensures.value))
    (sym (same-group n roots c.args.w other labels c.requires.w_inside c.root-other.ensures.value))
    (share_refines n parents names view.old.now roots (arrays s) c.requires.coarser view.j c.args.v c.args.w
    c.requires.v_inside c.requires.w_inside shared)) in
    absurd (true≢false (sym leads ∙ c.if-not-lead_on.true)))

pub join_two-requires-clause-kept : goal.join_two-requires-clause-kept
join_two-requires-clause-kept c =
    (c.args.self.now.view.tree.parents.now, ready (goal.at.join_two-requires-clause-kept c).Start, c.requires.live.kept)

pub returns-clause-pair : goal.returns-clause-pair
returns-clause-pair c =
    let s = (goal.at.returns-clause-pair c).Start in
    let n = length c.args.groups.now in
    let view = c.args.self.now.view in
    let parents = view.tree.parents.now in
    let names = view.tree.names.now in
    let roots = roots_of c.args.groups.now in
    let labels = c.requires.live.kept.labelled in
    let into = c.root-into.result in
    let other = c.root-other.result in
    let found : Share n parents names roots view.j c.args.v c.args.w =
    share_groups n parents names roots view.j into other c.args.v c.args.w
    (same-group n roots c.args.v into labels c.requires.v_inside c.root-into.ensures.value)
    (same-group n roots c.args.w other labels c.requires.w_inside c.root-other.ensures.value)
    ((c.lead_on.ensures parents (arrays s) (lists s)).0 c.if-not-lead_on.false) in
    let joined = c.join_two.ensures parents (ready s) c.requires.live.kept in
    pair_joined c.root-x.result c.root-y.result (arrays s) (own s) labels c.requires.v_inside c.requires.w_inside
    c.root-x.ensures.value c.root-y.ensures.value c.if-x-y.false found joined.until

pub returns-clause-live : goal.returns-clause-live
returns-clause-live c =
    let joined =
    c.join_two.ensures c.args.self.now.view.tree.parents.now (ready (goal.at.returns-clause-live c).Start) c.requires.live.kept in
    record { forest = joined.forest; kept = joined.kept }
