-- Seen sets, keys by whether they grow, and rounds.
use Rattle.std.proofs.Common.{ℕ, true, false, ◌≤◌, length, arith, sym, subst}
use Rattle.base.specs.Limits.{state_limit}
use Rattle.base.proofs.Fills.{cut}
use Rattle.indexed.specs.Trees.{Arrays}
use Rattle.indexed.specs.Passes.{SeenSets, KeysWhere}
use Rattle.functions.proofs.FLaws.{joined_by_seen}
use Rattle.functions.proofs.join_by_seen.Goals as goal

pub returns : goal.returns
returns c =
    let n = length c.args.groups.now in
    let tree = c.args.tree in
    let few : n ≤ state_limit = omega arith in
    let arrays = subst (λ (m : ℕ). Arrays m tree.parents.now tree.names.now) (sym c.requires.size) tree.arrays in
    let sets = c.seen_sets.new.seen in
    let seen = subst (λ (m : ℕ). SeenSets m tree.parents.now tree.names.now sets) (sym (cut n 0 few)) c.seen_sets.ensures in
    let size = seen.size in
    let enlarging =
    subst (λ (m : ℕ). KeysWhere m true tree.parents.now tree.names.now sets c.seen_keys.new.enlarging) size
    c.seen_keys.ensures.enlarging in
    let others =
    subst (λ (m : ℕ). KeysWhere m false tree.parents.now tree.names.now sets c.seen_keys.new.others) size
    c.seen_keys.ensures.others in
    joined_by_seen n _ _ _ sets _ _ _ arrays seen enlarging others c.finish.ensures
