-- Codes, the names before them, and rounds.
use Rattle.std.proofs.Common.{ℕ, ◌≤◌, length, arith, sym, subst}
use Rattle.base.specs.Limits.{name_limit, state_limit}
use Rattle.base.proofs.Fills.{cut}
use Rattle.std.proofs.Math.ListN.{get_or-replicate}
use Rattle.indexed.specs.Trees.{Arrays}
use Rattle.indexed.specs.Passes.{NamesAbove}
use Rattle.suffixes.specs.Codes.{Coded}
use Rattle.suffixes.proofs.AboveLaws.{codes-alike}
use Rattle.functions.proofs.FLaws.{joined_by_last}
use Rattle.functions.proofs.join_by_last.Goals as goal

pub returns : goal.returns
returns c =
    let n = length c.args.groups.now in
    let tree = c.args.tree in
    let few : n ≤ state_limit = omega arith in
    let arrays = subst (λ (m : ℕ). Arrays m tree.parents.now tree.names.now) (sym c.requires.size) tree.arrays in
    let made = c.codes_and_names_above in
    let codes =
    subst (λ (m : ℕ). Coded m c.args.j tree.parents.now tree.names.now made.new.values) (sym (cut n 0 few)) made.ensures.coded in
    let above =
    subst (λ (m : ℕ). NamesAbove m c.args.j tree.parents.now tree.names.now made.new.keys) (sym (cut n 0 few)) made.ensures.above in
    joined_by_last n c.args.j _ _ _ made.new.values made.new.keys _ _ arrays
    (codes-alike n c.args.j _ _ _ arrays codes) above (λ v h. get_or-replicate n v name_limit 0 h) c.finish.ensures
