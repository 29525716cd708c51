-- The classes of equal codes.
use Rattle.std.proofs.Common.{ℕ, ◌≤◌, length, arith, sym, subst}
use Rattle.base.specs.Limits.{state_limit}
use Rattle.base.proofs.Fills.{cut}
use Rattle.indexed.specs.Trees.{Arrays}
use Rattle.suffixes.specs.Codes.{Coded}
use Rattle.suffixes.proofs.ClassLaws.{coded_by_suffix}
use Rattle.suffixes.proofs.by_suffix.Goals as goal

pub returns-clause-by : goal.returns-clause-by
returns-clause-by c =
    let tree = c.args.tree in
    let few : length c.args.groups.now ≤ state_limit = omega arith in
    coded_by_suffix _ c.args.k tree.parents.now tree.names.now c.codes.new.values _
    (subst (λ (n : ℕ). Arrays n tree.parents.now tree.names.now) (sym c.requires.size) tree.arrays)
    (subst (λ (n : ℕ). Coded n c.args.k tree.parents.now tree.names.now c.codes.new.values) (sym (cut _ 0 few)) c.codes.ensures)
    c.classes_of.ensures.classes
