-- The classes of equal codes, those of short codes dropped.
use Rattle.std.proofs.Common.{ℕ, ◌≤◌, length, arith, sym, subst}
use mathlib.Core.Path.{subst₂}
use Rattle.base.specs.Limits.{state_limit}
use Rattle.base.proofs.Fills.{cut}
use Rattle.indexed.specs.Trees.{Arrays}
use Rattle.suffixes.specs.Codes.{Coded}
use Rattle.suffixes.specs.Classes.{Dropped}
use Rattle.suffixes.proofs.ClassLaws.{dropped_classes}
use Rattle.suffixes.proofs.suffix_classes.Goals as goal

pub returns : goal.returns
returns c =
    let tree = c.args.tree in
    let few : length c.args.classes.now ≤ state_limit = omega arith in
    dropped_classes _ c.args.i tree.parents.now tree.names.now c.codes.new.values c.classes_of.new.classes _
    (subst (λ (n : ℕ). Arrays n tree.parents.now tree.names.now) (sym c.requires.size) tree.arrays)
    (subst (λ (n : ℕ). Coded n c.args.i tree.parents.now tree.names.now c.codes.new.values) (sym (cut _ 0 few)) c.codes.ensures)
    c.classes_of.ensures.classes
    (subst₂ (λ (n bound : ℕ). Dropped n bound c.codes.new.values c.classes_of.new.classes c.drop_short.new.classes)
    c.classes_of.ensures.classes.labelled.size c.least_code.ensures c.drop_short.ensures)
