use native.Mathlib.Omega.{arith}
use lib.ListN.{length, replicate}
use Rattle.contexts.proofs.AheadLaws.{all_ones, ones_tell, two_names_tell}
use Rattle.contexts.proofs.TreeLaws.{tree-arrays}
use Rattle.contexts.proofs.ahead.names_ahead.Goals as goal

pub returns-then-view-lt2 : goal.returns-then-view-lt2
returns-then-view-lt2 c =
    let view = c.args.view in
    λ linked. ones_tell (length view.old.now) view.j view.tree.parents.now view.tree.names.now view.old.now (replicate 512 1)
    view.labelled
    (tree-arrays view.size view.tree.arrays).few_states (all_ones 512)

pub returns : goal.returns
returns c =
    let view = c.args.view in
    λ linked. two_names_tell c.two_names.new.ahead (tree-arrays view.size view.tree.arrays) linked c.two_names.ensures view.j
    (omega (arith, c.if-view-lt2.false))
