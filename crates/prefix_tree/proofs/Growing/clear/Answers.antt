use native.Mathlib.Omega.{arith}
use lib.Seq.{get_or-set_same}
use Rattle.prefix_tree.proofs.GrowthLaws.{begun-grown}
use Rattle.prefix_tree.proofs.Growing.clear.Goals as goal

pub returns : goal.returns
returns c =
    λ work.
    begun-grown _
    (get_or-set_same _ 0 _ 0 (omega arith))
    (get_or-set_same _ 0 _ 0 (omega arith))
    (get_or-set_same _ 0 _ 0 (omega arith))
