use mathlib.Core.Path.{refl}
use Rattle.prefix_tree.proofs.Growing.new.Goals as goal
use Rattle.prefix_tree.proofs.GrowthLaws.{begun-grown}

pub returns : goal.returns
returns c = λ work. begun-grown _ refl refl refl
