-- The entries before the index are walked.
use Rattle.prefix_tree.specs.Growth.{held}
use Rattle.prefix_tree.proofs.StepLaws.{Walking}
use Rattle.prefix_tree.proofs.Growing.add_row.Given as goal

abbrev pub invariant-loop-name : goal.invariant-loop-name
invariant-loop-name l =
    Walking l.row l.initial.self.count (held l.initial.self l.initial.work) (held l.self l.work) l.self.count l.state l.name-index
