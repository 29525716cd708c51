-- The arrays hold the tree of the first i rows, and so many of them are different.
use Rattle.prefix_tree.specs.Growth.{held}
use Rattle.prefix_tree.proofs.StepLaws.{Adding}
use Rattle.prefix_tree.proofs.Growing.add_rows.Given as goal

abbrev pub invariant-loop : goal.invariant-loop
invariant-loop l = Adding l.book l.start l.items l.initial.work (held l.self l.work) l.self.count l.distinct l.at l.counter
