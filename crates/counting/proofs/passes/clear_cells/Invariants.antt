-- Before v all cells are cleared.
use Rattle.counting.specs.PassCells.{CellsClear}
use Rattle.counting.proofs.passes.clear_cells.Given as goal

abbrev pub invariant-loop-v : goal.invariant-loop-v
invariant-loop-v l = CellsClear l.v l.tree.parents.now l.tree.names.now l.groups l.work
