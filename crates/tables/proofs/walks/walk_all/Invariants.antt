-- Walking the whole row comes to walking on from here with the names still to come.
use Rattle.model.specs.Calls.{table_states}
use Rattle.endings.specs.Live.{trimmed}
use Rattle.tables.proofs.WalkLaws.{Walking}
use Rattle.tables.proofs.walks.walk_all.Given as goal

abbrev pub invariant-loop-name : goal.invariant-loop-name
invariant-loop-name l = Walking (trimmed (table_states l.table.s.now)) l.row l.walk l.name-index
