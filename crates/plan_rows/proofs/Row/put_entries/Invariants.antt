-- The rest of the row is left to write.
use Rattle.writing.proofs.TextLaws.{Writing}
use Rattle.plan_rows.specs.Rows.{entries_of}
use Rattle.plan_rows.proofs.Row.put_entries.Given as goal

abbrev pub invariant-loop-number : goal.invariant-loop-number
invariant-loop-number l = Writing l.initial.out l.at (entries_of l.fn.self) l.out l.next (entries_of l.number-iterator)
