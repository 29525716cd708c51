use mathlib.Core.List.{[], ◌∷◌}
use Rattle.writing.proofs.TextLaws.{goes}
use Rattle.plan_rows.specs.Rows.{entries_of}
use Rattle.plan_rows.proofs.Row.put_entries.Goals as goal

pub loop-number-preserved : goal.loop-number-preserved
loop-number-preserved c =
    goes (c.in-Some.number ∷ []) (entries_of c.next.new.self) (rw c.in-Some.ensures.steps at c.loop-number.invariant)
    c.put_byte-next.ensures
