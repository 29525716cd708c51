-- The offset is that of state i's field, and the lines from state i on are left.
use mathlib.Core.Path.{◌≡◌}
use Rattle.model.specs.Calls.{table_states}
use Rattle.judging.specs.Offsets.{offset_at}
use Rattle.listings.specs.Texts.{names_at}
use Rattle.listings.proofs.LineLaws.{StatesWriting}
use Rattle.listings.proofs.put_states.Given as goal

abbrev pub invariant-loop-i : goal.invariant-loop-i
invariant-loop-i l =
    (l.from ≡ offset_at l.table.bytes.now l.table.place.start l.i)
    × StatesWriting (names_at l.table.bytes.now l.table.place) (table_states l.table.bytes.now) l.initial.text l.at l.text l.next l.i
