-- The arcs that are still to be read are left to write.
use Rattle.tables.specs.Arcs.{arcs_left}
use Rattle.listings.specs.Texts.{names_at, state_at}
use Rattle.listings.proofs.LineLaws.{ArcsWriting}
use Rattle.listings.proofs.arcs.put_arcs.Given as goal

abbrev pub invariant-loop-arc : goal.invariant-loop-arc
invariant-loop-arc l =
    ArcsWriting (names_at l.table.bytes.now l.table.place) (state_at l.table.bytes.now l.from).arcs l.initial.text l.at l.text l.next
    (arcs_left l.arc-iterator)
