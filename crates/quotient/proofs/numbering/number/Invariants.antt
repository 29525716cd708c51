-- The first i groups met are looked at, and their arcs counted. The measure is what is left of the groups.
use Rattle.std.proofs.Common.{length, ◌+◌, ◌*◌, ◌-◌, ◌≡◌, ◌≤◌, ℕ, List}
use Rattle.model.specs.Classes.{Word}
use Rattle.model.specs.Joinings.{tree_of}
use Rattle.model.specs.Quotients.{states_of}
use Rattle.model.specs.Tables.{arc_count}
use Rattle.quotient.specs.Gathered.{Gathered}
use Rattle.quotient.proofs.MetLaws.{Numbering}
use Rattle.quotient.proofs.StatePieces.{states_from}
use Rattle.quotient.proofs.numbering.number.Given as goal

-- the first i groups met are looked at, and their arcs counted
pub record Counting (rows : List Word) (groups met numbers : List ℕ) (count arcs i : ℕ) : Type 0 where
  pub numbering : Numbering rows groups met numbers i count
  pub counted : arcs + arc_count (states_from rows groups i) ≡ arc_count (states_of rows (tree_of rows) groups)

abbrev pub invariant-loop-i : goal.invariant-loop-i
invariant-loop-i l = record {
  room : l.count ≤ length l.groups;
  few : l.arcs ≤ 64 * l.i;
  so_far :
      (rows : List Word) → Gathered rows l.groups l.work l.next →
      Counting rows l.groups l.order l.numbers l.count l.arcs l.i;
}

abbrev pub decreases-loop-i : goal.decreases-loop-i
decreases-loop-i l = length l.groups - l.i
