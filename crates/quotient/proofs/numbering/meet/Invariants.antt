-- What is left of the set is still to be met.
use Rattle.std.proofs.Common.{ℕ, List}
use Rattle.quotient.specs.Numbered.{Meeting}
use Rattle.quotient.proofs.numbering.meet.Given as goal

abbrev pub invariant-loop-name : goal.invariant-loop-name
invariant-loop-name l =
    (n : ℕ) (after : List ℕ) →
    Meeting n l.work l.row l.names l.initial.order l.initial.numbers l.count after →
    Meeting n l.work l.row l.name-iterator.left l.order l.numbers l.reached after
