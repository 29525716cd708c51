-- The last digits of `left` are still to be written before i, and those from i on are written.
use Rattle.writing.proofs.Digits.{DigitsLeft}
use Rattle.writing.proofs.decimals.put_decimal.Given as goal

abbrev pub invariant-loop-i : goal.invariant-loop-i
invariant-loop-i l = DigitsLeft l.initial.out l.at l.value l.out l.i l.left
