-- The field with the turn's number begins at the offset reached.
use Rattle.std.proofs.Common.{◌≡◌}
use Rattle.judging.specs.Offsets.{offset_at}
use Rattle.judging.proofs.names.name_at.Given as goal

abbrev pub invariant-loop : goal.invariant-loop
invariant-loop l = l.at ≡ offset_at l.list 0 l.counter
