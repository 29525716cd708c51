-- Each name has six bytes.
use Rattle.std.proofs.Common.{◌≡◌, ◌*◌}
use Rattle.worked_days.proofs.parts.named.Given as goal

abbrev pub invariant-loop-i : goal.invariant-loop-i
invariant-loop-i l = l.file.len ≡ 6 * l.i
