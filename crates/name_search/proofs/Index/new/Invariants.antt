-- The i-th field begins at the offset reached, and the offsets of those before it are noted.
use Rattle.std.proofs.Common.{◌≡◌, ◌≤◌, ◌<◌, ℕ, get_or, length}
use Rattle.base.specs.Limits.{name_limit}
use Rattle.judging.specs.Offsets.{offset_at}
use Rattle.name_search.proofs.Index.new.Given as goal

abbrev pub invariant-loop-i : goal.invariant-loop-i
invariant-loop-i l = record {
  room : name_limit ≤ length l.starts;
  at_is : l.at ≡ offset_at l.list 0 l.i;
  begins : (v : ℕ) → v < l.i → get_or l.starts v 0 ≡ offset_at l.list 0 v;
}
