-- So far all bytes may stand in a name, or not.
use Rattle.std.proofs.Common.{◌≡◌, take}
use Rattle.std.specs.List.{list_all}
use Rattle.model.specs.Fields.{continues_name}
use Rattle.judging.proofs.names.all_continue.Given as goal

abbrev pub invariant-loop-b : goal.invariant-loop-b
invariant-loop-b l = l.good ≡ list_all continues_name (take l.b-index l.bytes)
