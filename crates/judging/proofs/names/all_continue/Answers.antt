use mathlib.Core.Path.{◌≡◌, ◌∙◌, ap}
use Prim.Native.Nat.{ℕ}
use native.Mathlib.Omega.{arith}
use lib.ListN.{length, take}
use lib.Seq.{take-length}
use Rattle.std.specs.List.{list_all}
use Rattle.model.specs.Fields.{continues_name}
use Rattle.judging.proofs.NameLaws.{all_is}
use Rattle.judging.proofs.names.all_continue.Goals as goal

pub returns : goal.returns
returns c =
    let bytes = c.args.bytes.now in
    let ended : c.loop-b.b-index ≡ length bytes = omega arith in
    c.loop-b.invariant ∙ ap (λ (n : ℕ). list_all continues_name (take n bytes)) ended
    ∙ ap (list_all continues_name) (take-length bytes) ∙ all_is continues_name bytes
