use mathlib.Core.Path.{sym, ◌∙◌}
use Prim.Native.Nat.{◌<◌}
use native.Mathlib.Omega.{arith}
use lib.ListN.{length}
use Rattle.plan_reading.proofs.PieceLaws.{name_bad}
use Rattle.plan_reading.proofs.pieces.tag_name.Goals as goal
use Rattle.plan_reading.proofs.pieces.tag_name.Goals.{else-at-end-via-then-at-end+then-end-plan+else-follows_name}
use Rattle.plan_reading.proofs.pieces.tag_name.Goals.{else-at-end-via-then-at-end+else-end-plan, else-at-end-via-else-at-end}

pub returns : goal.returns
returns c =
    let s = c.args.plan.now in
    let at = c.args.at in
    let name = c.name_end-end in
    name_bad s at name.result name.ensures c.requires
    (λ (some : at < name.result) (h : name.result < length s).
    elim c.else-at-end.branch [
      | else-at-end-via-then-at-end+then-end-plan+else-follows_name w ↦ sym w.follows_name.ensures ∙ w.if-follows_name.false
      | else-at-end-via-then-at-end+else-end-plan w ↦ absurd (omega arith)
      | else-at-end-via-else-at-end w ↦ absurd (omega arith)
    ])
