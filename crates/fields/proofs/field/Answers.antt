-- One law for each answer.
use native.Mathlib.Omega.{arith}
use Rattle.fields.specs.Places.{kind_of}
use Rattle.fields.proofs.TurnLaws.{turn_cut, turn_cut_body, turn}
use Rattle.fields.proofs.field.Goals as goal
use Rattle.fields.proofs.field.Goals.{then-left-lt3-via-then-left-lt3, then-left-lt3-via-else-left-lt3+then-left-body_len}

pub returns-then-left-lt3 : goal.returns-then-left-lt3
returns-then-left-lt3 c =
    let s = c.args.s.now in
    let kind = kind_of c.args.kind in
    elim c.then-left-lt3.branch [
      | then-left-lt3-via-then-left-lt3 w ↦ turn_cut s c.args.p (omega arith) kind (omega arith)
      | then-left-lt3-via-else-left-lt3+then-left-body_len w ↦ turn_cut_body s c.args.p (omega arith) kind (omega arith) (omega arith)
    ]

pub returns : goal.returns
returns c =
    turn c.args.s.now c.args.p (omega arith) (kind_of c.args.kind) c.whole_field.result (omega arith) c.whole_field.ensures
