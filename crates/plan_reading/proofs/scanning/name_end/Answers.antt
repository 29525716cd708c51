use Prim.Native.Nat.{◌<◌}
use native.Mathlib.Omega.{arith}
use lib.ListN.{length}
use Rattle.plan_reading.proofs.ScanLaws.{naming_none, naming_start, naming_more}
use Rattle.plan_reading.proofs.scanning.name_end.Goals as goal
use Rattle.plan_reading.proofs.scanning.name_end.Goals.{then-s-at-via-then-s-at, then-s-at-via-else-s-at+then-not-starts_name}

pub returns-then-s-at : goal.returns-then-s-at
returns-then-s-at c =
    elim c.then-s-at.branch [
      | then-s-at-via-then-s-at w ↦
          naming_none c.args.s.now c.args.at c.requires (λ (h : c.args.at < length c.args.s.now). absurd (omega arith))
      | then-s-at-via-else-s-at+then-not-starts_name w ↦
          let test = w.if-not-starts_name.true in
          let e = w.starts_name.ensures in
          naming_none c.args.s.now c.args.at c.requires (λ (h : c.args.at < length c.args.s.now). cc)
    ]

pub loop-i-init : goal.loop-i-init
loop-i-init c =
    let test = c.if-not-starts_name.false in
    let e = c.starts_name.ensures in
    naming_start c.args.s.now c.args.at (omega arith) (cc)

pub loop-i-preserved : goal.loop-i-preserved
loop-i-preserved c =
    let test = c.if-not-continues_name.false in
    let e = c.continues_name.ensures in
    naming_more c.args.s.now c.args.at c.loop-i.i c.loop-i.invariant (omega arith) (omega arith) (cc)
