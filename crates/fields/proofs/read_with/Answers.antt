use native.Mathlib.Omega.{arith}
use Rattle.std.proofs.lemmas.Grind.{common_steps}
use Rattle.fields.specs.Places.{kind_of, settings_of}
use Rattle.fields.proofs.TurnLaws.{reading_begins, reading_goes, reading_refused, reading_accepted}
use Rattle.fields.proofs.TurnLaws.{reading_unfinished}
use Rattle.fields.proofs.read_with.Goals as goal

pub loop-p-init : goal.loop-p-init
loop-p-init c = reading_begins c.args.settings (kind_of c.args.kind) c.args.s.now

pub loop-p-smaller : goal.loop-p-smaller
loop-p-smaller c = omega (arith, c.in_ok-p.ensures.further, c.in_ok-p.ensures.sound.within)

pub loop-p-preserved : goal.loop-p-preserved
loop-p-preserved c =
    reading_goes (settings_of c.args.settings) (kind_of c.args.kind) c.args.s.now c.loop-p.p c.loop-p.invariant c.in_ok-p.p c.in_ok-p.ensures

pub returns-in_err-p : goal.returns-in_err-p
returns-in_err-p c =
    reading_refused (settings_of c.args.settings) (kind_of c.args.kind) c.args.s.now c.loop-p.p c.loop-p.invariant c.from_residual.result
    c.in_err-p.field-0.0 c.from_residual.ensures.1 c.in_err-p.ensures

pub returns-then-ne : goal.returns-then-ne
returns-then-ne c =
    reading_unfinished (settings_of c.args.settings) (kind_of c.args.kind) c.args.s.now c.loop-p.p c.loop-p.invariant (omega arith)
    (grind (arith, common_steps))

pub returns : goal.returns
returns c =
    reading_accepted (settings_of c.args.settings) (kind_of c.args.kind) c.args.s.now c.loop-p.p c.loop-p.invariant (omega arith)
    (grind (arith, common_steps))
