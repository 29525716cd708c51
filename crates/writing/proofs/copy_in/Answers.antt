-- One byte more is written.
use mathlib.Core.Path.{◌≡◌}
use Prim.Native.Nat.{ℕ, ◌+◌, ◌<◌, ◌≤◌}
use mathlib.Core.List.{List}
use native.Mathlib.Omega.{arith}
use lib.ListN.{length, take, get_or, set}
use lib.Seq.{take_all, take-suc, length-take-le}
use Rattle.std.proofs.Common.{add-one}
use Rattle.writing.specs.Writing.{Written}
use Rattle.writing.proofs.WritingLaws.{none_written, byte_written, written-append}
use Rattle.writing.proofs.copy_in.Goals as goal

copy_more :
    {out mid : List ℕ} {at : ℕ} (src : List ℕ) (i : ℕ) → Written out mid at (take i src) → length mid ≡ length out →
    i < length src → at + length src ≤ length out → Written out (set mid (at + i) (get_or src i 0)) at (take (i + 1) src)
copy_more {out} {mid} {at} src i w same more fits =
    let size : length (take i src) ≡ i = length-take-le i src (omega arith) in
    rw (add-one, take-suc src i 0 more)
    (written-append w (byte_written mid (at + i) (get_or src i 0) (omega arith)) (omega arith) (omega arith))

pub loop-i-init : goal.loop-i-init
loop-i-init c = none_written c.args.out.now c.args.at

pub loop-i-preserved : goal.loop-i-preserved
loop-i-preserved c =
    copy_more c.args.src.now c.loop-i.i c.loop-i.invariant c.loop-i.auto.out c.loop-i-test.true (omega (arith, c.requires))

pub returns : goal.returns
returns c =
    let all : take c.loop-i.i c.args.src.now ≡ c.args.src.now = take_all c.loop-i.i c.args.src.now (omega arith) in
    record { written = rw all at c.loop-i.invariant; ends = omega arith }
