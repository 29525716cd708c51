use mathlib.Core.Path.{◌∙◌}
use mathlib.Core.Logic.{inl, inr, ⊎_elim}
use Prim.Native.Nat.{◌≤◌, ◌<◌}
use native.Mathlib.Omega.{arith}
use lib.ListN.{length}
use Rattle.base.proofs.Tests.{le_or_lt}
use Rattle.judging.proofs.NameLaws.{before_differs, before_goes, before_ends}
use Rattle.judging.proofs.names.sorts_before.Goals as goal

pub returns-then-a-i : goal.returns-then-a-i
returns-then-a-i c =
    before_differs c.args.a.now c.args.b.now c.loop-i.i (omega arith) (omega arith) (λ e. omega arith) ∙ c.loop-i.invariant

pub loop-i-preserved : goal.loop-i-preserved
loop-i-preserved c =
    before_goes c.args.a.now c.args.b.now c.loop-i.i (omega arith) (omega arith) (omega arith) ∙ c.loop-i.invariant

pub returns : goal.returns
returns c =
    let a = c.args.a.now in
    let b = c.args.b.now in
    before_ends a b c.loop-i.i (omega arith) (omega arith)
    (⊎_elim (λ (h : length a ≤ length b). inl (omega arith)) (λ (h : length b < length a). inr (omega arith)) (le_or_lt (length a) (length b)))
    ∙ c.loop-i.invariant
