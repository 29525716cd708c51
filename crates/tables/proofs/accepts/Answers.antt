-- A state field has a first byte, and it is the mark of acceptance.
use mathlib.Core.Path.{ap, ◌∙◌}
use mathlib.Core.List.{List}
use Prim.Native.Nat.{ℕ}
use native.Mathlib.Omega.{arith}
use lib.Dec.{eqb}
use lib.ListN.{length, get_or}
use Rattle.judging.specs.Offsets.{body_at}
use Rattle.tables.proofs.ArcReads.{state-some, state-accepts}
use Rattle.tables.proofs.accepts.Goals as goal

pub bounds-state-0 : goal.bounds-state-0
bounds-state-0 c =
    omega (arith, ap length c.body-state.ensures, state-some (body_at c.args.s.now c.args.at) c.requires.ok)

pub returns : goal.returns
returns c =
    ap (λ (l : List ℕ). eqb (get_or l 0 0) 1) c.body-state.ensures
    ∙ state-accepts (body_at c.args.s.now c.args.at) c.requires.ok
