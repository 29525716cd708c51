-- A state field has a first byte, and it is the mark of acceptance.
use mathlib.Core.Path.{ap, ◌∙◌}
use native.Mathlib.Omega.{arith}
use Rattle.model.specs.Tables.{State}
use Rattle.tables.proofs.ArcReads.{state-some, state-accepts}
use Rattle.tables.proofs.opened.Opened.accepts.Goals as goal

pub bounds-state-0 : goal.bounds-state-0
bounds-state-0 c = omega (arith, state-some c.state-state.result.now c.state-state.ensures.ok)

pub returns : goal.returns
returns c =
    state-accepts c.state-state.result.now c.state-state.ensures.ok
    ∙ ap (λ (st : State). st.accepts) c.state-state.ensures.means
