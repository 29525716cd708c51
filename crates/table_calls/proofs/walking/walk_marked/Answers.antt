-- The laws of EndLaws at what the code has at hand.
use mathlib.Core.Path.{refl, ◌∙◌}
use Rattle.table_calls.proofs.EndLaws.{state-inside, ends-over}
use Rattle.table_calls.proofs.walking.walk_marked.Goals as goal

-- the state reached is one of the table's
pub next_names-next_names-requires-clause-q_in_bounds : goal.next_names-next_names-requires-clause-q_in_bounds
next_names-next_names-requires-clause-q_in_bounds c =
    let table = c.args.table in
    state-inside table.s.now table.work.now c.args.row.now c.walk_all-state.result table.ready c.walk_all-state.ensures

pub accepts-requires : goal.accepts-requires
accepts-requires c =
    let table = c.args.table in
    state-inside table.s.now table.work.now c.args.row.now c.walk_all-state.result table.ready c.walk_all-state.ensures

pub returns : goal.returns
returns c =
    let table = c.args.table in
    ends-over table.s.now table.work.now c.args.row.now c.walk_all-state.result table.ready c.walk_all-state.ensures
    c.next_names-next_names.result c.from.result _ _ c.accepts.result c.next_names-next_names.ensures c.accepts.ensures
    (c.from.ensures ∙ c.outcome_of-outcome.ensures) refl refl
