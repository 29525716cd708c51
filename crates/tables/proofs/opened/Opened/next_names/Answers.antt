-- The marked arcs in the state's field are the trimmed table's.
use mathlib.Core.Path.{sym, ap, ◌∙◌, subst}
use Rattle.base.specs.Limits.{state_limit}
use Rattle.model.specs.Tables.{State, name_set}
use Rattle.model.specs.Calls.{table_states}
use Rattle.tables.specs.Arcs.{TargetsBelow, marked_arcs}
use Rattle.tables.proofs.ReadyLaws.{targets_inside}
use Rattle.tables.proofs.Marks.{targets_more, marked_trimmed}
use Rattle.tables.proofs.opened.Opened.next_names.Goals as goal

pub name_set-requires-clause-targets_below : goal.name_set-requires-clause-targets_below
name_set-requires-clause-targets_below c =
    let table = c.args.self in
    subst (λ (st : State). TargetsBelow state_limit st.arcs) (sym c.state-state.ensures.means)
    (targets_more table.ready.few_states (targets_inside table.s.now table.work.now table.ready c.args.q c.requires.q_in_bounds))

pub returns : goal.returns
returns c =
    let table = c.args.self in
    c.name_set.ensures
    ∙ ap (λ (st : State). name_set (marked_arcs c.args.marks.now st.arcs)) c.state-state.ensures.means
    ∙ ap name_set
    (marked_trimmed (table_states table.s.now) c.args.marks.now c.requires.marked c.args.q
    (targets_inside table.s.now table.work.now table.ready c.args.q c.requires.q_in_bounds))
