-- One law of WalkLaws for each way.
use native.Mathlib.Omega.{arith}
use Rattle.model.specs.Calls.{table_states}
use Rattle.endings.specs.Live.{trimmed}
use Rattle.tables.proofs.Marks.{length-trimmed}
use Rattle.tables.proofs.WalkLaws.{walking-begins, walking-goes, walking-stops, walking-ends}
use Rattle.tables.proofs.walks.walk_all.Goals as goal

pub loop-name-init : goal.loop-name-init
loop-name-init c =
    let states = table_states c.args.table.s.now in
    walking-begins (trimmed states) c.args.row.now (omega (arith, c.args.table.ready.some_state, length-trimmed states))

pub step-requires-clause-state_in_bounds : goal.step-requires-clause-state_in_bounds
step-requires-clause-state_in_bounds c =
    omega (arith, length-trimmed (table_states c.args.table.s.now), c.loop-name.invariant.in_table)

pub returns-in_default : goal.returns-in_default
returns-in_default c =
    walking-stops (trimmed (table_states c.args.table.s.now)) c.args.row.now c.loop-name.walk c.loop-name.name-index
    c.loop-name.invariant (omega arith) c.in_default.ensures

pub loop-name-preserved : goal.loop-name-preserved
loop-name-preserved c =
    walking-goes (trimmed (table_states c.args.table.s.now)) c.args.row.now c.loop-name.walk c.loop-name.name-index
    c.loop-name.invariant c.in-Some.next (omega arith) c.in-Some.ensures

pub returns : goal.returns
returns c =
    walking-ends (trimmed (table_states c.args.table.s.now)) c.args.row.now c.loop-name.walk c.loop-name.name-index
    c.loop-name.invariant (omega arith)
