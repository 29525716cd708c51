-- What is found in the state's field is the table's.
use native.Mathlib.Omega.{arith}
use Rattle.tables.proofs.WalkLaws.{target_is, target-inside, stops-unfound, stops-unmarked, moved_to}
use Rattle.tables.proofs.walks.Walk.step.Goals as goal

pub returns-in_err-to : goal.returns-in_err-to
returns-in_err-to c =
    rw c.from_residual.ensures
    (stops-unfound c.args.table.s.now c.args.table.work.now c.args.marks.now c.args.self c.args.name c.args.table.ready
    c.requires.marked c.requires.state_in_bounds
    (target_is _ _ c.args.self.state c.args.name c.state.ensures c.in_err-to.ensures))

pub offset_bounds-marks-to : goal.offset_bounds-marks-to
offset_bounds-marks-to c =
    omega (
      arith,
      target-inside c.args.table.s.now c.args.table.work.now c.args.marks.now c.args.self c.args.name c.args.table.ready
          c.requires.marked c.requires.state_in_bounds c.in_ok-to.to
          (target_is _ _ c.args.self.state c.args.name c.state.ensures c.in_ok-to.ensures),
      c.args.table.ready.few_states,
    )

pub bounds-marks-to : goal.bounds-marks-to
bounds-marks-to c =
    omega (
      arith,
      target-inside c.args.table.s.now c.args.table.work.now c.args.marks.now c.args.self c.args.name c.args.table.ready
          c.requires.marked c.requires.state_in_bounds c.in_ok-to.to
          (target_is _ _ c.args.self.state c.args.name c.state.ensures c.in_ok-to.ensures),
      c.args.table.ready.few_states,
    )

pub returns-then-marks-to-eq0 : goal.returns-then-marks-to-eq0
returns-then-marks-to-eq0 c =
    stops-unmarked c.args.table.s.now c.args.table.work.now c.args.marks.now c.args.self c.args.name c.args.table.ready
    c.requires.marked c.requires.state_in_bounds c.in_ok-to.to
    (target_is _ _ c.args.self.state c.args.name c.state.ensures c.in_ok-to.ensures) c.if-marks-to-eq0.true

pub returns : goal.returns
returns c =
    moved_to c.args.table.s.now c.args.table.work.now c.args.marks.now c.args.self c.args.name c.args.table.ready
    c.requires.marked c.requires.state_in_bounds c.in_ok-to.to
    (target_is _ _ c.args.self.state c.args.name c.state.ensures c.in_ok-to.ensures) c.if-marks-to-eq0.false
