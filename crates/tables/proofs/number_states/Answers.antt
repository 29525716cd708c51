-- One law of TableLaws for each way.
use Rattle.base.specs.declared.refusals.Refusal.TheVariants.{BadNumbering}
use Rattle.judging.specs.Offsets.{body_at}
use Rattle.std.proofs.lemmas.Result.{err_from_is_err_and}
use mathlib.Core.Path.{◌≡◌, sym, subst}
use native.Mathlib.Omega.{arith}
use Rattle.model.specs.Tables.{state_in, met_by_arcs}
use Rattle.model.proofs.CallLaws.{sizes_fit}
use Rattle.tables.specs.Arcs.{StateOk}
use Rattle.tables.specs.Accepting.{StateField}
use Rattle.tables.proofs.TableLaws.{passing_begins, field_here, passing-goes, passing-none, passing-stops, passing-refused}
use Rattle.tables.proofs.TableLaws.{passing-accepted}
use Rattle.tables.proofs.number_states.Goals as goal

pub loop-i-init : goal.loop-i-init
loop-i-init c = passing_begins c.args.s.now c.args.p c.args.work.now c.requires.work_value

pub returns-then-met-i : goal.returns-then-met-i
returns-then-met-i c =
    passing-stops c.args.s.now c.args.p c.requires.table_read c.args.work.now c.loop-i.work c.loop-i.at c.loop-i.met c.loop-i.i
    c.loop-i.invariant (omega arith) (omega arith)

pub keep_field-requires-clause-at_lt_number_limit : goal.keep_field-requires-clause-at_lt_number_limit
keep_field-requires-clause-at_lt_number_limit c =
    let here : StateField c.args.s.now c.loop-i.at =
    field_here c.args.s.now c.args.p c.requires.table_read c.args.work.now c.loop-i.work c.loop-i.at c.loop-i.met c.loop-i.i
    c.loop-i.invariant (omega arith) in
    let fits = here.fits in
    let short = (sizes_fit c.args.s.now c.args.work.now c.requires.work_value).input_fits in
    omega arith

pub keep_field-requires-clause-work_bytes_in_bounds : goal.keep_field-requires-clause-work_bytes_in_bounds
keep_field-requires-clause-work_bytes_in_bounds c =
    let room = (sizes_fit c.args.s.now c.args.work.now c.requires.work_value).work_fits in
    omega (arith, c.loop-i.invariant.same_length)

pub body-requires : goal.body-requires
body-requires c =
    (field_here c.args.s.now c.args.p c.requires.table_read c.args.work.now c.loop-i.work c.loop-i.at c.loop-i.met c.loop-i.i
    c.loop-i.invariant (omega arith)).fits

pub met_by_arcs-requires : goal.met_by_arcs-requires
met_by_arcs-requires c =
    subst StateOk (sym c.body.ensures)
    (field_here c.args.s.now c.args.p c.requires.table_read c.args.work.now c.loop-i.work c.loop-i.at c.loop-i.met c.loop-i.i
    c.loop-i.invariant (omega arith)).ok

pub next_field-at-requires : goal.next_field-at-requires
next_field-at-requires c =
    (field_here c.args.s.now c.args.p c.requires.table_read c.args.work.now c.loop-i.work c.loop-i.at c.loop-i.met c.loop-i.i
    c.loop-i.invariant (omega arith)).fits

pub loop-i-preserved : goal.loop-i-preserved
loop-i-preserved c =
    let s = c.args.s.now in
    let met : met_by_arcs c.loop-i.met (state_in (body_at s c.loop-i.at)).arcs ≡ c.in_ok-met.met =
    rw (sym c.body.ensures) (rw c.in_ok-met.ensures.ok_part at c.met_by_arcs.ensures) in
    rw (c.keep_field.ensures, c.next_field-at.ensures)
    (passing-goes s c.args.p c.requires.table_read c.args.work.now c.loop-i.work c.loop-i.at c.loop-i.met c.loop-i.i
    c.loop-i.invariant c.in_ok-met.met (omega arith) (omega arith) (sym met))

pub returns-in_err-met : goal.returns-in_err-met
returns-in_err-met c =
    let s = c.args.s.now in
    let none : met_by_arcs c.loop-i.met (state_in (body_at s c.loop-i.at)).arcs ≡ 0 =
    rw (sym c.body.ensures) (rw c.in_err-met.ensures.ok_part at c.met_by_arcs.ensures) in
    let out = err_from_is_err_and c.from_residual.result c.from_residual.ensures.1 in
    let at = rw c.in_err-met.ensures.ok_part at c.in_err-met.ensures.value in
    let k : c.in_err-met.field-0.0 ≡ BadNumbering = cc at in
    rw (c.keep_field.ensures, out.1, out.2, k)
    (passing-none s c.args.p c.requires.table_read c.args.work.now c.loop-i.work c.loop-i.at c.loop-i.met c.loop-i.i
    c.loop-i.invariant (omega arith) (omega arith) none)

pub returns-then-met-items : goal.returns-then-met-items
returns-then-met-items c =
    passing-accepted c.args.s.now c.args.p c.requires.table_read c.args.work.now c.loop-i.work c.loop-i.at c.loop-i.met c.loop-i.i
    c.loop-i.invariant (omega arith) (omega arith)

pub returns-else-met-items : goal.returns-else-met-items
returns-else-met-items c =
    passing-refused c.args.s.now c.args.p c.requires.table_read c.args.work.now c.loop-i.work c.loop-i.at c.loop-i.met c.loop-i.i
    c.loop-i.invariant (omega arith) (omega arith)
