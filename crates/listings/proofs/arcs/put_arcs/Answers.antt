-- What is left to write is said by LineLaws.
use mathlib.Core.Path.{sym, ap, ◌∙◌, subst}
use mathlib.Core.List.{List}
use Prim.Native.Nat.{ℕ}
use Rattle.model.specs.Tables.{state_in}
use Rattle.tables.specs.Arcs.{StateOk, arcs_left}
use Rattle.listings.specs.Texts.{names_at, state_at}
use Rattle.writing.proofs.TextLaws.{room, goes}
use Rattle.listings.proofs.LineLaws.{arcs_begin, arcs_next, arcs_finish}
use Rattle.listings.proofs.arcs.put_arcs.Goals as goal

pub of-arc-items-requires : goal.of-arc-items-requires
of-arc-items-requires c = subst StateOk (sym c.body-state.ensures) c.requires.state_field.ok

pub loop-arc-init : goal.loop-arc-init
loop-arc-init c =
    let table = c.args.table in
    let same = c.of-arc-items.ensures ∙ ap (λ (s : List ℕ). (state_in s).arcs) c.body-state.ensures in
    arcs_begin (names_at table.bytes.now table.place) (state_at table.bytes.now c.args.from).arcs _ c.args.text.now c.args.at
    (ap arcs_left c.into_iter-arc-iterator.ensures.into_iter_gives ∙ same) c.requires.fits

pub put_arc-next-requires : goal.put_arc-next-requires
put_arc-next-requires c = room _ _ (arcs_next _ _ _ c.in-Some.ensures.steps c.loop-arc.invariant)

pub loop-arc-preserved : goal.loop-arc-preserved
loop-arc-preserved c = goes _ _ (arcs_next _ _ _ c.in-Some.ensures.steps c.loop-arc.invariant) c.put_arc-next.ensures

pub returns : goal.returns
returns c = arcs_finish _ c.in-None.ensures.steps.0 c.loop-arc.invariant
