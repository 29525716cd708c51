-- Which field stands at an offset is said by TableLaws, and what is left to write by LineLaws.
use mathlib.Core.Path.{◌≡◌, refl, sym, ap, ◌∙◌, subst}
use mathlib.Core.List.{List, ◌++◌}
use Prim.Native.Nat.{ℕ, ◌+◌, ◌≤◌, ◌<◌}
use native.Mathlib.Numerals.{add-one}
use native.Mathlib.Omega.{arith}
use lib.ListN.{length, drop}
use Rattle.model.specs.Listing.{state_line, state_lines}
use Rattle.model.specs.Calls.{table_states}
use Rattle.judging.specs.Offsets.{next_at, offset_at}
use Rattle.judging.proofs.OffsetLaws.{offset_suc}
use Rattle.fields.specs.declared.Place.{Place}
use Rattle.tables.specs.Accepting.{TableRead, StateField}
use Rattle.tables.proofs.TableLaws.{states-count, field_is, field_means}
use Rattle.listings.specs.Texts.{names_at, state_at}
use Rattle.writing.proofs.TextLaws.{Writing, begins, room, goes}
use Rattle.listings.proofs.LineLaws.{states-next, states-finish}
use Rattle.listings.proofs.put_states.Goals as goal

module _ (s : List ℕ) (p : Place) (read : TableRead s p) (i from : ℕ) (below : i < p.items) (is : from ≡ offset_at s p.start i) where
  -- the field of state i
  field : StateField s from
  field = subst (StateField s) (sym is) (field_is s p read i below)

  -- the line of state i comes first of what is left
  turn :
      {text₀ : List ℕ} {at : ℕ} {whole text : List ℕ} {next : ℕ} →
      Writing text₀ at whole text next (state_lines (names_at s p) i (drop i (table_states s))) →
      Writing text₀ at whole text next
      (state_line (names_at s p) i (state_at s from) ++ state_lines (names_at s p) (i + 1) (drop (i + 1) (table_states s)))
  turn left =
      let there-is : i < length (table_states s) = omega (arith, states-count s p read) in
      states-next (names_at s p) (table_states s) i (state_at s from) there-is
      (ap (state_at s) is ∙ field_means s p read i below) left

pub loop-i-init : goal.loop-i-init
unfolding offset_at
loop-i-init c =
    let a = c.args in
    let s = a.table.bytes.now in
    (refl, begins a.text.now a.at (state_lines (names_at s a.table.place) 0 (table_states s)) c.requires)

pub put_state_line-next-requires-clause-state_field : goal.put_state_line-next-requires-clause-state_field
put_state_line-next-requires-clause-state_field c =
    let l = c.loop-i in
    field c.args.table.bytes.now c.args.table.place c.args.table.read l.i l.from (omega arith) l.invariant.0

pub put_state_line-next-requires-clause-fits : goal.put_state_line-next-requires-clause-fits
put_state_line-next-requires-clause-fits c =
    let l = c.loop-i in
    let s = c.args.table.bytes.now in
    let p = c.args.table.place in
    let names = names_at s p in
    room (state_line names l.i (state_at s l.from)) (state_lines names (l.i + 1) (drop (l.i + 1) (table_states s)))
    (turn s p c.args.table.read l.i l.from (omega arith) l.invariant.0 l.invariant.1)

pub next_field-from-requires : goal.next_field-from-requires
next_field-from-requires c =
    let l = c.loop-i in
    (field c.args.table.bytes.now c.args.table.place c.args.table.read l.i l.from (omega arith) l.invariant.0).fits

pub loop-i-preserved : goal.loop-i-preserved
loop-i-preserved c =
    let l = c.loop-i in
    let s = c.args.table.bytes.now in
    let p = c.args.table.place in
    let names = names_at s p in (
      c.next_field-from.ensures
          ∙ ap (next_at s) l.invariant.0
          ∙ sym (offset_suc s p.start l.i)
          ∙ ap (offset_at s p.start) (sym (add-one l.i)),
      goes (state_line names l.i (state_at s l.from)) (state_lines names (l.i + 1) (drop (l.i + 1) (table_states s)))
          (turn s p c.args.table.read l.i l.from (omega arith) l.invariant.0 l.invariant.1)
          c.put_state_line-next.ensures,
    )

pub returns : goal.returns
returns c =
    let l = c.loop-i in
    let s = c.args.table.bytes.now in
    let p = c.args.table.place in
    let all : length (table_states s) ≤ l.i = omega (arith, states-count s p c.args.table.read) in
    states-finish (names_at s p) (table_states s) l.i all l.invariant.1
