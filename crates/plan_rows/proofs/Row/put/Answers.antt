-- The entries, then the head in front of them.
use mathlib.Core.Path.{◌≡◌, subst}
use Prim.Native.Nat.{ℕ, ◌+◌, ◌-◌}
use native.Mathlib.Omega.{arith}
use lib.ListN.{length}
use Rattle.base.specs.Limits.{row_mark}
use Rattle.model.specs.Tables.{field_bytes}
use Rattle.writing.specs.Writing.{Put, field_head}
use Rattle.writing.proofs.WritingLaws.{put_before}
use Rattle.plan_rows.specs.Rows.{entries_of}
use Rattle.plan_rows.proofs.Lengths.{row_field_length}
use Rattle.plan_rows.proofs.Row.put.Goals as goal

pub put_entries-end-requires : goal.put_entries-end-requires
put_entries-end-requires c =
    let fits = c.requires.fits in
    omega (arith, row_field_length (entries_of c.args.self))

pub put_head-requires-clause-fits : goal.put_head-requires-clause-fits
put_head-requires-clause-fits c =
    let fits = c.requires.fits in
    omega (arith, row_field_length (entries_of c.args.self), c.put_entries-end.auto.out)

pub returns : goal.returns
unfolding field_bytes
returns c =
    let fits = c.requires.fits in
    let row = entries_of c.args.self in
    let entries = c.put_entries-end in
    let size : entries.result - (c.args.at + 3) ≡ length row = omega (arith, entries.ensures.ends) in
    put_before entries.ensures
    (subst (λ (n : ℕ). Put entries.new.out c.put_head.new.out c.args.at (field_head row_mark n) c.put_head.result) size
    c.put_head.ensures)
    (omega arith) (omega (arith, row_field_length row))
