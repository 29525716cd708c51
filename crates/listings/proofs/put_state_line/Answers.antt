-- Number, space, sign, arcs and newline are written one after the other.
use mathlib.Core.Path.{◌≡◌, ap, ◌∙◌}
use mathlib.Core.Bool.{Bool, cond}
use native.Mathlib.Omega.{arith}
use lib.ListN.{length-append}
use Rattle.model.specs.Listing.{state_line}
use Rattle.listings.specs.Texts.{state_at}
use Rattle.writing.proofs.WritingLaws.{put_append}
use Rattle.listings.proofs.put_state_line.Goals as goal

pub returns : goal.returns
unfolding state_line
returns c =
    let fits = simp length-append at c.requires.fits in
    let state = state_at c.args.table.bytes.now c.args.from in
    let sign : c.sign.result ≡ cond state.accepts 43 45 = c.sign.ensures ∙ ap (λ (b : Bool). cond b 43 45) c.accepts.ensures in
    let signed = rw sign at c.put_byte-next-2.ensures in
    put_append c.put_decimal-next.ensures
    (put_append c.put_byte-next.ensures
    (put_append signed (put_append c.put_arcs-next.ensures c.put_byte.ensures (omega arith)) (omega arith)) (omega arith))
    (omega arith)
