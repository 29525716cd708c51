-- The space, the name, `>` and the target are written one after the other.
use native.Mathlib.Omega.{arith}
use lib.ListN.{length-append}
use Rattle.model.specs.Listing.{arc_text}
use Rattle.writing.proofs.WritingLaws.{put_append}
use Rattle.listings.proofs.arcs.put_arc.Goals as goal

pub returns : goal.returns
unfolding arc_text
returns c =
    let fits = simp length-append at c.requires in
    let called = rw c.name_at.ensures at c.copy_in-next.ensures in
    put_append c.put_byte-next.ensures
    (put_append called (put_append c.put_byte-next-2.ensures c.put_decimal.ensures (omega arith)) (omega arith))
    (omega arith)
