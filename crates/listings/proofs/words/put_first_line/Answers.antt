-- Words, numbers and the newline are written one after the other.
use native.Mathlib.Omega.{arith}
use lib.ListN.{length-append}
use Rattle.model.specs.Listing.{first_line}
use Rattle.writing.proofs.WritingLaws.{put_append}
use Rattle.listings.proofs.words.put_first_line.Goals as goal

pub returns : goal.returns
unfolding first_line
returns c =
    let fits = simp length-append at c.requires.fits in
    put_append c.copy_in-next.ensures
    (put_append c.put_decimal-next.ensures
    (put_append c.copy_in-next-2.ensures
    (put_append c.put_decimal-next-2.ensures
    (put_append c.copy_in-next-3.ensures (put_append c.put_decimal-next-3.ensures c.put_byte.ensures (omega arith)) (omega arith))
    (omega arith))
    (omega arith))
    (omega arith))
    (omega arith)
