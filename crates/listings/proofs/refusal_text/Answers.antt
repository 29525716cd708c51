-- The word, the number and the newline are written one after the other.
use native.Mathlib.Omega.{arith}
use Rattle.model.specs.Listing.{refusal_text}
use Rattle.writing.proofs.WritingLaws.{put_append}
use Rattle.listings.proofs.refusal_text.Goals as goal

pub returns : goal.returns
unfolding refusal_text
returns c =
    put_append c.copy_in-next.ensures (put_append c.put_decimal-next.ensures c.put_byte.ensures (omega arith)) (omega arith)
