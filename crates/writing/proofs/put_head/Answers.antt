-- The mark, then the length.
use native.Mathlib.Omega.{arith}
use Rattle.writing.proofs.WritingLaws.{put_append}
use Rattle.writing.proofs.put_head.Goals as goal

pub returns : goal.returns
returns c =
    let fits = c.requires.fits in
    put_append c.put_byte-next.ensures c.put_two.ensures (omega arith)
