-- The names, then the class.
use native.Mathlib.Omega.{arith}
use Rattle.writing.proofs.WritingLaws.{put_append}
use Rattle.writing.proofs.put_front.Goals as goal

pub returns : goal.returns
returns c =
    let fits = c.requires.fits in
    put_append c.copy_in-next.ensures c.put_class.ensures (omega arith)
