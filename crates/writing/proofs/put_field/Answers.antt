-- The head, then the body.
use native.Mathlib.Omega.{arith}
use Rattle.model.specs.Tables.{field_bytes}
use Rattle.writing.proofs.WritingLaws.{put_append}
use Rattle.writing.proofs.put_field.Goals as goal

pub returns : goal.returns
unfolding field_bytes
returns c =
    let fits = c.requires.fits in
    put_append c.put_head-next.ensures c.copy_in.ensures (omega arith)
