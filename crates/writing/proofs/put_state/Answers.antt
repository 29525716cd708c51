-- The field's head, then whether the state accepts.
use mathlib.Core.Bool.{Bool, true, false}
use mathlib.Core.Path.{◌≡◌, refl}
use mir.Val.{bool_byte}
use native.Mathlib.Omega.{arith}
use Rattle.base.specs.Limits.{when}
use Rattle.writing.proofs.WritingLaws.{put_append}
use Rattle.writing.proofs.put_state.Goals as goal

accepts_byte : (accepts : Bool) → when accepts 1 ≡ bool_byte accepts
accepts_byte true = refl
accepts_byte false = refl

pub returns : goal.returns
returns c =
    let fits = c.requires.fits in
    rw accepts_byte (put_append c.put_head-next.ensures c.put_byte.ensures (omega arith))
