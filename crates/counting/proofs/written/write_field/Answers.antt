-- The head, the ends, then the passes.
use mathlib.Core.Path.{refl}
use native.Mathlib.Omega.{arith}
use lib.ListN.{get_or}
use Rattle.writing.proofs.WritingLaws.{put_append}
use Rattle.counting.proofs.CountPieces.{field_parts}
use Rattle.counting.proofs.written.write_field.Goals as goal

pub put_head-body-requires-clause-fits : goal.put_head-body-requires-clause-fits
put_head-body-requires-clause-fits c =
    let p = c.requires.by_index in
    let parts = field_parts p.1 c.how_many.result (get_or c.args.made.sums.now c.args.g 0) c.how_many.ensures refl in
    let fits = p.2 in
    omega (arith, parts.sized)

pub put_two-first-requires-clause-fits : goal.put_two-first-requires-clause-fits
put_two-first-requires-clause-fits c =
    let p = c.requires.by_index in
    let parts = field_parts p.1 c.how_many.result (get_or c.args.made.sums.now c.args.g 0) c.how_many.ensures refl in
    let fits = p.2 in
    let head = c.put_head-body in
    omega (arith, parts.sized, head.ensures.ends, head.auto.out)

pub write_passes-requires-clause-by_index : goal.write_passes-requires-clause-by_index
write_passes-requires-clause-by_index c =
    let p = c.requires.by_index in
    let parts = field_parts p.1 c.how_many.result (get_or c.args.made.sums.now c.args.g 0) c.how_many.ensures refl in
    let fits = p.2 in
    let head = c.put_head-body in
    let two = c.put_two-first in (
      parts.rest,
      parts.passes,
      omega (arith, parts.sized, head.ensures.ends, head.auto.out, two.ensures.ends, two.auto.out),
    )

pub returns : goal.returns
returns c =
    let passes = c.write_passes in
    let two = c.put_two-first in
    let head = c.put_head-body in
    let q = c.requires.by_index in
    let fits = q.2 in
    let room = (field_parts q.1 c.how_many.result (get_or c.args.made.sums.now c.args.g 0) c.how_many.ensures refl).sized in
    λ bytes given.
    let p = field_parts given c.how_many.result (get_or c.args.made.sums.now c.args.g 0) c.how_many.ensures refl in
    rw p.bytes_are
    (put_append head.ensures
    (put_append two.ensures (passes.ensures p.rest p.passes) (omega (arith, head.ensures.ends, head.auto.out)))
    (omega arith))
