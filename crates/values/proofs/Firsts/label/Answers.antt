-- Where the state accepts, the lists are those of one state more.
use Rattle.std.proofs.Common.{◌<◌, ◌+◌, get_or, arith, sym}
use mathlib.Core.Path.{subst₂}
use Rattle.values.specs.Buckets.{Buckets}
use Rattle.values.proofs.BucketLaws.{buckets_kept, buckets_pushed}
use Rattle.values.proofs.Firsts.label.Goals as goal

pub returns-in-Some-clause-with_it : goal.returns-in-Some-clause-with_it
returns-in-Some-clause-with_it c =
    let accepting : 0 < get_or c.args.ends.now c.args.v 0 = omega arith in
    buckets_kept _ _ _ _ _ c.requires.so_far c.in-Some.first c.in-Some.ensures.0
    (c.in-Some.ensures.1.first c.args.ends.now accepting c.requires.so_far)

pub returns-clause-with_it : goal.returns-clause-with_it
returns-clause-with_it c =
    let accepting : 0 < get_or c.args.ends.now c.args.v 0 = omega arith in
    subst₂ (Buckets c.args.ends.now c.args.values.now (c.args.v + 1)) (sym c.push.ensures.links) (sym c.push.ensures.heads)
    (buckets_pushed _ _ _ _ _ c.requires.so_far c.bucket-b.result (omega arith) c.bucket-b.ensures.below
    c.bucket-b.ensures.value (c.in_default.ensures.first c.args.ends.now accepting c.requires.so_far))
