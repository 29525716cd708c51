use Rattle.std.proofs.Common.{◌<◌, length, arith, refl}
use Rattle.partition.proofs.ForestLaws.{flattening-more, flattening_all}
use Rattle.partition.proofs.forest.flatten.Goals as goal

pub loop-v-preserved : goal.loop-v-preserved
loop-v-preserved c =
    let inside : c.loop-v.v < length c.args.above.now = omega arith in
    flattening-more _ c.requires.forest _ _ c.loop-v.invariant _ inside refl _ refl

pub returns : goal.returns
returns c = flattening_all _ c.requires.forest c.loop-v.v _ c.loop-v.invariant (omega arith)
