use Rattle.std.proofs.Common.{refl}
use Rattle.partition.proofs.ForestLaws.{finding-next, finding_end}
use Rattle.partition.proofs.forest.find.Goals as goal

pub loop-up-preserved : goal.loop-up-preserved
loop-up-preserved c =
    finding-next _ _ _ _ _ _ c.loop-up.invariant _ c.loop-up-test.true refl _ _ c.requires.forest refl refl

pub returns : goal.returns
returns c = finding_end _ _ _ _ _ _ c.loop-up.invariant c.requires.forest c.requires.inside c.loop-up-test.false
