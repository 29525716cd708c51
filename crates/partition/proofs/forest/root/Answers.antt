use Rattle.std.proofs.Common.{refl}
use Rattle.partition.proofs.ForestLaws.{finding_up, finding_end}
use Rattle.partition.proofs.forest.root.Goals as goal

pub loop-up-preserved : goal.loop-up-preserved
loop-up-preserved c = finding_up _ _ _ _ _ _ c.loop-up.invariant _ c.requires.forest refl

pub returns-clause-value : goal.returns-clause-value
returns-clause-value c =
    (finding_end _ _ c.args.above.now _ _ _ c.loop-up.invariant c.requires.forest c.requires.inside c.loop-up-test.false).is_root
