use Rattle.partition.proofs.ForestLaws.{put_below}
use Rattle.partition.proofs.forest.unite.Goals as goal

pub returns : goal.returns
returns c =
    put_below _ _ _ _ c.requires.forest c.requires.inside c.requires.lower c.requires.x_root c.requires.y_root
