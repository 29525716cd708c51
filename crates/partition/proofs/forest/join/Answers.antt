-- The root found first is one still when the second has been found.
use Rattle.partition.proofs.RootLaws.{first_own}
use Rattle.partition.proofs.forest.join.Goals as goal

pub unite-requires-clause-x_root : goal.unite-requires-clause-x_root
unite-requires-clause-x_root c = first_own c.find-x.ensures c.find-y.ensures c.requires.v_inside

pub unite-requires-in-Greater-clause-y_root : goal.unite-requires-in-Greater-clause-y_root
unite-requires-in-Greater-clause-y_root c = first_own c.find-x.ensures c.find-y.ensures c.requires.v_inside
