use Prim.Native.Nat.{◌+◌, ◌<◌}
use lib.ListN.{get_or, length}
use Rattle.contexts.proofs.DistanceLaws.{label_fits, lowered_set}
use Rattle.contexts.proofs.distances.lower_at.Goals as goal

pub returns : goal.returns
returns c =
    let dist = c.args.dist.now in
    let groups = c.args.groups.now in
    let ready = c.requires.lowering in
    let source = c.class_above-source.result in
    let fits : source < length dist =
    label_fits (length groups) groups dist ready.labelled ready.few ready.size (get_or c.args.parents.now c.args.v 0)
    source (ready.above.below c.args.v c.requires.inside) c.class_above-source.ensures in
    lowered_set dist source (get_or dist (get_or groups c.args.v 0) 0 + 1) fits c.if-dist-source.false
