use Rattle.std.proofs.Common.{refl, get_or, arith}
use Rattle.counting.proofs.Stores.{clear_more}
use Rattle.counting.proofs.passes.clear_cells.Goals as goal

pub loop-v-preserved : goal.loop-v-preserved
loop-v-preserved c =
    let parents = c.args.tree.parents.now in
    let names = c.args.tree.names.now in
    let groups = c.args.groups.now in
    let v = c.loop-v.v in
    clear_more c.requires.joined.0 parents names groups c.requires.joined.1 v (get_or groups (get_or parents v 0) 0) (get_or names v 0)
    c.loop-v.work c.set_cell.new.work (omega arith) c.loop-v-test.true c.loop-v.invariant refl refl c.set_cell.ensures
