use Rattle.std.proofs.Common.{◌≡◌, ◌<◌, ◌-◌, ℕ, suc, List, get_or, refl, subst, arith}
use Rattle.model.specs.Classes.{Word}
use Rattle.counting.proofs.PassSums.{PassesLeft, sums_start, sums_end, through-room, cell_room, sums_more}
use Rattle.counting.proofs.passes.add_passes.Goals as goal

pub loop-v-init : goal.loop-v-init
loop-v-init c =
    λ rows joined ends short.
    sums_start rows c.args.tree.parents.now c.args.tree.names.now c.args.groups.now joined c.args.through.now
    c.clear_cells.new.work ends c.clear_cells.ensures

-- what is left, before the state below v
left :
    (rows : List Word) (parents names groups through work : List ℕ) (v : ℕ) → 1 < v →
    PassesLeft rows parents names groups v through work → PassesLeft rows parents names groups (suc (v - 1)) through work
left rows parents names groups through work v above all =
    let same : v ≡ suc (v - 1) = omega arith in
    subst (λ (k : ℕ). PassesLeft rows parents names groups k through work) same all

pub overflow_add-through : goal.overflow_add-through
overflow_add-through c =
    let p = c.requires.joined in
    let parents = c.args.tree.parents.now in
    let names = c.args.tree.names.now in
    let groups = c.args.groups.now in
    let above : 0 < c.loop-v.v - 1 = omega (arith, c.loop-v-test.true) in
    let given =
    left p.0 parents names groups c.loop-v.through c.loop-v.work c.loop-v.v (omega arith) (c.loop-v.invariant p.0 p.1 p.2 p.3) in
    omega (
      arith,
      through-room p.0 parents names groups p.1 (c.loop-v.v - 1) c.loop-v.through c.loop-v.work above given p.2.few_rows,
    )

pub add_to_cell-requires-clause-more_bound : goal.add_to_cell-requires-clause-more_bound
add_to_cell-requires-clause-more_bound c =
    let p = c.requires.joined in
    let parents = c.args.tree.parents.now in
    let names = c.args.tree.names.now in
    let groups = c.args.groups.now in
    let above : 0 < c.loop-v.v - 1 = omega (arith, c.loop-v-test.true) in
    let given =
    left p.0 parents names groups c.loop-v.through c.loop-v.work c.loop-v.v (omega arith) (c.loop-v.invariant p.0 p.1 p.2 p.3) in
    cell_room p.0 parents names groups p.1 (c.loop-v.v - 1) c.loop-v.through c.loop-v.work above given p.2.few_rows p.3

pub loop-v-preserved : goal.loop-v-preserved
loop-v-preserved c =
    let parents = c.args.tree.parents.now in
    let names = c.args.tree.names.now in
    let groups = c.args.groups.now in
    let v = c.loop-v.v in
    let parent = get_or parents (v - 1) 0 in
    let above : 0 < v - 1 = omega (arith, c.loop-v-test.true) in
    λ rows joined ends short.
    sums_more rows parents names groups joined (v - 1) c.loop-v.through c.loop-v.work above
    (left rows parents names groups c.loop-v.through c.loop-v.work v (omega arith) (c.loop-v.invariant rows joined ends short))
    parent (get_or c.loop-v.through (v - 1) 0) (get_or groups parent 0) (get_or names (v - 1) 0) _ c.add_to_cell.new.work
    refl refl refl refl refl c.add_to_cell.ensures

pub returns : goal.returns
returns c =
    λ rows joined ends short.
    sums_end rows c.args.tree.parents.now c.args.tree.names.now c.args.groups.now joined c.loop-v.v c.loop-v.through
    c.loop-v.work (omega arith) (c.loop-v.invariant rows joined ends short)
