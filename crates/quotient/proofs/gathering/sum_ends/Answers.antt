use Rattle.std.proofs.Common.{refl, ◌<◌, get_or, length, arith, rules}
use Rattle.indexed.proofs.TreeArcs.{label_low}
use Rattle.quotient.proofs.EndsPass.{sums_start, sums_more, sums_few, sums_end}
use Rattle.quotient.proofs.gathering.sum_ends.Goals as goal

pub loop-v-init : goal.loop-v-init
loop-v-init c =
    sums_start c.args.ends.now c.args.groups.now c.args.sums.now c.fill.new.self c.requires.groups_in_bounds (search rules)

-- the turn's group is one of them, and its sum with one more state's ends is a small number
pub overflow_add-sums : goal.overflow_add-sums
overflow_add-sums c =
    let args = c.args in
    let ready = c.requires.ends_array in
    let size = ready.2.size in
    let g = get_or args.groups.now c.loop-v.v 0 in
    let low = label_low ready.2 c.loop-v.v (omega arith) in
    let g-low : g < length args.groups.now = omega (arith, low) in
    omega (
      arith,
      sums_few ready.0 args.ends.now args.groups.now c.loop-v.sums c.loop-v.v g ready.1 (omega arith) g-low refl c.loop-v.invariant,
    )

pub loop-v-preserved : goal.loop-v-preserved
loop-v-preserved c =
    let args = c.args in
    let labels = c.requires.ends_array.2 in
    let size = labels.size in
    let g = get_or args.groups.now c.loop-v.v 0 in
    let low = label_low labels c.loop-v.v (omega arith) in
    let g-low : g < length args.groups.now = omega (arith, low) in
    sums_more c.loop-v.v args.ends.now args.groups.now c.loop-v.sums c.loop-v.invariant g _ g-low refl refl

pub returns : goal.returns
returns c =
    λ rows array labels.
    sums_end rows c.args.ends.now c.args.groups.now c.loop-v.sums c.loop-v.v array labels (omega arith) c.loop-v.invariant
