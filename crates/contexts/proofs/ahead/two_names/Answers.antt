use Prim.Native.Nat.{◌<◌}
use native.Mathlib.Numerals.{add-one}
use native.Mathlib.Omega.{arith}
use lib.ListN.{length, get_or, length-set}
use Rattle.indexed.proofs.Suffixes.{parent_below}
use Rattle.contexts.proofs.AheadLaws.{lead_more}
use Rattle.contexts.proofs.TreeLaws.{tree-arrays}
use Rattle.contexts.proofs.ahead.two_names.Goals as goal
use mathlib.Core.Path.{refl}

pub loop-v-preserved : goal.loop-v-preserved
loop-v-preserved c =
    let loop = c.loop-v in
    let view = c.args.view in
    let old = view.old.now in
    let parents = view.tree.parents.now in
    let names = view.tree.names.now in
    let arrays = tree-arrays view.size view.tree.arrays in
    let source : get_or parents loop.v 0 < length old = parent_below (length old) parents names arrays loop.v c.loop-v-test.true in
    let from_low : c.class_above-from.result < length loop.ahead =
    omega (arith, c.class_above-from.ensures, view.labelled.low (get_or parents loop.v 0) source, arrays.few_states, loop.invariant.size) in
    record {
      size = simp length-set loop.invariant.size;
      leads =
          rw add-one
          (lead_more loop.v parents names old c.args.next.now loop.ahead c.class_above-from.result (get_or old loop.v 0)
          c.low_names-on.result c.class_above-from.ensures refl c.low_names-on.ensures from_low
          loop.invariant.leads);
    }
