-- The groups of both states of a pair are made one, and where they were two, their lists are merged.
use mathlib.Core.Path.{refl}
use native.Mathlib.Numerals.{add-one}
use Rattle.partition.specs.Forests.{roots_of}
use Rattle.worklist.proofs.SizeLaws.{roots_by_states}
use Rattle.worklist.proofs.SettleLaws.{settling-done, settled-skipped, settled_joined}
use Rattle.worklist.proofs.settle.Goals as goal
use Rattle.worklist.proofs.settle.Goals.{in-Some-join, in_default-join}

pub loop-v-preserved : goal.loop-v-preserved
loop-v-preserved c =
    let forest = c.loop-v.invariant.0 in
    let settling = c.loop-v.invariant.1 in
    let pair = c.in-Some.ensures in
    elim c.match-join.branch [
      | in-Some-join w ↦
          let roots = w.in-Some-join.ensures in
          let at =
          settled_joined forest pair.0 pair.1 pair.2 (roots_by_states forest roots.1) roots.0 w.merge_all.ensures in
          rw (add-one, w.kinds-is) (at.forest, at.settling (roots_of c.args.groups.now) settling)
      | in_default-join w ↦
          let at =
          settled-skipped forest pair.0 pair.1 pair.2 (roots_by_states forest w.in_default-join.ensures) refl in
          rw (add-one, w.kinds-is) (at.forest, at.settling (roots_of c.args.groups.now) settling)
    ]

pub returns : goal.returns
returns c =
    let inv = c.loop-v.invariant in
    record { forest = inv.0; until = settling-done inv.1 c.in_default.ensures }
