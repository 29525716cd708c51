use native.Mathlib.Omega.{arith}
use Rattle.contexts.proofs.NearLaws.{distances_none}
use Rattle.contexts.proofs.distances.distances.Goals as goal

pub loop-init : goal.loop-init
loop-init c =
    let marked = c.mark_grown.ensures in
    record {
      lowering =
          record {
            few = c.requires.few;
            above = c.requires.above;
            labelled = c.requires.labelled;
            size = c.type_inv.dist;
            limit = λ x. omega (arith, marked.fallen.low x, distances_none 512 x);
          };
      unchanged = marked.unchanged;
    }
