-- What each step leaves is what the next needs.
use mathlib.Core.Path.{sym, ◌∙◌}
use Rattle.model.specs.Joinings.{tree_of}
use Rattle.model.proofs.Trees.{tree_of-tree}
use Rattle.model.proofs.FirstMet.{states-length}
use Rattle.indexed.proofs.TreeArcs.{labels_fit}
use Rattle.quotient.proofs.prepare.Goals as goal

pub returns : goal.returns
returns c =
    let groups = c.args.groups.now in
    λ rows joined ends.
    let gathered = c.gather.ensures rows joined in
    let states = c.number.ensures rows gathered in
    record {
      ready =
          record {
            gathered = gathered;
            summed = c.sum_ends.ensures rows ends joined.labels;
            numbered = states.numbered;
          };
      counted =
          states.numbered.counted
          ∙ sym (states-length (tree_of rows) groups (tree_of-tree rows) (labels_fit rows groups joined.labels) rows);
      arcs_are = states.arcs_are;
    }
