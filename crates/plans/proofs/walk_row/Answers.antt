-- What `walk_and_clear` says, and the part of the row that was walked.
use mathlib.Core.Path.{sym, subst}
use Prim.Native.Nat.{ℕ}
use lib.Seq.{length-take-le}
use Rattle.results.specs.Says.{walked_as, WalkedSays}
use Rattle.table_calls.proofs.CallLaws.{walked-within, beginning_told}
use Rattle.plans.proofs.walk_row.Goals as goal

pub slice_bounds-result-end : goal.slice_bounds-result-end
slice_bounds-result-end c =
    let told = c.walk_and_clear-ended in
    sym (length-take-le told.result.walked c.args.row.now
    (walked-within c.args.table.now c.args.row.now c.args.work.now told.result told.ensures.gives))

pub returns : goal.returns
returns c =
    let told = c.walk_and_clear-ended in
    let r = told.result in
    let at = c.args in
    let counted =
    length-take-le r.walked at.row.now (walked-within at.table.now at.row.now at.work.now r told.ensures.gives) in
    record {
      says =
          subst (λ (n : ℕ).
          WalkedSays at.table.now at.row.now at.work.now told.new.work
          (walked_as r.refusal r.outcome n r.next_names r.next_count))
          (sym counted) told.ensures;
      beginning_is = beginning_told at.table.now at.row.now at.work.now r told.ensures.gives;
    }
