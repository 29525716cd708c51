use mathlib.Core.Path.{refl, ◌∙◌}
use native.Mathlib.Omega.{arith}
use Rattle.std.proofs.lemmas.Result.{err_from_is_err_and}
use Rattle.prefix_tree.proofs.StepLaws.{adding_begins, adding-fits, adding_below, adding_few, adding_few_rows}
use Rattle.prefix_tree.proofs.StepLaws.{adding_new, adding_again, adding_full, adding_ends, tree_built, tree_refused, sized}
use Rattle.prefix_tree.proofs.Growing.add_rows.Goals.{then-not-branch, else-not-branch}
use Rattle.prefix_tree.proofs.Growing.add_rows.Goals as goal

pub loop-init : goal.loop-init
loop-init c = adding_begins c.args.book.now c.args.start c.args.items (c.clear.ensures c.args.work.now) refl

-- the next row lies within the book
pub body-requires : goal.body-requires
body-requires c = adding-fits c.loop.invariant (omega arith) c.requires.in_bounds

pub add_row-requires-clause-row_below : goal.add_row-requires-clause-row_below
add_row-requires-clause-row_below c = rw c.body.ensures (adding_below c.loop.invariant (omega arith) c.requires.rows_below)

pub add_row-requires-clause-few_rows : goal.add_row-requires-clause-few_rows
add_row-requires-clause-few_rows c = adding_few_rows c.loop.invariant (omega arith) c.requires.le_book_rows

-- no more rows are different than were added
pub overflow_add-distinct : goal.overflow_add-distinct
overflow_add-distinct c = omega (arith, adding_few c.loop.invariant)

pub returns-in_err-add_row : goal.returns-in_err-add_row
returns-in_err-add_row c =
    let p = err_from_is_err_and c.from_residual.result c.from_residual.ensures.1 in
    let rowed = rw c.body.ensures at c.in_err-add_row.ensures.tree in
    rw (p.1, p.2, rowed.0)
    (tree_refused c.args.self.now c.add_row.new.self (c.add_row.auto.work ∙ c.loop.invariant.work_kept)
    (adding_full c.loop.invariant (omega arith) rowed.1))

pub next_field-at-requires : goal.next_field-at-requires
next_field-at-requires c = adding-fits c.loop.invariant (omega arith) c.requires.in_bounds

pub loop-preserved : goal.loop-preserved
loop-preserved c =
    let at = c.loop.invariant in
    let rowed = rw c.body.ensures at c.in_ok-add_row.ensures in
    elim c.if-not-branch.branch [
      | then-not-branch w ↦
          rw w.distinct-is
          (adding_new at (omega arith) c.add_row.auto.work c.next_field-at.ensures rowed w.if-not-branch.true)
      | else-not-branch w ↦
          rw w.distinct-is
          (adding_again at (omega arith) c.add_row.auto.work c.next_field-at.ensures rowed w.if-not-branch.false)
    ]

pub returns : goal.returns
returns c =
    let at = c.loop in
    tree_built c.args.self.now at.self at.invariant.work_kept
    (adding_ends at.invariant (omega arith) c.requires.le_book_rows (sized at.self (omega arith)))
