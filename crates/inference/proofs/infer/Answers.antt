use mathlib.Core.Path.{refl}
use mathlib.Core.List.{[], ◌∷◌}
use native.Mathlib.Omega.{arith}
use Rattle.std.proofs.lemmas.Result.{err_from_is_err_and}
use Rattle.model.specs.Calls.{distinct_of}
use Rattle.fields.specs.Places.{file_of}
use Rattle.indexed.proofs.Words.{tree_arrays}
use Rattle.inference.proofs.BookLaws.{rows-entries, items_few}
use Rattle.inference.proofs.ResultLaws.{gives_too_large, gives_too_long, states_within, gives_written}
use Rattle.inference.proofs.infer.Goals as goal

pub add_rows-requires-clause-rows_below : goal.add_rows-requires-clause-rows_below
add_rows-requires-clause-rows_below c =
    rows-entries c.args.book.now c.args.place c.requires.0 (λ i h. omega (arith, c.type_inv.book i))

pub add_rows-requires-clause-le_book_rows : goal.add_rows-requires-clause-le_book_rows
add_rows-requires-clause-le_book_rows c = items_few c.args.book.now c.args.place c.requires.0

pub returns-in_err-distinct : goal.returns-in_err-distinct
returns-in_err-distinct c =
    let args = c.args in
    let p = err_from_is_err_and c.from_residual.result c.from_residual.ensures.1 in
    rw (p.1, p.2)
    (gives_too_large args.wanted (file_of args.book.now args.place) (args.out.now ∷ (args.counts.now ∷ [])) _
    c.in_err-distinct.ensures.number)

pub invariant_of-tree : goal.invariant_of-tree
invariant_of-tree c =
    let built = c.in_ok-distinct.ensures.built _ refl in
    record { arrays = rw built.arrays.parents_size (tree_arrays _ _ _ built.arrays (rw built.size at built.few)) }

pub returns-in_err-table : goal.returns-in_err-table
unfolding distinct_of
returns-in_err-table c =
    let args = c.args in
    let built = c.in_ok-distinct.ensures.built _ refl in
    let q = err_from_is_err_and c.from_residual-in_err-table.result c.from_residual-in_err-table.ensures.1 in
    let long = c.in_err-table.ensures in
    rw (q.1, q.2)
    (gives_too_long args.wanted (file_of args.book.now args.place) (args.out.now ∷ (args.counts.now ∷ [])) _ _ long.0
    (rw built.size at built.few) long.1)

pub overflow_sub-result : goal.overflow_sub-result
overflow_sub-result c =
    let args = c.args in
    let built = c.in_ok-distinct.ensures.built _ refl in
    states_within args.wanted (file_of args.book.now args.place) (args.out.now ∷ (args.counts.now ∷ [])) _
    c.in_ok-table.table _ built.size c.in_ok-table.ensures

pub returns : goal.returns
unfolding distinct_of
returns c =
    let args = c.args in
    let built = c.in_ok-distinct.ensures.built _ refl in
    gives_written args.wanted (file_of args.book.now args.place) (args.out.now ∷ (args.counts.now ∷ [])) _
    c.in_ok-table.table _ _ (rw built.size at built.few) built.size built.different c.in_ok-table.ensures
