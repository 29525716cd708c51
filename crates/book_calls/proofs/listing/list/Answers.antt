-- One law of ListLaws for each answer.
use mathlib.Core.Path.{sym, ap}
use mathlib.Core.List.{List}
use Prim.Native.Nat.{ℕ, ◌≤◌}
use native.Mathlib.Omega.{arith}
use lib.ListN.{length, take, replicate, length-replicate}
use lib.Seq.{length-take-le}
use Rattle.base.specs.Limits.{table_bytes}
use Rattle.std.proofs.lemmas.Result.{err_from_is_err_and}
use Rattle.fields.proofs.PlaceLaws.{number_some}
use Rattle.fields.specs.Places.{settings_of}
use Rattle.book_calls.proofs.BuildLaws.{built-front}
use Rattle.book_calls.proofs.ListLaws.{built-listed, puts_front, listing-refused, listing-copied}
use Rattle.book_calls.proofs.listing.list.Goals as goal

-- the output lent to `build`, which takes every table
abbrev zeros : List ℕ
zeros = replicate table_bytes 0

long : table_bytes ≤ length zeros
long = omega (arith, length-replicate {A = ℕ} table_bytes 0)

pub returns-in_err-built : goal.returns-in_err-built
returns-in_err-built c =
    let args = c.args in
    let p = err_from_is_err_and c.from_residual.result c.from_residual.ensures.1 in
    rw (p.1, p.2)
    (listing-refused (settings_of args.settings) c.requires args.book.now args.work.now zeros c.build.new.out
    _ c.in_err-built.ensures.gives args.text.now long (number_some c.in_err-built.field-0.0))

pub slice_bounds-table-end : goal.slice_bounds-table-end
slice_bounds-table-end c =
    let args = c.args in
    let built = c.build in
    let front =
    (built-front (settings_of args.settings) args.book.now args.work.now zeros built.new.out c.in_ok-built.built
    c.in_ok-built.ensures.gives c.in_ok-built.ensures.accepted).at_front in
    front.within

pub slice_bounds-list_accepted-end : goal.slice_bounds-list_accepted-end
slice_bounds-list_accepted-end c =
    let args = c.args in
    let built = c.build in
    let front =
    (built-front (settings_of args.settings) args.book.now args.work.now zeros built.new.out c.in_ok-built.built
    c.in_ok-built.ensures.gives c.in_ok-built.ensures.accepted).at_front in
    sym (length-take-le c.in_ok-built.built.length built.new.out front.within)

pub list_accepted-length-requires : goal.list_accepted-length-requires
list_accepted-length-requires c =
    let args = c.args in
    let built = c.build in
    let by =
    built-listed (settings_of args.settings) c.requires args.book.now args.work.now zeros built.new.out c.in_ok-built.built
    c.in_ok-built.ensures.gives c.in_ok-built.ensures.accepted in record {
      table_value = by.no_refusal;
      joins_lt_number_limit = (by.few_joins, by.few_distinct);
      fits = omega (arith, ap length by.is, by.short, by.work_fits);
    }

pub copy_out-requires : goal.copy_out-requires
copy_out-requires c =
    let args = c.args in
    let built = c.build in
    let by =
    built-listed (settings_of args.settings) c.requires args.book.now args.work.now zeros built.new.out c.in_ok-built.built
    c.in_ok-built.ensures.gives c.in_ok-built.ensures.accepted in
    let area = c.list_accepted-length.new.text in
    let listed = puts_front _ _ area _ c.list_accepted-length.result by.is c.list_accepted-length.ensures in
    omega (arith, ap length listed.bytes_are, by.short)

pub returns : goal.returns
returns c =
    let args = c.args in
    let built = c.build in
    let by =
    built-listed (settings_of args.settings) c.requires args.book.now args.work.now zeros built.new.out c.in_ok-built.built
    c.in_ok-built.ensures.gives c.in_ok-built.ensures.accepted in
    let area = c.list_accepted-length.new.text in
    let listed = puts_front _ _ area _ c.list_accepted-length.result by.is c.list_accepted-length.ensures in
    listing-copied (settings_of args.settings) args.book.now args.work.now args.text.now c.copy_out.new.text
    (take c.list_accepted-length.result area) _ by.no_fault listed.bytes_are c.copy_out.ensures
