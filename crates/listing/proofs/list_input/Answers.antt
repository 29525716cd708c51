-- What is printed lies within the text.
use Rattle.std.proofs.Common.{sym}
use Rattle.std.proofs.lemmas.List.{length-take-le}
use Rattle.plans.proofs.PrintLaws.{printed_within}
use Rattle.listing.proofs.list_input.Goals as goal

pub slice_bounds-text-end : goal.slice_bounds-text-end
slice_bounds-text-end g c = printed_within c.print_book-length.ensures

pub slice_bounds-write_all-end : goal.slice_bounds-write_all-end
slice_bounds-write_all-end g c =
    let printed = c.print_book-length in
    sym (length-take-le printed.result printed.new.text (printed_within printed.ensures))
