-- What is printed lies within the text.
use Rattle.std.proofs.Common.{sym}
use Rattle.std.proofs.lemmas.List.{length-take-le}
use Rattle.plans.proofs.PrintLaws.{printed_within}
use Rattle.worked_days.proofs.books.book.Goals as goal

pub slice_bounds-text-end : goal.slice_bounds-text-end
slice_bounds-text-end g c = printed_within c.print_book-length.ensures

pub slice_bounds-say_line-end : goal.slice_bounds-say_line-end
slice_bounds-say_line-end g c =
    let printed = c.print_book-length in
    sym (length-take-le printed.result printed.new.text (printed_within printed.ensures))
