-- One law of ListLaws for each answer.
use native.Mathlib.Omega.{arith}
use Rattle.book_calls.proofs.ListLaws.{copy_short, copy_whole}
use Rattle.book_calls.proofs.listing.copy_out.Goals as goal

pub returns-then-text-bytes : goal.returns-then-text-bytes
returns-then-text-bytes c = copy_short c.args.bytes.now c.args.text.now (omega arith)

pub returns : goal.returns
returns c =
    copy_whole c.args.bytes.now c.args.text.now c.copy_in.new.out (omega arith) c.copy_in.ensures.written
