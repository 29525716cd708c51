-- One law of PrintLaws for each answer.
use mathlib.Core.Path.{refl}
use native.Mathlib.Omega.{arith}
use Rattle.model.specs.Fields.{standard}
use Rattle.listings.proofs.Lengths.{refusal_text-length}
use Rattle.plans.proofs.PrintLaws.{prints-refusal, prints-listing}
use Rattle.plans.proofs.printing.print_book.Goals as goal

pub refusal_text-requires : goal.refusal_text-requires
refusal_text-requires c = omega (arith, refusal_text-length c.list_book-listed.result.refusal)

pub returns-then-listed-ne0 : goal.returns-then-listed-ne0
returns-then-listed-ne0 c =
    let listed = c.list_book-listed in
    prints-refusal standard refl c.args.book.now c.args.work.now listed.new.work c.args.text.now (omega arith) (omega arith)
    listed.new.text listed.result listed.ensures c.refusal_text.new.text c.refusal_text.result
    (omega (arith, c.if-listed-ne0.true)) c.refusal_text.ensures

pub returns : goal.returns
returns c =
    let listed = c.list_book-listed in
    prints-listing standard refl c.args.book.now c.args.work.now listed.new.work c.args.text.now (omega arith) (omega arith)
    listed.new.text listed.result listed.ensures c.if-listed-ne0.false
