use Rattle.std.proofs.Common.{sym, ◌∙◌, arith, get_or}
use Rattle.std.proofs.lemmas.Slice.Eq.{bytes_eq-Decides}
use Rattle.judging.specs.Offsets.{fields_at}
use Rattle.judging.proofs.OffsetLaws.{length_fields}
use Rattle.name_search.proofs.SearchLaws.{found_at}
use Rattle.name_search.proofs.Index.number_by_guess.Goals as goal

pub returns-then-eq : goal.returns-then-eq
returns-then-eq c =
    let s = c.args.self.now in
    let inside = length_fields s.list.now 0 s.count in
    sym (found_at (fields_at s.list.now 0 s.count) c.args.name.now c.requires.ascends (get_or s.guesses c.hash.result 0) (omega arith)
    ((bytes_eq-Decides c.args.name.now c.name.result.now).0 (sym c.if-eq.ensures) ∙ c.name.ensures))
