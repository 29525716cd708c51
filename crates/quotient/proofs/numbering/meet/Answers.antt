use Rattle.quotient.proofs.MetLaws.{meeting_name, meeting_more, meeting_done}
use Rattle.quotient.proofs.numbering.meet.Goals as goal

pub cell-requires-clause-in_columns : goal.cell-requires-clause-in_columns
cell-requires-clause-in_columns c =
    let given = c.requires.by_index in
    meeting_name c.in-Some.name c.next.new.self.left (c.loop-name.invariant given.0 given.1 given.2) c.in-Some.ensures.steps

pub meet_one-reached-requires : goal.meet_one-reached-requires
meet_one-reached-requires c =
    let given = c.requires.by_index in
    let more =
    meeting_more c.in-Some.name c.cell.result c.next.new.self.left (c.loop-name.invariant given.0 given.1 given.2)
    c.in-Some.ensures.steps c.cell.ensures.value in
    (given.0, more.one, more.single)

pub loop-name-preserved : goal.loop-name-preserved
loop-name-preserved c =
    let met = c.meet_one-reached in
    λ n after m.
    let more =
    meeting_more c.in-Some.name c.cell.result c.next.new.self.left (c.loop-name.invariant n after m)
    c.in-Some.ensures.steps c.cell.ensures.value in
    more.then met.new.order met.new.numbers met.result (met.ensures n more.one more.single)

pub returns : goal.returns
returns c = λ n after m. meeting_done (c.loop-name.invariant n after m) c.in-None.ensures.steps
