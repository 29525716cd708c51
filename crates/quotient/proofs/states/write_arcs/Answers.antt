use Rattle.std.proofs.Common.{◌≡◌, ◌≤◌, ℕ, ◌++◌, ◌∙◌, length, get_or, sym, ap, subst, arith, rules}
use Rattle.quotient.specs.Ready.{ArcsToWrite}
use Rattle.writing.specs.Writing.{arc_part}
use Rattle.writing.proofs.BytesLeft.{left-all, left-more, left-room, left-none}
use Rattle.quotient.proofs.StatePieces.{arcs_write_name, arcs_write_more, arcs_write_done}
use Rattle.quotient.proofs.states.write_arcs.Goals as goal

pub loop-name-init : goal.loop-name-init
loop-name-init c =
    let start : c.into_iter-name-iterator.result.left ≡ get_or c.args.made.next.now c.args.g 0 = search rules in
    λ bytes m. (
      bytes,
      subst (λ (s : ℕ). ArcsToWrite c.args.work.now c.args.g s c.args.made.numbers.now bytes) (sym start) m,
      left-all c.args.out.now c.args.at bytes,
    )

pub cell-requires-clause-in_columns : goal.cell-requires-clause-in_columns
cell-requires-clause-in_columns c =
    let m = c.loop-name.invariant c.requires.by_index.0 c.requires.by_index.1 in
    arcs_write_name c.in-Some.name c.next.new.self.left m.1 c.in-Some.ensures.steps

pub number_of-target-requires : goal.number_of-target-requires
number_of-target-requires c =
    let m = c.loop-name.invariant c.requires.by_index.0 c.requires.by_index.1 in
    let more =
    arcs_write_more c.in-Some.name c.cell.result c.next.new.self.left m.1 c.in-Some.ensures.steps c.cell.ensures.value in
    omega (arith, more.target_low)

pub put_arc-end-requires-clause-fits : goal.put_arc-end-requires-clause-fits
put_arc-end-requires-clause-fits c =
    let m = c.loop-name.invariant c.requires.by_index.0 c.requires.by_index.1 in
    let more =
    arcs_write_more c.in-Some.name c.cell.result c.next.new.self.left m.1 c.in-Some.ensures.steps c.cell.ensures.value in
    let number = get_or c.args.made.numbers.now c.cell.result 0 in
    let room = left-room m.2 (arc_part c.in-Some.name number) more.rest more.bytes_are c.requires.by_index.2 in
    omega arith

pub loop-name-preserved : goal.loop-name-preserved
loop-name-preserved c =
    let fits = c.requires.by_index.2 in
    let start-low : c.args.at ≤ length c.args.out.now = omega arith in
    let arc = c.put_arc-end in
    λ bytes given.
    let m = c.loop-name.invariant bytes given in
    let more =
    arcs_write_more c.in-Some.name c.cell.result c.next.new.self.left m.1 c.in-Some.ensures.steps c.cell.ensures.value in (
      more.rest,
      more.after,
      left-more m.2 (arc_part c.in-Some.name c.number_of-target.result) more.rest arc.new.out arc.result
          (more.bytes_are ∙ ap (λ (n : ℕ). arc_part c.in-Some.name n ++ more.rest) (sym c.number_of-target.ensures.value))
          arc.ensures start-low,
    )

pub returns : goal.returns
returns c =
    λ bytes given.
    let m = c.loop-name.invariant bytes given in
    left-none m.2 (arcs_write_done m.1 c.in-None.ensures.steps)
