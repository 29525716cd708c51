use Rattle.std.proofs.Common.{◌≡◌, ◌∙◌, ◌++◌, ◌≤◌, ℕ, length, sym, ap, subst, arith, rules}
use Rattle.model.specs.Tables.{two_bytes}
use Rattle.writing.proofs.BytesLeft.{left-all, left-more, left-room, left-none}
use Rattle.counting.specs.Ready.{PassesToWrite}
use Rattle.counting.proofs.CountPieces.{passes_next, passes_done}
use Rattle.counting.proofs.written.write_passes.Goals as goal

pub loop-name-init : goal.loop-name-init
loop-name-init c =
    let start : c.into_iter-name-iterator.result.left ≡ c.args.names = search rules in
    λ bytes m. (
      bytes,
      subst (λ (s : ℕ). PassesToWrite c.args.work.now c.args.row s bytes) (sym start) m,
      left-all c.args.out.now c.args.at bytes,
    )

pub cell-requires-clause-in_columns : goal.cell-requires-clause-in_columns
cell-requires-clause-in_columns c =
    let m = c.loop-name.invariant c.requires.by_index.0 c.requires.by_index.1 in
    (passes_next c.in-Some.name c.next.new.self.left m.1 c.in-Some.ensures.steps).low

pub put_two-end-requires-clause-fits : goal.put_two-end-requires-clause-fits
put_two-end-requires-clause-fits c =
    let m = c.loop-name.invariant c.requires.by_index.0 c.requires.by_index.1 in
    let more = passes_next c.in-Some.name c.next.new.self.left m.1 c.in-Some.ensures.steps in
    let bytes_are = more.bytes_are ∙ ap (λ (n : ℕ). two_bytes n ++ more.rest) (sym c.cell.ensures.value) in
    left-room m.2 (two_bytes c.cell.result) more.rest bytes_are c.requires.by_index.2

pub loop-name-preserved : goal.loop-name-preserved
loop-name-preserved c =
    let put = c.put_two-end in
    let fits = c.requires.by_index.2 in
    let start-low : c.args.at ≤ length c.args.out.now = omega arith in
    λ bytes given.
    let m = c.loop-name.invariant bytes given in
    let more = passes_next c.in-Some.name c.next.new.self.left m.1 c.in-Some.ensures.steps in (
      more.rest,
      more.after,
      left-more m.2 (two_bytes c.cell.result) more.rest put.new.out put.result
          (more.bytes_are ∙ ap (λ (n : ℕ). two_bytes n ++ more.rest) (sym c.cell.ensures.value)) put.ensures start-low,
    )

pub returns : goal.returns
returns c =
    λ bytes given.
    let m = c.loop-name.invariant bytes given in
    left-none m.2 (passes_done m.1 c.in-None.ensures.steps)
