use Rattle.std.proofs.Common.{◌≡◌, ◌+◌, ◌/◌, ◌∙◌, ℕ, List, true, sym, subst, arith}
use Rattle.base.specs.Lists.{before}
use Rattle.judging.specs.Offsets.{fields_at}
use Rattle.judging.proofs.OffsetLaws.{length_fields}
use Rattle.name_search.proofs.SearchLaws.{all_left, none_left, lower-half, upper-half, found_at}
use Rattle.name_search.proofs.Index.number_of.Goals as goal

pub loop-low-init : goal.loop-low-init
loop-low-init c =
    let s = c.args.self.now in
    (omega arith, all_left (fields_at s.list.now 0 s.count) c.args.name.now s.count (length_fields s.list.now 0 s.count))

pub loop-low-preserved-in-Less : goal.loop-low-preserved-in-Less
loop-low-preserved-in-Less c =
    let s = c.args.self.now in
    let names = fields_at s.list.now 0 s.count in (
      omega arith,
      lower-half names c.args.name.now c.requires.ascends c.loop-low.low c.loop-low.high
          ((c.loop-low.low + c.loop-low.high) / 2)
          (subst (λ (n : List ℕ). before c.args.name.now n ≡ true) c.name.ensures c.in-Less.ensures) c.loop-low.invariant.1,
    )

pub returns-in-Equal : goal.returns-in-Equal
returns-in-Equal c =
    let s = c.args.self.now in
    let names = fields_at s.list.now 0 s.count in
    let inside = length_fields s.list.now 0 s.count in
    sym (found_at names c.args.name.now c.requires.ascends ((c.loop-low.low + c.loop-low.high) / 2) (omega arith)
    (c.in-Equal.ensures ∙ c.name.ensures))

pub loop-low-preserved : goal.loop-low-preserved
loop-low-preserved c =
    let s = c.args.self.now in
    let names = fields_at s.list.now 0 s.count in
    let inside = length_fields s.list.now 0 s.count in (
      omega arith,
      upper-half names c.args.name.now c.requires.ascends c.loop-low.low c.loop-low.high
          ((c.loop-low.low + c.loop-low.high) / 2) (omega arith) (omega arith)
          (subst (λ (n : List ℕ). before n c.args.name.now ≡ true) c.name.ensures c.in-Greater.ensures) c.loop-low.invariant.1,
    )

pub returns : goal.returns
returns c =
    let s = c.args.self.now in
    let names = fields_at s.list.now 0 s.count in
    sym
    (none_left names c.args.name.now c.loop-low.low c.loop-low.high c.loop-low-test.false c.loop-low.invariant.1
    ∙ length_fields s.list.now 0 s.count)
