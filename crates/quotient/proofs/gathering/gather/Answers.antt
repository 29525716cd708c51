use Rattle.std.proofs.Common.{refl, ap, ℕ, arith, rules, get_or, set}
use Rattle.quotient.proofs.ArcPass.{gather_start, gathered-more, gather_end}
use Rattle.quotient.proofs.gathering.gather.Goals as goal

pub loop-v-init : goal.loop-v-init
loop-v-init c =
    let args = c.args in
    gather_start args.tree.parents.now args.tree.names.now args.groups.now args.work.now args.next.now c.fill.new.self
    c.requires.work_bytes_in_bounds c.requires.groups_in_bounds (search rules)

pub loop-v-preserved : goal.loop-v-preserved
loop-v-preserved c =
    let args = c.args in
    let at = c.loop-v in
    gathered-more c.requires.joined.0 args.tree.parents.now args.tree.names.now args.groups.now c.requires.joined.1
    at.v at.work at.next (omega arith) c.loop-v-test.true at.invariant
    (get_or args.groups.now (get_or args.tree.parents.now at.v 0) 0) (get_or args.tree.names.now at.v 0)
    (get_or args.groups.now at.v 0) c.set_cell.new.work _ refl refl refl c.set_cell.ensures
    (ap (λ (names : ℕ). set at.next (get_or args.groups.now (get_or args.tree.parents.now at.v 0) 0) names) c.with_name.ensures)

pub returns : goal.returns
returns c =
    let args = c.args in
    λ rows joined.
    gather_end rows args.tree.parents.now args.tree.names.now args.groups.now joined c.loop-v.v c.loop-v.work c.loop-v.next
    c.loop-v-test.false c.loop-v.invariant
