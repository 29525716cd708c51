-- Both states are joined, then all pairs that this queued.
use mathlib.Core.Path.{sym, ◌∙◌}
use Rattle.worklist.proofs.SizeLaws.{own-size}
use Rattle.worklist.proofs.ForkRounds.{united, closing_two, two_closed}
use Rattle.worklist.proofs.forks.join_two.Goals as goal

pub invariant_of-arcs : goal.invariant_of-arcs
invariant_of-arcs c =
    let ready = c.requires.kept.1 in
    record { even = own-size ready.own ∙ sym ready.names_size }

pub settle-requires-clause-closing : goal.settle-requires-clause-closing
settle-requires-clause-closing c =
    let kept = c.requires.kept in (
      kept.0,
      united c.args.groups.now c.args.v c.args.w,
      closing_two c.requires.forest c.requires.v_inside c.requires.w_inside kept.1 kept.2 c.join.ensures,
    )

pub returns : goal.returns
returns c = λ parents ready kept.
    two_closed c.requires.forest c.requires.v_inside c.requires.w_inside ready kept c.join.ensures c.settle.ensures
