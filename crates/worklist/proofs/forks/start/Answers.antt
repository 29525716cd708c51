-- The lists are filled; where no pair is queued forks are closed already; else all pairs are joined, and the forest is flattened.
use mathlib.Core.Path.{sym, ◌∙◌}
use Rattle.worklist.proofs.SizeLaws.{own-size}
use Rattle.worklist.proofs.ForkLaws.{closing_filled, closing-opened}
use Rattle.worklist.proofs.ForkRounds.{flat_coarser, round_ended}
use Rattle.worklist.proofs.forks.start.Goals as goal

pub invariant_of-arcs : goal.invariant_of-arcs
invariant_of-arcs c = record { even = own-size c.requires.ready.own ∙ sym c.requires.ready.names_size }

pub settle-requires-clause-closing : goal.settle-requires-clause-closing
settle-requires-clause-closing c = (
  c.args.parents.now,
  c.args.groups.now,
  closing-opened (closing_filled c.requires.ready c.requires.labelled c.args.forks.now.queue.room c.fill.ensures),
)

pub returns : goal.returns
returns c =
    round_ended c.requires.ready.names_size c.flatten.ensures (flat_coarser c.requires.labelled)
    (closing-opened (closing_filled c.requires.ready c.requires.labelled c.args.forks.now.queue.room c.fill.ensures))
    c.settle.ensures
