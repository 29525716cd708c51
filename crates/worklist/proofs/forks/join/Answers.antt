-- The groups of both states are made one, and where they were two, their lists are merged.
use mathlib.Core.Path.{refl}
use Rattle.worklist.proofs.SizeLaws.{roots_by_states}
use Rattle.worklist.proofs.ForkLaws.{pair-skipped, pair_joined}
use Rattle.worklist.proofs.forks.join.Goals as goal

pub returns-in_default : goal.returns-in_default
returns-in_default c =
    pair-skipped c.requires.forest c.requires.v_inside c.requires.w_inside
    (roots_by_states c.requires.forest c.in_default.ensures) refl

pub returns-in-Some : goal.returns-in-Some
returns-in-Some c =
    pair_joined c.requires.forest c.requires.v_inside c.requires.w_inside
    (roots_by_states c.requires.forest c.in-Some.ensures.1) c.in-Some.ensures.0 c.merge.ensures c.requires.sorted.1
