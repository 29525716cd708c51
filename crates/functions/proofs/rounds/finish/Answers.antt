-- Where the ends joined no states, the partition is closed.
use Rattle.functions.proofs.RoundLaws.{finished_alone}
use Rattle.functions.proofs.rounds.finish.Goals as goal

pub returns-else-joined : goal.returns-else-joined
returns-else-joined c =
    finished_alone _ _ _ _ _ _ _ _ c.requires c.by_ends-joined.ensures.ends (c.by_ends-joined.ensures.none c.if-joined.false)
