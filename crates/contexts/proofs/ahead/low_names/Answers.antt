use Rattle.contexts.proofs.AheadLaws.{low_names}
use Rattle.contexts.proofs.ahead.low_names.Goals as goal

pub returns : goal.returns
returns c = low_names c.args.set
