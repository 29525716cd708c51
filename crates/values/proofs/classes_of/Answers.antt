-- Where all states accept, the groups are the classes.
use Rattle.std.proofs.Common.{length, arith}
use Rattle.base.proofs.Fills.{cut_at}
use Rattle.values.proofs.EndLaws.{ends-classes}
use Rattle.values.proofs.classes_of.Goals as goal

pub returns-clause-classes : goal.returns-clause-classes
returns-clause-classes c =
    ends-classes (length c.args.classes.now) _ c.args.values.now c.by_ends.new.groups
    (λ v h. omega (arith, cut_at (length c.args.classes.now) 1 v c.requires.few h)) c.by_ends.ensures.ends
