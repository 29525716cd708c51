use Rattle.suffixes.proofs.CodeLaws.{least-none, least-some}
use Rattle.suffixes.proofs.least_code.Goals as goal

pub returns-then-i-eq0 : goal.returns-then-i-eq0
returns-then-i-eq0 c = least-none c.args.i c.if-i-eq0.true

pub returns : goal.returns
returns c = least-some c.args.i c.if-i-eq0.false c.requires
