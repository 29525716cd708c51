use mathlib.Core.Path.{◌∙◌}
use lib.Dec.{ltb}
use Rattle.std.proofs.Common.{rules, tests}
use Rattle.std.proofs.lemmas.Iterator.{YieldsList-from_slice}
use Rattle.std.proofs.lemmas.Iterator.Search.{all_from_yields_List}
use Rattle.judging.proofs.RowLaws.{below_all}
use Rattle.judging.proofs.rows.all_below.Goals as goal

pub returns : goal.returns
returns c =
    let names = c.args.names in
    let row = c.args.row.now in
    all_from_yields_List (λ x. ltb x names) _ _ _ c.all.ensures.ran (YieldsList-from_slice row cc) (λ x b q k. search (rules, tests))
    ∙ below_all names row
