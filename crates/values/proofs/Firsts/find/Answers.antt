use Rattle.std.proofs.Common.{◌-◌, arith, refl}
use Rattle.indexed.proofs.Chains.{searched_start, searched_on}
use Rattle.values.specs.Buckets.{Listed}
use Rattle.values.proofs.BucketLaws.{SameValue, first_itself}
use Rattle.values.proofs.Firsts.find.Goals as goal

pub loop-at-init : goal.loop-at-init
loop-at-init c = λ ends lists. searched_start _ _ _ _ _ c.args.b _ refl lists.chained

-- the search goes on by the link
pub loop-at-preserved : goal.loop-at-preserved
loop-at-preserved c = λ ends lists.
    (searched_on c.args.v (Listed ends c.args.values.now) (SameValue c.args.values.now c.args.v) _ _ _ c.loop-at.at
    (c.loop-at.at - 1) _ (omega arith) refl c.if-values-u.false lists.chained (c.loop-at.invariant ends lists)).1

pub returns : goal.returns
returns c = record {
  first = λ ends accepting lists.
      first_itself ends c.args.values.now c.args.v c.args.b c.loop-at.at (omega arith)
      c.requires.list accepting (c.loop-at.invariant ends lists);
}
