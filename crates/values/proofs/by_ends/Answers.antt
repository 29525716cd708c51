use Rattle.std.proofs.Common.{arith}
use Rattle.base.proofs.Fills.{filled_none}
use Rattle.values.proofs.BucketLaws.{buckets_none}
use Rattle.values.proofs.by_ends.Goals as goal

pub loop-v-init : goal.loop-v-init
loop-v-init c = record {
  filled = filled_none _ _;
  buckets = buckets_none c.args.ends.now c.args.values.now;
  apart = λ none v h. absurd (omega arith);
}
