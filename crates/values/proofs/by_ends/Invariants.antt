-- The first v states have their groups and are in the lists, and where none was joined, each is by itself.
use Rattle.std.proofs.Common.{◌≡◌, false}
use Rattle.base.proofs.Fills.{Filled}
use Rattle.indexed.specs.Partitions.{Alone}
use Rattle.values.specs.Buckets.{Buckets, EndLabel}
use Rattle.values.proofs.by_ends.Given as goal

abbrev pub invariant-loop-v : goal.invariant-loop-v
invariant-loop-v l = record {
  filled : Filled (EndLabel l.ends l.values) l.v l.initial.groups l.groups;
  buckets : Buckets l.ends l.values l.v l.firsts.links l.firsts.heads;
  apart : l.joined ≡ false → Alone l.v l.groups;
}
