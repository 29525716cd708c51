-- The counts worked out by hand, by computing them. Assumes nothing.
use mathlib.Core.Path.{refl}
use mathlib.Core.List.{flat_map}
use Rattle.base.specs.Lists.{total, numbers_from}
use Rattle.model.specs.Tables.{field_bytes, target_in, walk_from, walk}
use Rattle.counts.specs.Counts.{steps_from, trail, ends_at, passes_of, count_field, counts_file}
use Rattle.counts.specs.Worked.{WorkedCounts}

pub worked_counts_hold : WorkedCounts
unfolding flat_map total numbers_from field_bytes target_in walk_from walk steps_from trail ends_at passes_of count_field counts_file
worked_counts_hold = record { three_rows = refl; many_copies = refl; stopped = refl }
