-- How a walk ends, as the number that is told. Assumes nothing.
use Rattle.std.specs.Prelude.{ℕ}
use Rattle.base.specs.Limits.{admitted, on_the_way, stops}
use Rattle.table_calls.specs.declared.walking.Outcome.{Outcome}
use Rattle.table_calls.specs.declared.walking.Outcome.TheVariants as outcome

abbrev pub number_of : Outcome → ℕ
number_of outcome.Admitted = admitted
number_of outcome.OnTheWay = on_the_way
number_of outcome.Stops = stops
