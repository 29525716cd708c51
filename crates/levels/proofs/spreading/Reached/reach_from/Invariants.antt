-- The queue grew by the sources in the places before j.
use Rattle.std.proofs.Common.{◌+◌, ◌-◌, ◌≤◌}
use Rattle.levels.specs.Queues.{Longer, SourceIn}
use Rattle.levels.proofs.spreading.Reached.reach_from.Given as goal

abbrev pub invariant-loop-j : goal.invariant-loop-j
invariant-loop-j l = record {
  within : l.j ≤ l.from + (l.to - l.from);
  grown :
      Longer (SourceIn l.work l.from l.j) l.level l.initial.self.levels l.initial.self.queue l.initial.self.last
      l.self.levels l.self.queue l.self.last;
}
