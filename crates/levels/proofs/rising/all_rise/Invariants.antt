-- The states below q rise.
use Rattle.std.proofs.Common.{◌≡◌, ◌<◌, ℕ, true, get_or}
use Rattle.model.specs.Tables.{empty_state}
use Rattle.model.specs.Calls.{table_states}
use Rattle.levels.specs.Found.{rises}
use Rattle.levels.proofs.rising.all_rise.Given as goal

abbrev pub invariant-loop-q : goal.invariant-loop-q
invariant-loop-q l = (p : ℕ) → p < l.q → rises p (get_or (table_states l.table.s.now) p empty_state) ≡ true
