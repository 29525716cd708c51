-- A law of the groups of accepting states with one value: they are the classes of values where all states accept. Assumes nothing.
use mathlib.Core.Path.{ap}
use mathlib.Core.Logic.{inr, ⊎_elim}
use mathlib.Core.List.{List}
use Prim.Native.Nat.{ℕ, ◌<◌}
use lib.ListN.{get_or}
use Rattle.indexed.specs.Passes.{ByEnds, ByValue}

-- where all states accept, the groups are the classes of equal values
pub ends-classes :
    (n : ℕ) (ends values groups : List ℕ) → ((v : ℕ) → v < n → 0 < get_or ends v 0) → ByEnds n ends values groups →
    ByValue n values groups
ends-classes n ends values groups all by =
    record {
      labelled = by.labelled;
      alike = λ v w hv hw. (
        λ e. ⊎_elim (λ same. ap (λ (x : ℕ). get_or values x 0) same) (λ t. t.2) ((by.alike v w hv hw).0 e),
        λ one. (by.alike v w hv hw).1 (inr (all v hv, all w hw, one)),
      );
    }
