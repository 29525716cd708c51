-- Laws of a joining whose ends join nothing: it is closed already. Assumes nothing.
use mathlib.Core.Path.{◌≡◌, ap}
use mathlib.Core.List.{List}
use Prim.Native.Nat.{ℕ}
use lib.ListN.{get_or}
use Rattle.base.specs.Lists.{numbers_from}
use Rattle.indexed.specs.Trees.{Arrays}
use Rattle.indexed.specs.Partitions.{Alone, KeyClosed}
use Rattle.indexed.specs.Passes.{ByEnds}
use Rattle.base.proofs.Places.{number_at}
use Rattle.indexed.proofs.Keys.{forks-keys}
use Rattle.indexed.proofs.Alone.{alone_same, alone_forks}
use Rattle.worklist.specs.Settling.{RoundClosed}
use Rattle.functions.specs.Rounds.{FinishReady, Finished}

-- states each by itself are closed: a state has at most one child by a name, and one parent
alone_closed :
    (n : ℕ) (parents names keys more groups : List ℕ) → Arrays n parents names → Alone n groups →
    RoundClosed n parents names (numbers_from n 0) keys more groups
alone_closed n parents names keys more groups arrays alone =
    record {
      forks = forks-keys n parents names groups arrays (alone_forks n parents names groups arrays alone);
      backs = backs keys;
      others = backs more;
    }
  where
    backs : (ks : List ℕ) → KeyClosed n (numbers_from n 0) parents ks groups
    backs ks v w hv hw below key one =
        let at-v : get_or (numbers_from n 0) v 0 ≡ v = number_at n v hv in
        let at-w : get_or (numbers_from n 0) w 0 ≡ w = number_at n w hw in
        ap (λ (x : ℕ). get_or groups (get_or parents x 0) 0) (alone_same n groups alone v w hv hw (rw (at-v, at-w) at one))

-- so where the ends join nothing, it is finished
pub finished_alone :
    (n : ℕ) (parents names ends values keys more groups : List ℕ) → FinishReady n parents names ends values keys more →
    ByEnds n ends values groups → Alone n groups → Finished n parents names ends values keys more groups
finished_alone n parents names ends values keys more groups ready by alone =
    record {
      start = groups;
      by_ends = by;
      until =
          record {
            labelled = by.labelled;
            coarser = λ v w hv hw one. one;
            sound = λ others closed refines. refines;
            closed = alone_closed n parents names keys more groups ready.arrays alone;
          };
    }
