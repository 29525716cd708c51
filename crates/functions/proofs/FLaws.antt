-- The rule of f from rounds: joined until closed, from the partition by ends on, is joined by the rule of f. One law over what it
-- is to be closed against the arcs, then last names and seen sets. Assumes nothing.
use mathlib.Core.Path.{◌≡◌, ap}
use mathlib.Core.Logic.{inr, ⊎_elim}
use mathlib.Core.Bool.{true, false}
use mathlib.Core.List.{List}
use Prim.Native.Nat.{ℕ, ◌<◌}
use native.Mathlib.Omega.{arith}
use lib.ListN.{get_or}
use Rattle.base.specs.Limits.{name_limit}
use Rattle.base.specs.Lists.{numbers_from}
use Rattle.indexed.specs.Trees.{Arrays}
use Rattle.indexed.specs.Partitions.{Refines, KeyClosed, ForkClosed, EndsClosed, BackClosed}
use Rattle.indexed.specs.Passes.{SuffixAlike, ByEnds, NamesAbove, SeenSets, KeysWhere, FJoined}
use Rattle.indexed.proofs.Keys.{forks-keys, keys_forks}
use Rattle.indexed.proofs.Functions.{last_forks, seen_forks, last_back, last_keys, seen_back, seen_keys}
use Rattle.worklist.specs.Settling.{RoundClosed, JoinedUntil}
use Rattle.functions.specs.Rounds.{Finished}
use Rattle.functions.specs.Results.{JoinedByLast, JoinedBySeen}

module _ (n : ℕ) (parents names ends values : List ℕ) (arrays : Arrays n parents names) where
  -- accepting states with one value are in one group in any partition closed under ends
  ends-inside :
      (start others : List ℕ) → ByEnds n ends values start → EndsClosed n ends values others → Refines n start others
  ends-inside start others by closed v w hv hw one =
      ⊎_elim (λ e. ap (λ (x : ℕ). get_or others x 0) e) (λ t. closed v w hv hw t.0 t.1 t.2) ((by.alike v w hv hw).0 one)

  -- the rule against the arcs said by keys, both ways, where members of a group agree in f
  pub f_joined :
      (keys more start groups : List ℕ) → ForkClosed n parents names values → ByEnds n ends values start →
      ((l : List ℕ) → Refines n l values → KeyClosed n (numbers_from n 0) parents keys l →
      KeyClosed n (numbers_from n 0) parents more l → BackClosed n parents names values l) →
      ((l : List ℕ) → Refines n l values → BackClosed n parents names values l →
      KeyClosed n (numbers_from n 0) parents keys l) →
      ((l : List ℕ) → Refines n l values → BackClosed n parents names values l →
      KeyClosed n (numbers_from n 0) parents more l) →
      JoinedUntil (RoundClosed n parents names (numbers_from n 0) keys more) n start groups →
      FJoined n parents names ends values groups
  f_joined keys more start groups value-forks by back-of keys_of more_of until =
      record {
        labelled = until.labelled;
        sound = λ others agree forks ends-shut back.
            until.sound others (round-closed others agree forks back) (ends-inside start others by ends-shut);
        fork_closed = keys_forks n parents names groups arrays until.closed.forks;
        ends_closed = λ v w hv hw in-v in-w alike. until.coarser v w hv hw ((by.alike v w hv hw).1 (inr (in-v, in-w, alike)));
        back_closed = back-of groups agrees until.closed.backs until.closed.others;
      }
    where
      round-closed :
          (l : List ℕ) → Refines n l values → ForkClosed n parents names l → BackClosed n parents names values l →
          RoundClosed n parents names (numbers_from n 0) keys more l
      round-closed l agree forks back =
          record {
            forks = forks-keys n parents names l arrays forks;
            backs = keys_of l agree back;
            others = more_of l agree back;
          }

      -- members of a group agree in f, since f's values are closed themselves
      agrees : Refines n groups values
      agrees =
          until.sound values
          (round-closed values (λ a b ha hb e. e) value-forks (λ v w pv pw hv hw same_name one same. one))
          (ends-inside start values by (λ v w hv hw in-v in-w alike. alike))

-- keys of none but 64 ask nothing
none-closed :
    (n : ℕ) (ins outs none groups : List ℕ) → ((v : ℕ) → v < n → get_or none v 0 ≡ name_limit) →
    KeyClosed n ins outs none groups
none-closed n ins outs none groups is v w hv hw below same_key same_row = absurd (omega (arith, is v hv))

pub joined_by_last :
    (n j : ℕ) (parents names ends codes keys none groups : List ℕ) → Arrays n parents names →
    SuffixAlike n j parents names codes → NamesAbove n j parents names keys →
    ((v : ℕ) → v < n → get_or none v 0 ≡ name_limit) → Finished n parents names ends codes keys none groups →
    JoinedByLast n j parents names ends groups
joined_by_last n j parents names ends codes keys none groups arrays by above is finished =
    record {
      codes = codes;
      by_codes = by;
      joined =
          f_joined n parents names ends codes arrays keys none finished.start groups
          (last_forks n j parents names codes arrays by) finished.by_ends
          (λ l agree shut more. last_back n parents names arrays j codes keys l by above agree shut)
          (λ l agree back. last_keys n parents names arrays j codes keys l by above agree back)
          (λ l agree back. none-closed n (numbers_from n 0) parents none l is) finished.until;
    }

pub joined_by_seen :
    (n : ℕ) (parents names ends seen enlarging others groups : List ℕ) → Arrays n parents names →
    SeenSets n parents names seen → KeysWhere n true parents names seen enlarging →
    KeysWhere n false parents names seen others → Finished n parents names ends seen enlarging others groups →
    JoinedBySeen n parents names ends groups
joined_by_seen n parents names ends seen enlarging others groups arrays sets keys keys' finished =
    record {
      seen = seen;
      sets = sets;
      joined =
          f_joined n parents names ends seen arrays enlarging others finished.start groups
          (seen_forks n parents names seen sets) finished.by_ends
          (λ l agree shut more. seen_back n parents names arrays seen enlarging others l sets keys keys' shut more)
          (λ l agree back. seen_keys n parents names arrays true seen enlarging l sets keys agree back)
          (λ l agree back. seen_keys n parents names arrays false seen others l sets keys' agree back)
          finished.until;
    }
