-- What is handed over with walks: said of calls of plans_walk, that each tells what it shall by words, and that over the bytes that a build
-- wrote it tells what the walk alone tells, as it did before walks heeded ends. `walks_handed_over` of proofs/Walked.antt proves it.
-- Assumes nothing.
use Rattle.std.specs.Prelude.{◌≡◌, false, List, ℕ, take}
use Rattle.model.specs.Tables.{Told, told, plain_walk, admits}
use Rattle.model.specs.Classes.{Word}
use Rattle.model.specs.Calls.{table_states}
use Rattle.endings.specs.Words.{TellsByWords}
use Rattle.endings.specs.Live.{nowhere}
use Rattle.results.specs.declared.Walked.{Walked}
use Rattle.results.specs.Says.{WalkedSays}
use Rattle.handed_over.specs.Handed.{AcceptedBuild, written}

-- a walk that is not refused: the table, the row, the working area before and after, and what is given back; what plans_walk promises is
-- such a `says`
pub record AcceptedWalk : Type 0 where
  pub table : List ℕ
  pub row : List ℕ
  pub work : List ℕ
  pub work' : List ℕ
  pub result : Walked
  pub says : WalkedSays table row work work' result
  pub not_refused : result.refusal ≡ 0

-- what its caller is told: the outcome, so much of the row, the next names and how many they are
abbrev pub told_by : AcceptedWalk → Told
told_by w =
    told w.result.outcome (take w.result.walked w.row) w.result.next_names w.result.next_count

-- of every walk that is not refused
pub record WalksHandedOver : Type 0 where
  -- its caller is told what shall be told, by words
  pub by_words : (w : AcceptedWalk) → TellsByWords (table_states w.table) w.row (told_by w)
  -- where the table admits no row: that the row stops, an empty beginning, no names and a count of 0
  pub admits_nothing :
      (w : AcceptedWalk) → ((v : Word) → admits (table_states w.table) v ≡ false) → told_by w ≡ nowhere
  -- over what a build wrote: what the walk alone tells
  pub as_before :
      (b : AcceptedBuild) (w : AcceptedWalk) → w.table ≡ written b → told_by w ≡ plain_walk (table_states w.table) w.row
