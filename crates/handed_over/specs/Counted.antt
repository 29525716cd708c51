-- What is handed over with a build that has counts, with whichever allowed settings; calls of build_counted, and of plans_build_counted for
-- C, are those with the standard ones. First a build with counts, then what is said of every one, refused or not, then of those that are
-- not refused. `counted-handed_over` of proofs/Counted.antt proves it. Assumes nothing.
use Rattle.std.specs.Prelude.{◌≡◌, List, ℕ, ◌<◌, ◌≤◌, length, take}
use Rattle.base.specs.Limits.{counts_bytes, output_too_short}
use Rattle.model.specs.Fields.{Settings, Allowed, File}
use Rattle.model.specs.Quotients.{book_states}
use Rattle.model.specs.Calls.{book_of, build_fault, table_states}
use Rattle.counts.specs.Counts.{counts_file, book_counts}
use Rattle.counts.specs.Claims.{CountsAgree, SameBag}
use Rattle.results.specs.declared.Counted.{Counted}
use Rattle.results.specs.Says.{BuildSays, CountedSays, not_counted, uncounted}
use Rattle.handed_over.specs.Handed.{HandedOver}

-- a build with counts: its settings, the book, the working area and both outputs before and after, and what is given back; what
-- build_counted promises is such a `says`, with the standard settings
pub record CountedBuild : Type 0 where
  pub settings : Settings
  pub allowed : Allowed settings
  pub book : List ℕ
  pub work : List ℕ
  pub work' : List ℕ
  pub out : List ℕ
  pub out' : List ℕ
  pub counts : List ℕ
  pub counts' : List ℕ
  pub result : Counted
  pub says : CountedSays settings book work work' out out' counts counts' result

-- the book as it is read
abbrev pub book_counted : CountedBuild → File
book_counted b = book_of b.settings b.book

-- the table that it wrote, and the counts
abbrev pub table_written : CountedBuild → List ℕ
table_written b = take b.result.length b.out'

abbrev pub counts_written : CountedBuild → List ℕ
counts_written b = take b.result.counts_length b.counts'

-- what a build says, of the table and the numbers of a build with counts
abbrev pub AsBuilt : CountedBuild → Type 0
AsBuilt b = BuildSays b.settings b.book b.work b.work' b.out b.out' (uncounted b.result)

-- nothing but 13 is given back, and both outputs are as they were
pub record OnlyTooShort (b : CountedBuild) : Type 0 where
  pub result_is : b.result ≡ not_counted output_too_short
  pub out_kept : b.out' ≡ b.out
  pub counts_kept : b.counts' ≡ b.counts

-- of every build with counts
pub record CountedHandedOver : Type 1 where
  -- where its second output takes the counts, if the build comes to them, the table's bytes, the numbers and the refusals are those of a
  -- build without counts; one of 3,584 bytes always takes them
  pub as_built :
      (b : CountedBuild) →
      (build_fault b.settings b.book b.work ≡ 0 → length (book_counts (book_counted b)) ≤ length b.counts) → AsBuilt b
  pub always_enough : (b : CountedBuild) → counts_bytes ≤ length b.counts → AsBuilt b
  -- where that output is too short for the counts of a book that is accepted, it is refused by 13
  pub too_short_fact :
      (b : CountedBuild) → build_fault b.settings b.book b.work ≡ 0 →
      length b.counts < length (book_counts (book_counted b)) → OnlyTooShort b
  -- refused, by whichever number: both outputs are as they were
  pub refused : (b : CountedBuild) → 0 < b.result.refusal → (b.out' ≡ b.out) × (b.counts' ≡ b.counts)
  -- where it is not refused, the table and the numbers are those of a build that is not refused, so that demand 3 holds of the table
  pub accepted : (b : CountedBuild) → b.result.refusal ≡ 0 → AsBuilt b
  pub handed_over : (b : CountedBuild) → b.result.refusal ≡ 0 → HandedOver (book_counted b) (table_written b)
  -- the counts are those that walking the book's rows over the written table gives
  pub by_walking :
      (b : CountedBuild) → b.result.refusal ≡ 0 →
      counts_written b ≡ counts_file (table_states (table_written b)) (book_counted b).items
  -- the states of the written table are the book's, and the counts agree with each other as document 02 says
  pub states_are : (b : CountedBuild) → b.result.refusal ≡ 0 → table_states (table_written b) ≡ book_states (book_counted b)
  pub agree : (b : CountedBuild) → b.result.refusal ≡ 0 → CountsAgree (book_counted b)
  -- and books with the same class and the same rows equally often have the same
  pub by_bag :
      (b c : CountedBuild) → b.result.refusal ≡ 0 → c.result.refusal ≡ 0 → SameBag (book_counted b) (book_counted c) →
      counts_written b ≡ counts_written c
