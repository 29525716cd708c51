-- What is claimed of walks and of ends: that a walk tells what it shall by words, and that this leaves nothing open; that over the tables
-- that builds write each walk tells what it told by itself. `endings_hold` of proofs/Claims.antt proves it all. Assumes nothing.
use Rattle.std.specs.Prelude.{◌≡◌, false, List, ℕ, ◌<◌, length}
use Rattle.model.specs.Fields.{Settings, Allowed}
use Rattle.model.specs.Tables.{State, Told, admits, plain_walk}
use Rattle.model.specs.Classes.{Word}
use Rattle.model.specs.Sources.{Reaches}
use Rattle.model.specs.Quotients.{book_table}
use Rattle.model.specs.Calls.{book_of, table_fault, table_states}
use Rattle.model.specs.Claims.{Accepted}
use Rattle.endings.specs.Words.{BeginsAdmitted, TellsByWords}
use Rattle.endings.specs.Live.{level_of, IsLevel, nowhere, live_walk}

-- of every accepted table
pub record WalksByWords : Type 0 where
  -- a walk tells what it shall by words
  pub by_words :
      (s work : List ℕ) → table_fault s work ≡ 0 → (row : Word) → TellsByWords (table_states s) row (live_walk (table_states s) row)
  -- and this alone can be told
  pub determined :
      (s work : List ℕ) → table_fault s work ≡ 0 → (row : Word) (tells : Told) → TellsByWords (table_states s) row tells →
      tells ≡ live_walk (table_states s) row
  -- each state's level is the fewest names to an end, plus 1, or 0
  pub levels : (s work : List ℕ) → table_fault s work ≡ 0 → (q : ℕ) → IsLevel (table_states s) q (level_of (table_states s) q)
  -- where no row is admitted, every row stops, the empty one too, with an empty beginning, no names and a count of 0
  pub admits_nothing :
      (s work : List ℕ) → table_fault s work ≡ 0 → ((w : Word) → admits (table_states s) w ≡ false) → (row : Word) →
      live_walk (table_states s) row ≡ nowhere

-- a state begins an admitted row: some row leads to it from the start, and begins one
pub record StateBegins (states : List State) (q : ℕ) : Type 0 where
  pub row : Word
  pub leads_there : Reaches states 0 row q
  pub begins : BeginsAdmitted states row

-- the states of the table that a build with these settings writes for a book
abbrev pub built_states : Settings → List ℕ → List State
built_states settings s = table_states (book_table (book_of settings s))

-- of the table of every accepted book
pub record BuiltWalks (settings : Settings) : Type 0 where
  -- every state begins an admitted row
  pub every_state :
      (s : List ℕ) → Accepted settings s → (q : ℕ) → q < length (built_states settings s) → StateBegins (built_states settings s) q
  -- so each walk, of every row, tells what the walk alone tells: outcome, beginning, next names and their number
  pub as_before :
      (s : List ℕ) → Accepted settings s → (row : Word) →
      live_walk (built_states settings s) row ≡ plain_walk (built_states settings s) row

-- all of it, with all settings that are allowed
pub record EndingsHold : Type 0 where
  pub walks : WalksByWords
  pub built : (settings : Settings) → Allowed settings → BuiltWalks settings
