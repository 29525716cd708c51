-- What is claimed of the counts: that the state record has the table and the counts file in it, of any table and rows; and of every
-- accepted book what the numbers say of each other. `counts_hold` of proofs/Claims.antt proves it all. Assumes nothing.
use Rattle.std.specs.Prelude.{◌≡◌, ◌↔◌, true, ℕ, ◌+◌, ◌*◌, ◌≤◌, ◌<◌, eqb, length, get_or}
use mathlib.Core.List.{List, map, flat_map, Memᴰ as In}
use Rattle.base.specs.Limits.{book_rows, row_limit, counts_bytes, number_limit, count_mark, when}
use Rattle.base.specs.Lists.{total, copies}
use Rattle.model.specs.Fields.{File, Settings, Allowed}
use Rattle.model.specs.Tables.{Arc, State, empty_state, field_bytes}
use Rattle.model.specs.Classes.{Word}
use Rattle.model.specs.Quotients.{book_states}
use Rattle.model.specs.Calls.{book_of}
use Rattle.model.specs.Claims.{Accepted}
use Rattle.counts.specs.Counts.{ends_at, passes_of, departures, arrivals, numbers_of}
use Rattle.counts.specs.Counts.{CountedState, counted_states, without_counts, count_body, counts_file, book_counts}

-- the state record of any table and rows: without the counts it is the table, and the counts file is written from it
pub record RecordHolds : Type 0 where
  pub table_in_it : (states : List State) (rows : List Word) → map without_counts (counted_states states rows) ≡ states
  pub counts_from_it :
      (states : List State) (rows : List Word) →
      counts_file states rows ≡ flat_map (λ (s : CountedState). field_bytes count_mark (count_body s)) (counted_states states rows)

-- the q-th state of a book's table
abbrev pub book_state : File → ℕ → State
book_state f q = get_or (book_states f) q empty_state

-- what the counts of a book say of each other, with f.items as the rows that are walked
pub record CountsAgree (f : File) : Type 0 where
  -- for each state, arrivals, at the start plus one for each row, are departures plus ends
  pub flow :
      (q : ℕ) → when (eqb 0 q) (length f.items) + arrivals (book_states f) f.items q
      ≡ departures (book_states f) f.items q + ends_at (book_states f) f.items q
  -- the ends of all states sum to the number of rows
  pub ends_sum : total (ends_at (book_states f) f.items) (numbers_of (book_states f)) ≡ length f.items
  -- rows end in a state exactly if it accepts
  pub ends_accept : (q : ℕ) → (0 < ends_at (book_states f) f.items q) ↔ ((book_state f q).accepts ≡ true)
  -- every arc is passed
  pub all_passed : (q : ℕ) (a : Arc) → In a (book_state f q).arcs → 0 < passes_of (book_states f) f.items q a.name
  -- no number exceeds what two bytes take
  pub ends_small : (q : ℕ) → ends_at (book_states f) f.items q ≤ book_rows
  pub passes_small : (q a : ℕ) → passes_of (book_states f) f.items q a ≤ book_rows * row_limit
  pub two_bytes_take : book_rows * row_limit < number_limit
  -- and the file is never longer than this
  pub counts_length : length (book_counts f) ≤ counts_bytes

-- books with the same class and the same rows equally often
pub record SameBag (f g : File) : Type 0 where
  pub class_same : f.class_is ≡ g.class_is
  pub copies_same : (row : Word) → copies row f.items ≡ copies row g.items

-- all of it, of every accepted book, with all settings that are allowed
pub record CountsHold : Type 0 where
  pub state_record : RecordHolds
  pub agree : (settings : Settings) → Allowed settings → (s : List ℕ) → Accepted settings s → CountsAgree (book_of settings s)
  -- the counts depend on the rows only as a bag
  pub by_bag :
      (settings others : Settings) (s t : List ℕ) → Allowed settings → Allowed others → Accepted settings s →
      Accepted others t → SameBag (book_of settings s) (book_of others t) →
      book_counts (book_of settings s) ≡ book_counts (book_of others t)
