-- What is claimed of the definitions: demand 3, whole; that tables read back as written and are rewritten to the same bytes; that
-- a list of names and rows make a book; and how many different rows a book has. `demands` of proofs/Demands.antt proves it all. Assumes
-- nothing.
use Rattle.std.specs.Prelude.{◌≡◌, Bool, true, ℕ, ◌<◌, ◌≤◌, length, get_or}
use mathlib.Core.List.{List, ◌++◌, Memᴰ as In}
use Rattle.base.specs.Limits.{work_bytes, book_rows, items_met}
use Rattle.base.specs.Lists.{all, filter_by, has_row, Distinct}
use Rattle.model.specs.Fields.{Class, ClassOk, File, file, Settings, Allowed, row_ok, read_book, read_names, accepted_file}
use Rattle.model.specs.Tables.{class_field, row_fields, admits}
use Rattle.model.specs.Classes.{Word, InClass}
use Rattle.model.specs.Joinings.{Step, tree_of, apart, is_full_joining, after_steps, joined_groups}
use Rattle.model.specs.Quotients.{book_states, book_table, table_after}
use Rattle.model.specs.Calls.{book_fault, book_of, different_rows, distinct_of, table_fault, table_states, rewritten, names_of}

-- a book is accepted: read without a fault, and its prefix tree has at most 512 states
abbrev pub Accepted : Settings → List ℕ → Type 0
Accepted settings s = book_fault settings s ≡ 0

-- each of these rows is among those
unfoldable pub all_among : List Word → List Word → Bool
all_among rows others = all (λ (r : Word). has_row r others) rows

-- books with the same names, class and set of rows
pub record SameBook (f g : File) : Type 0 where
  pub names_same : f.names ≡ g.names
  pub class_same : f.class_is ≡ g.class_is
  pub rows_there : all_among f.items g.items ≡ true
  pub rows_back : all_among g.items f.items ≡ true

-- the joining that defines a book's table: a list of steps, each open when it is made, none open after the last, that ends in
-- the groups that the table is made of; so the table after these steps is the book's
pub record DefiningJoining (f : File) : Type 0 where
  pub steps : List Step
  pub full_joining : is_full_joining f.class_is f.items steps ≡ true
  pub groups_are : after_steps (apart (tree_of f.items)) steps ≡ joined_groups f.class_is f.items

-- the words that a book's table admits
abbrev pub Admitted : File → Word → Type 0
Admitted f r = admits (book_states f) r ≡ true

-- demand 3, undivided, of books read with these settings: its seven facts
pub record Demand3 (settings : Settings) : Type 1 where
  -- every full joining of every accepted book with the same names, class and set of rows, whatever settings that one is read
  -- with, has the table that build writes
  pub any_order :
      (others : Settings) (s t : List ℕ) (steps : List Step) → Accepted settings s → Accepted others t →
      SameBook (book_of settings s) (book_of others t) →
      is_full_joining (book_of others t).class_is (book_of others t).items steps ≡ true →
      table_after (book_of others t) steps ≡ book_table (book_of settings s)
  -- a book is such a book itself, so its own full joinings are among these
  pub book_itself : (s : List ℕ) → SameBook (book_of settings s) (book_of settings s)
  -- such books have the same table, to the byte
  pub same_table :
      (others : Settings) (s t : List ℕ) → Accepted settings s → Accepted others t →
      SameBook (book_of settings s) (book_of others t) →
      book_table (book_of settings s) ≡ book_table (book_of others t)
  -- there is one: the joining that defines the table is a full joining of its book
  pub some_joining : (s : List ℕ) → Accepted settings s → DefiningJoining (book_of settings s)
  -- the table admits the book's rows
  pub rows_admitted :
      (s r : List ℕ) → Accepted settings s → has_row r (book_of settings s).items ≡ true → Admitted (book_of settings s) r
  -- what it admits lies in the class
  pub in_class : (s : List ℕ) → Accepted settings s → InClass (book_of settings s).class_is (Admitted (book_of settings s))
  -- no set of words of the class that holds the book's rows admits less
  pub smallest :
      (s : List ℕ) (l : Word → Type 0) → Accepted settings s → InClass (book_of settings s).class_is l →
      ((r : Word) → has_row r (book_of settings s).items ≡ true → l r) →
      (r : Word) → Admitted (book_of settings s) r → l r

-- the numbers are bytes
abbrev pub AllBytes : List ℕ → Type 0
AllBytes s = (i : ℕ) → i < length s → get_or s i 0 < 256

-- an accepted table is rewritten to the same bytes
pub record SameBytes : Type 0 where
  pub rewrites : (s work : List ℕ) → AllBytes s → table_fault s work ≡ 0 → rewritten s ≡ s

-- rows that a book with these names may have: 1 to 256, each of at most so many entries, and each entry a name's number
pub record RowsOk (names : List (List ℕ)) (rows : List Word) : Type 0 where
  pub some : 1 ≤ length rows
  pub few : length rows ≤ book_rows
  pub each : (r : Word) → In r rows → row_ok (length names) r ≡ true

-- what build writes with these settings is read back, with no refusal, as the states that it was written from
pub record ReadsBack (settings : Settings) : Type 0 where
  pub accepted_again :
      (s work : List ℕ) → Accepted settings s → work_bytes ≤ length work → table_fault (book_table (book_of settings s)) work ≡ 0
  pub same_states :
      (s : List ℕ) → Accepted settings s → table_states (book_table (book_of settings s)) ≡ book_states (book_of settings s)

-- an accepted list of names, a class field or none, and the fields of 1 to 256 rows over these names: what is read as a book, with
-- these settings, has these names, the class written or else that of the settings, and these rows
pub record RowsMakeBooks (settings : Settings) : Type 0 where
  pub without_class :
      (s : List ℕ) (rows : List Word) → (read_names s).number ≡ 0 → RowsOk (names_of s) rows →
      read_book settings (s ++ row_fields rows) ≡ accepted_file (file items_met (names_of s) settings.default_class rows)
  pub with_class :
      (s : List ℕ) (c : Class) (rows : List Word) → (read_names s).number ≡ 0 → ClassOk c → RowsOk (names_of s) rows →
      read_book settings (s ++ (class_field c ++ row_fields rows)) ≡ accepted_file (file items_met (names_of s) c rows)

-- the list is the set of these rows: each of them stands there, no other, and none twice
pub record SetOf (rows set : List Word) : Type 0 where
  pub there : all_among rows set ≡ true
  pub no_other : all_among set rows ≡ true
  pub once : Distinct set

-- the accepting states of the prefix tree: those whose words are rows
unfoldable pub accepting_nodes : List Word → List Word
accepting_nodes rows = filter_by (λ (w : Word). has_row w rows) (tree_of rows)

-- how many different rows a book has
pub record DifferentRows : Type 0 where
  -- it is the size of the set of rows: the different rows are that set, and every list that is has as many
  pub is_set : (f : File) → SetOf f.items (different_rows f.items)
  pub set_size : (f : File) (set : List Word) → SetOf f.items set → length set ≡ distinct_of f
  -- books with the same set of rows have the same number, whatever else is in them
  pub same_number :
      (f g : File) → all_among f.items g.items ≡ true → all_among g.items f.items ≡ true → distinct_of f ≡ distinct_of g
  -- it is at most the number of rows, and in an accepted book at least 1
  pub few : (f : File) → distinct_of f ≤ length f.items
  pub some : (settings : Settings) → Allowed settings → (s : List ℕ) → Accepted settings s → 1 ≤ distinct_of (book_of settings s)
  -- the prefix tree has as many accepting states
  pub accepting : (f : File) → length (accepting_nodes f.items) ≡ distinct_of f

-- all of it, with all settings that are allowed; that rows make books, with any settings
pub record Demands : Type 1 where
  pub third : (settings : Settings) → Allowed settings → Demand3 settings
  pub same_bytes : SameBytes
  pub reads_back : (settings : Settings) → Allowed settings → ReadsBack settings
  pub rows_make_books : (settings : Settings) → RowsMakeBooks settings
  pub different_rows_fact : DifferentRows
