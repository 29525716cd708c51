-- What is handed over with build: demand 3, undivided, said of the bytes that builds wrote, with whichever allowed settings; calls
-- of build_table, and of plans_build for C, are those with the standard ones. First what one table is, then builds, then all of it.
-- `build_handed_over` of proofs/Handed.antt proves it. Assumes nothing.
use Rattle.std.specs.Prelude.{◌≡◌, true, List, ℕ, take}
use Rattle.base.specs.Lists.{has_row}
use Rattle.model.specs.Fields.{Settings, Allowed, File}
use Rattle.model.specs.Tables.{admits}
use Rattle.model.specs.Classes.{Word, InClass}
use Rattle.model.specs.Joinings.{Step, is_full_joining}
use Rattle.model.specs.Quotients.{table_after}
use Rattle.model.specs.Calls.{book_of, table_states}
use Rattle.model.specs.Claims.{Accepted, SameBook, DefiningJoining}
use Rattle.results.specs.declared.Built.{Built}
use Rattle.results.specs.Says.{BuildSays}

-- the words that a table's bytes admit
abbrev pub TableAdmits : List ℕ → Word → Type 0
TableAdmits table r = admits (table_states table) r ≡ true

-- these bytes are the table of the book that demand 3 speaks of
pub record HandedOver (book : File) (table : List ℕ) : Type 1 where
  -- every full joining, of every accepted book with the same names, class and set of rows, whatever settings that one is read with,
  -- has this table
  pub any_order :
      (others : Settings) (other : List ℕ) (steps : List Step) → Accepted others other → SameBook book (book_of others other) →
      is_full_joining (book_of others other).class_is (book_of others other).items steps ≡ true →
      table_after (book_of others other) steps ≡ table
  -- the book is such a book itself, so its own full joinings are among these
  pub book_itself : SameBook book book
  -- there is one: the joining that defines the book's table is a list of steps, each open when it is made, none open at the end
  pub some_joining : DefiningJoining book
  -- and the table after its steps is this one
  pub its_table : table_after book some_joining.steps ≡ table
  -- the table admits the book's rows
  pub rows_admitted : (r : Word) → has_row r book.items ≡ true → TableAdmits table r
  -- what it admits lies in the class
  pub in_class : InClass book.class_is (TableAdmits table)
  -- no set of words of the class that holds the book's rows admits less
  pub smallest :
      (l : Word → Type 0) → InClass book.class_is l → ((r : Word) → has_row r book.items ≡ true → l r) →
      (r : Word) → TableAdmits table r → l r

-- a build that is not refused: its settings, the book, the working area and the output before and after, and what is given back;
-- what build_table promises is such a `says`, with the standard settings
pub record AcceptedBuild : Type 0 where
  pub settings : Settings
  pub allowed : Allowed settings
  pub book : List ℕ
  pub work : List ℕ
  pub work' : List ℕ
  pub out : List ℕ
  pub out' : List ℕ
  pub result : Built
  pub says : BuildSays settings book work work' out out' result
  pub not_refused : result.refusal ≡ 0

-- the book as it is read
abbrev pub book_in : AcceptedBuild → File
book_in b = book_of b.settings b.book

-- the bytes that it wrote
abbrev pub written : AcceptedBuild → List ℕ
written b = take b.result.length b.out'

-- two builds wrote the same bytes and gave back the same numbers
pub record SameResults (b c : AcceptedBuild) : Type 0 where
  pub bytes_same : written b ≡ written c
  pub lengths_same : b.result.length ≡ c.result.length
  pub states_same : b.result.states ≡ c.result.states
  pub joins_same : b.result.joins ≡ c.result.joins
  pub distinct_same : b.result.distinct ≡ c.result.distinct

-- demand 3, undivided, of every build that is not refused
pub record BuildHandedOver : Type 1 where
  -- what it wrote is the table that demand 3 speaks of
  pub each_build : (b : AcceptedBuild) → HandedOver (book_in b) (written b)
  -- any two builds of books with the same names, class and set of rows agree, whatever their settings and what their areas and
  -- outputs held
  pub two_builds : (b c : AcceptedBuild) → SameBook (book_in b) (book_in c) → SameResults b c
