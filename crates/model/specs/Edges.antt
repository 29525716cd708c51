-- The edges (docs/SCOPE.md, section 10.1): the longest row that a book or a walk takes and the largest prefix tree, with their numbers
-- written out, and what is one too large; and that what a table admits has no such limit: P2's table admits rows that no walk takes,
-- and a table may admit none but such rows. `edges_hold` of proofs/Edges.antt proves it. Assumes nothing.
use Rattle.std.specs.Prelude.{◌≡◌, true, false, ℕ, zero, suc, ◌+◌, ◌-◌, ◌<◌, ◌≤◌, length, get_or, replicate}
use mathlib.Core.List.{List, [], ◌∷◌, ◌++◌, map, Memᴰ as In}
use Rattle.base.specs.Lists.{numbers_from, has_row, Distinct}
use Rattle.base.specs.Limits.{context_kind, row_limit, bad_row, tree_too_large}
use Rattle.model.specs.Fields.{class_of, Settings, Allowed, standard}
use Rattle.model.specs.Tables.{arc, State, state, name_fields, row_fields, bytes_of_table, admits}
use Rattle.model.specs.Classes.{Word}
use Rattle.model.specs.Joinings.{tree_of}
use Rattle.model.specs.Quotients.{book_table}
use Rattle.model.specs.Calls.{WithWork, book_of, build_fault, table_fault, table_states, walk_fault}
use Rattle.model.specs.Claims.{Accepted}
use Rattle.model.specs.WorkedDays.{p2, s, snack, names_written}

-- ---- rows

-- so many snacks, of the four names of the worked days
abbrev pub snacks : ℕ → Word
snacks n = replicate n s

-- a book of these rows over those names
abbrev pub day_book : List Word → List ℕ
day_book rows = names_written ++ row_fields rows

-- the table of P2
abbrev pub p2_table : List ℕ
p2_table = book_table (book_of standard p2.book_bytes)

-- n states in a chain from number i on, each with an arc by name 0 to the next, and one more, which accepts
unfoldable pub chain_from : ℕ → ℕ → List State
chain_from i zero = state true [] ∷ []
chain_from i (suc n) = state false (arc 0 (suc i) ∷ []) ∷ chain_from (suc i) n

-- a table of 42 states over one name
abbrev pub long_chain : List ℕ
long_chain = bytes_of_table (snack ∷ []) (class_of context_kind 1 1) (chain_from 0 41)

-- ---- prefix trees

-- how many entries rows have together
unfoldable pub entries_of : List Word → ℕ
entries_of [] = 0
entries_of (row ∷ rows) = length row + entries_of rows

-- rows with different first names, so none of them is empty
pub record DifferentFirsts (rows : List Word) : Type 0 where
  pub some_entry : In [] rows → ⊥
  pub different : Distinct (map (λ (row : Word). get_or row 0 0) rows)

-- a row of n entries, of one at least: this name, and then name 0
abbrev pub row_from : ℕ → ℕ → Word
row_from n first = first ∷ replicate (n - 1) 0

-- thirteen rows with different first names, twelve of 40 entries and the last of so many
abbrev pub thirteen_rows : ℕ → List Word
thirteen_rows last = map (row_from 40) (numbers_from 12 0) ++ (row_from last 12 ∷ [])

-- their book; the names are a to m
abbrev pub thirteen_book : ℕ → List ℕ
thirteen_book last = name_fields (map (λ (i : ℕ). (0x61 + i) ∷ []) (numbers_from 13 0)) ++ row_fields (thirteen_rows last)

-- ---- what is claimed

pub record EdgesClaimed : Type 0 where
  -- a book's row of 40 entries passes, and one of 41 gives 9
  pub row_passes : WithWork (build_fault standard (day_book (snacks 40 ∷ []))) 0
  pub row_refused : WithWork (build_fault standard (day_book (snacks 41 ∷ []))) bad_row
  -- no row of an accepted book is over the limit
  pub rows_bounded :
      (settings : Settings) → Allowed settings → (book : List ℕ) → Accepted settings book → (row : Word) →
      In row (book_of settings book).items → length row ≤ row_limit
  -- a walk over P2's table: 40 snacks pass, and 41 give 9
  pub walk_passes : WithWork (walk_fault p2_table (snacks 40)) 0
  pub walk_refused : WithWork (walk_fault p2_table (snacks 41)) bad_row
  -- over every accepted table a walk of a row over the limit gives 9, whatever the table admits
  pub walk_bounded :
      (table row work : List ℕ) → table_fault table work ≡ 0 → row_limit < length row → walk_fault table row work ≡ bad_row
  -- yet P2's table admits 41 snacks, and every number of them from 1 on
  pub admitted : admits (table_states p2_table) (snacks 41) ≡ true
  pub any_number : (n : ℕ) → admits (table_states p2_table) (snacks (suc n)) ≡ true
  -- a table is accepted that admits its one name 41 times, and no other row, of any length
  pub chain_accepted : WithWork (table_fault long_chain) 0
  pub chain_admits : (r : Word) → admits (table_states long_chain) r ≡ has_row r (replicate 41 0 ∷ [])
  -- rows with different first names need a state for each entry, and the root
  pub tree_states : (rows : List Word) → DifferentFirsts rows → length (tree_of rows) ≡ 1 + entries_of rows
  -- so thirteen such rows, twelve of 40 and one of 31, need 512 states and pass; with 32 in the last they give 10
  pub thirteen_states : length (tree_of (thirteen_rows 31)) ≡ 512
  pub thirteen_pass : WithWork (build_fault standard (thirteen_book 31)) 0
  pub thirteen_refused : WithWork (build_fault standard (thirteen_book 32)) tree_too_large
