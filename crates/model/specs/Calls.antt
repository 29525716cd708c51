-- What is given back (docs/SCOPE.md, section 4): what every call says of its answer and of each lent byte; then which refusal a build, a
-- rewriting and a walk come to, in the order in which they are judged, and what is written where there is none. The crate `results`
-- puts the two together, one definition for each public entry. Assumes nothing.
use Rattle.std.specs.Prelude.{◌≡◌, Bool, true, false, ◌||◌, not, cond, List, [], ◌∷◌, ◌++◌, ℕ, ◌-◌, ◌<◌, ◌≤◌, eqb, ltb, length, drop, replicate}
use Rattle.base.specs.Lists.{filter_by, same}
use Rattle.base.specs.Limits.{state_limit, input_limit, work_bytes, when, first_of}
use Rattle.base.specs.Limits.{bad_sizes, bad_row, tree_too_large, bad_numbering, output_too_short}
use Rattle.model.specs.Fields.{File, Settings, read_book, read_table, read_names, row_ok}
use Rattle.model.specs.Tables.{State, states_in, bytes_of_table, is_first_met}
use Rattle.model.specs.Classes.{Word}
use Rattle.model.specs.Joinings.{tree_of}
use Rattle.model.specs.Quotients.{book_states}

-- ---- every call

-- what a call comes to, for an answer of type A: its refusal, all but 13; the answer of a refused call, by the refusal's number; the
-- answer where nothing is refused; and what is to stand at the front of each output
pub record Call (A : Type 0) : Type 0 where
  pub refusal : ℕ
  pub none : ℕ → A
  pub answer : A
  pub writes : List (List ℕ)

-- the same call with its answer seen as another
abbrev pub seen_as : {A B : Type 0} → (A → B) → Call A → Call B
seen_as f c = record { refusal = c.refusal; none = λ k. f (c.none k); answer = f c.answer; writes = c.writes }

-- an output is shorter than what is to stand at its front
unfoldable pub too_short : List (List ℕ) → List (List ℕ) → Bool
too_short [] outs = false
too_short (w ∷ ws) [] = true
too_short (w ∷ ws) (out ∷ outs) = ltb (length out) (length w) || too_short ws outs

-- the bytes at the front of an output, which is untouched beyond them
abbrev pub over : List ℕ → List ℕ → List ℕ
over bytes out = bytes ++ drop (length bytes) out

-- the outputs with what is written at their fronts
unfoldable pub fronts : List (List ℕ) → List (List ℕ) → List (List ℕ)
fronts [] outs = outs
fronts (w ∷ ws) [] = []
fronts (w ∷ ws) (out ∷ outs) = over w out ∷ fronts ws outs

-- the refusal of a call with these outputs: 13 comes last
abbrev pub fault_with : {A : Type 0} → Call A → List (List ℕ) → ℕ
fault_with c outs = first_of c.refusal (when (too_short c.writes outs) output_too_short)

-- a value where nothing is refused, and otherwise what stands for none
abbrev pub unless : {A : Type 0} → ℕ → A → A → A
unless fault none value = cond (eqb fault 0) value none

-- the answer, and the outputs before and after: a refused call leaves each output as it was
pub record Gives {A : Type 0} (c : Call A) (outs outs' : List (List ℕ)) (r : A) : Type 0 where
  pub answer_is : r ≡ unless (fault_with c outs) (c.none (fault_with c outs)) c.answer
  pub outputs_are : outs' ≡ unless (fault_with c outs) outs (fronts c.writes outs)

-- what a public entry says: its answer and its outputs; and every byte of the working area is zero afterwards, refused or not
pub record Says {A : Type 0} (c : Call A) (work work' : List ℕ) (outs outs' : List (List ℕ)) (r : A) : Type 0 where
  pub gives : Gives c outs outs' r
  pub same_length : length work' ≡ length work
  pub work_zero : work' ≡ replicate (length work') 0

-- a fault that is this refusal, which is one
pub record Refuses (fault number : ℕ) : Type 0 where
  pub is : fault ≡ number
  pub some : 0 < number

-- ---- what is refused, and what is written

-- 1: input over 65,535 bytes, or a working area under 65,536
unfoldable pub sizes_fault : List ℕ → List ℕ → ℕ
sizes_fault input work = when (ltb input_limit (length input) || ltb (length work) work_bytes) bad_sizes

-- with every working area that is long enough the refusal is this one, or 0
abbrev pub WithWork : (List ℕ → ℕ) → ℕ → Type 0
WithWork fault number = (work : List ℕ) → work_bytes ≤ length work → fault work ≡ number

-- the book that the bytes hold
unfoldable pub book_of : Settings → List ℕ → File
book_of settings s = (read_book settings s).file_is

-- 10: the prefix tree of the rows needs over 512 states
abbrev pub tree_fault : List Word → ℕ
tree_fault rows = when (ltb state_limit (length (tree_of rows))) tree_too_large

-- the fields' refusals, then 10
unfoldable pub book_fault : Settings → List ℕ → ℕ
book_fault settings s = first_of (read_book settings s).number (tree_fault (book_of settings s).items)

-- a build: 1, the fields', 10
unfoldable pub build_fault : Settings → List ℕ → List ℕ → ℕ
build_fault settings s work = first_of (sizes_fault s work) (book_fault settings s)

-- joins: tree states less table states
unfoldable pub joins_of : File → ℕ
joins_of f = length (tree_of f.items) - length (book_states f)

-- the rows without later copies: each different row once, where it is first met
unfoldable pub different_rows : List Word → List Word
different_rows [] = []
different_rows (row ∷ rows) = row ∷ filter_by (λ (other : Word). not (same row other)) (different_rows rows)

-- how many different rows a book has: the size of the set of its rows
unfoldable pub distinct_of : File → ℕ
distinct_of f = length (different_rows f.items)

-- the table that the bytes hold
unfoldable pub table_of : List ℕ → File
table_of s = (read_table s).file_is

-- the states of that table
unfoldable pub table_states : List ℕ → List State
table_states s = states_in (table_of s).items

-- a table: 1, the fields', 12
unfoldable pub table_fault : List ℕ → List ℕ → ℕ
table_fault s work =
    first_of (sizes_fault s work)
    (first_of (read_table s).number
    (when (not (is_first_met (table_states s))) bad_numbering))

-- a table read and written again
unfoldable pub rewritten : List ℕ → List ℕ
rewritten s = bytes_of_table (table_of s).names (table_of s).class_is (table_states s)

-- a walk: the table wholly, then its row by 9
unfoldable pub walk_fault : List ℕ → List ℕ → List ℕ → ℕ
walk_fault s row work =
    first_of (table_fault s work) (when (not (row_ok (length (table_of s).names) row)) bad_row)

-- the names of a list of names
abbrev pub names_of : List ℕ → List (List ℕ)
names_of s = (read_names s).file_is.names
