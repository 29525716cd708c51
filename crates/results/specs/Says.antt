-- What the public entries say (docs/SCOPE.md, sections 4, 5, 8, 11, 12 and 13): each entry is one call in the shape of model's Calls, so
-- that its result and every lent byte are equal to what a definition of `model`, `counts`, `endings` or `written_plans` gives. Assumes
-- nothing.
use Rattle.std.specs.Prelude.{◌≡◌, Bool, true, List, [], ◌∷◌, ℕ, leb, length}
use Rattle.base.specs.Limits.{bad_plan, when}
use Rattle.model.specs.Fields.{Settings}
use Rattle.model.specs.Tables.{State, Told, row_fields}
use Rattle.model.specs.Quotients.{book_states, book_table}
use Rattle.model.specs.Calls.{Call, Says, over, unless}
use Rattle.model.specs.Calls.{book_of, build_fault, joins_of, distinct_of, table_fault, rewritten, walk_fault, table_states}
use Rattle.model.specs.Listing.{book_listing, listing_of}
use Rattle.written_plans.specs.Calls.{plan_reading, plan_rows, plan_fault}
use Rattle.counts.specs.Counts.{counts_if}
use Rattle.endings.specs.Live.{live_walk}
use Rattle.results.specs.declared.Built.{Built}
use Rattle.results.specs.declared.Counted.{Counted}
use Rattle.results.specs.declared.Rewritten.{Rewritten}
use Rattle.results.specs.declared.Walked.{Walked}
use Rattle.results.specs.declared.Written.{Written}
use Rattle.results.specs.declared.PlanRows.{PlanRows}

-- ---- a table built

-- a result by its parts
abbrev pub built : ℕ → ℕ → ℕ → ℕ → ℕ → Built
built refusal length states joins distinct =
    record { refusal = refusal; length = length; states = states; joins = joins; distinct = distinct }

-- a refused build gives its number, and no table
abbrev pub not_built : ℕ → Built
not_built refusal = built refusal 0 0 0 0

-- the table of a book built with these settings: its length, its states, the joins, and how many different rows the book has
unfoldable pub building : Settings → List ℕ → List ℕ → Call Built
building settings book work =
    let f = book_of settings book in
    record {
      refusal = build_fault settings book work;
      none = not_built;
      answer = built 0 (length (book_table f)) (length (book_states f)) (joins_of f) (distinct_of f);
      writes = book_table f ∷ [];
    }

-- what an entry that builds with these settings promises, build_table with the standard ones: the lent slices before and after, and
-- the result
abbrev pub BuildSays : Settings → List ℕ → List ℕ → List ℕ → List ℕ → List ℕ → Built → Type 0
BuildSays settings book work work' out out' r = Says (building settings book work) work work' (out ∷ []) (out' ∷ []) r

-- ---- a table built with its counts

-- a result by its parts
abbrev pub counted : ℕ → ℕ → ℕ → ℕ → ℕ → ℕ → Counted
counted refusal length states joins distinct counts =
    record {
      refusal = refusal;
      length = length;
      states = states;
      joins = joins;
      distinct = distinct;
      counts_length = counts;
    }

-- a refused build gives its number, no table and no counts
abbrev pub not_counted : ℕ → Counted
not_counted refusal = counted refusal 0 0 0 0 0

-- the same result without the counts
abbrev pub uncounted : Counted → Built
uncounted r = built r.refusal r.length r.states r.joins r.distinct

-- the table of a book built with these settings, and its counts where they are wanted: what is said of the table is as `building` says
-- it, and the counts are what the rows' walks over the table give
unfoldable pub building_counted : Settings → Bool → List ℕ → List ℕ → Call Counted
building_counted settings wanted book work =
    let f = book_of settings book in
    let counts = counts_if wanted (book_states f) f.items in
    record {
      refusal = build_fault settings book work;
      none = not_counted;
      answer = counted 0 (length (book_table f)) (length (book_states f)) (joins_of f) (distinct_of f) (length counts);
      writes = book_table f ∷ (counts ∷ []);
    }

-- what an entry that builds with counts promises, build_counted with the standard settings: both outputs before and after, and the result
abbrev pub CountedSays :
    Settings → List ℕ → List ℕ → List ℕ → List ℕ → List ℕ → List ℕ → List ℕ → Counted → Type 0
CountedSays settings book work work' out out' counts counts' r =
    Says (building_counted settings true book work) work work' (out ∷ (counts ∷ [])) (out' ∷ (counts' ∷ [])) r

-- ---- a table rewritten

-- a result by its parts
abbrev pub rewritten_as : ℕ → ℕ → ℕ → Rewritten
rewritten_as refusal length states = record { refusal = refusal; length = length; states = states }

-- a refused rewriting gives its number, and no table
abbrev pub not_rewritten : ℕ → Rewritten
not_rewritten refusal = rewritten_as refusal 0 0

-- a table read and written again: its length and its states
unfoldable pub rewriting : List ℕ → List ℕ → Call Rewritten
rewriting table work =
    record {
      refusal = table_fault table work;
      none = not_rewritten;
      answer = rewritten_as 0 (length (rewritten table)) (length (table_states table));
      writes = rewritten table ∷ [];
    }

-- what rewrite_table promises
abbrev pub RewriteSays : List ℕ → List ℕ → List ℕ → List ℕ → List ℕ → Rewritten → Type 0
RewriteSays table work work' out out' r = Says (rewriting table work) work work' (out ∷ []) (out' ∷ []) r

-- ---- a row walked

-- a result by its parts
abbrev pub walked_as : ℕ → ℕ → ℕ → ℕ → ℕ → Walked
walked_as refusal result walked names count =
    record { refusal = refusal; outcome = result; next_count = count; walked = walked; next_names = names }

-- what is told of a walk, as a result: how it ends, how long the beginning is, the next names and how many they are
abbrev pub walked_told : Told → Walked
walked_told t = walked_as 0 t.outcome (length t.beginning) t.next_names t.next_count

-- the walk of a row over these states, which heeds the states with no way to an end
abbrev pub walked_over : List State → List ℕ → Walked
walked_over states row = walked_told (live_walk states row)

-- a refused walk gives its number, an empty beginning, no names and a count of 0
abbrev pub not_walked : ℕ → Walked
not_walked refusal = walked_as refusal 0 0 0 0

-- a row walked over a table
unfoldable pub walking : List ℕ → List ℕ → List ℕ → Call Walked
walking table row work =
    record {
      refusal = walk_fault table row work;
      none = not_walked;
      answer = walked_over (table_states table) row;
      writes = [];
    }

-- what plans_walk promises
abbrev pub WalkedSays : List ℕ → List ℕ → List ℕ → List ℕ → Walked → Type 0
WalkedSays table row work work' r = Says (walking table row work) work work' [] [] r

-- what walk_row promises: the same of the numbers that it sets, and the beginning itself, which is a part of the row
pub record WalkSays (table row work work' beginning : List ℕ) (refusal result names count : ℕ) : Type 0 where
  pub says : WalkedSays table row work work' (walked_as refusal result (length beginning) names count)
  pub beginning_is : beginning ≡ unless (walk_fault table row work) [] (live_walk (table_states table) row).beginning

-- ---- a book listed

-- a result by its parts
abbrev pub written : ℕ → ℕ → Written
written refusal length = record { refusal = refusal; length = length }

-- a refused call gives its number, and nothing is written
abbrev pub not_written : ℕ → Written
not_written refusal = written refusal 0

-- bytes written to the front of an output: refused where that is too short, and for nothing else
unfoldable pub copying : List ℕ → Call Written
copying bytes = record { refusal = 0; none = not_written; answer = written 0 (length bytes); writes = bytes ∷ [] }

-- the listing of a book read with these settings
unfoldable pub listing_book : Settings → List ℕ → List ℕ → Call Written
listing_book settings book work =
    let text = book_listing (book_of settings book) in
    record { refusal = build_fault settings book work; none = not_written; answer = written 0 (length text); writes = text ∷ [] }

-- what an entry that lists books with these settings promises, list_book with the standard ones
abbrev pub ListSays : Settings → List ℕ → List ℕ → List ℕ → List ℕ → List ℕ → Written → Type 0
ListSays settings book work work' text text' r = Says (listing_book settings book work) work work' (text ∷ []) (text' ∷ []) r

-- ---- what the listing program prints

-- the listing or the text of the refusal, told by its length; nothing is refused
unfoldable pub printing : Settings → List ℕ → Call ℕ
printing settings book = record { refusal = 0; none = λ k. 0; answer = length (listing_of settings book); writes = [] }

-- what print_book promises: that length; and the text at the front of the lent one, which takes every listing and is untouched beyond
pub record PrintSays (settings : Settings) (book work work' text text' : List ℕ) (r : ℕ) : Type 0 where
  pub says : Says (printing settings book) work work' [] [] r
  pub text_is : text' ≡ over (listing_of settings book) text

-- ---- a plan's rows

-- a result by its parts
abbrev pub plan_rows_of : ℕ → ℕ → ℕ → ℕ → PlanRows
plan_rows_of refusal length rows at = record { refusal = refusal; length = length; rows = rows; at = at }

-- a refused call gives its number, and nothing is written; 14, 15 and 16 come with their place in the plan
abbrev pub not_read : ℕ → ℕ → PlanRows
not_read place refusal = plan_rows_of refusal 0 0 (when (leb bad_plan refusal) place)

-- these rows written, or this refusal, a plan's at this place
abbrev pub rows_or : ℕ → ℕ → List (List ℕ) → Call PlanRows
rows_or refusal place rows =
    record {
      refusal = refusal;
      none = not_read place;
      answer = plan_rows_of 0 (length (row_fields rows)) (length rows) 0;
      writes = row_fields rows ∷ [];
    }

-- the rows of a plan, by a list of names and the number of one of them
unfoldable pub reading_rows : List ℕ → List ℕ → ℕ → List ℕ → Call PlanRows
reading_rows plan list chosen work =
    rows_or (plan_fault plan list chosen work) (plan_reading plan list chosen).place (plan_rows plan list chosen)

-- what rows_of_plan promises
abbrev pub RowsSays : List ℕ → List ℕ → ℕ → List ℕ → List ℕ → List ℕ → List ℕ → PlanRows → Type 0
RowsSays plan list chosen work work' out out' r =
    Says (reading_rows plan list chosen work) work work' (out ∷ []) (out' ∷ []) r
