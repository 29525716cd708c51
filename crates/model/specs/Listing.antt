-- The listing of a book (docs/SCOPE.md, section 8) as bytes; then the text that the listing program prints, a refusal's included.
-- Assumes nothing.
use Rattle.std.specs.Prelude.{true, false, cond, ℕ, zero, suc, ◌+◌, ◌/◌, ◌%◌, eqb, ltb, length, get_or}
use mathlib.Core.List.{List, [], ◌∷◌, ◌++◌, flat_map}
use Rattle.base.specs.Limits.{input_limit, bad_sizes, when, first_of}
use Rattle.model.specs.Fields.{File, Settings}
use Rattle.model.specs.Tables.{Arc, State}
use Rattle.model.specs.Quotients.{book_states}
use Rattle.model.specs.Calls.{book_of, book_fault, joins_of, distinct_of}

-- the decimal digits of a number (the first argument counts down and is at least the number of digits less one)
unfoldable pub digits : ℕ → ℕ → List ℕ
digits zero n = (48 + n % 10) ∷ []
digits (suc f) n = elim (ltb n 10) [ true ↦ (48 + n) ∷ [] | false ↦ digits f (n / 10) ++ ((48 + n % 10) ∷ []) ]

-- every number in a listing is below 65,536
abbrev pub decimal : ℕ → List ℕ
decimal n = digits 4 n

-- a newline
abbrev pub newline : List ℕ
newline = 10 ∷ []

-- a space
abbrev pub space : List ℕ
space = 32 ∷ []

-- an arc: a space, its name, `>`, its target
unfoldable pub arc_text : List (List ℕ) → Arc → List ℕ
arc_text names a = space ++ (get_or names a.name [] ++ (62 ∷ decimal a.to))

-- a state line: number, `+` accepting or `-` not, then each arc
unfoldable pub state_line : List (List ℕ) → ℕ → State → List ℕ
state_line names i s =
    decimal i ++ (space ++ (cond s.accepts 43 45 ∷ (flat_map (arc_text names) s.arcs ++ newline)))

-- the lines of the states from number i on
unfoldable pub state_lines : List (List ℕ) → ℕ → List State → List ℕ
state_lines names i [] = []
state_lines names i (s ∷ states) = state_line names i s ++ state_lines names (suc i) states

-- the word `states` and a space
abbrev pub states_word : List ℕ
states_word = 115 ∷ (116 ∷ (97 ∷ (116 ∷ (101 ∷ (115 ∷ (32 ∷ []))))))

-- the word `joins` between two spaces
abbrev pub joins_word : List ℕ
joins_word = 32 ∷ (106 ∷ (111 ∷ (105 ∷ (110 ∷ (115 ∷ (32 ∷ []))))))

-- the word `distinct` between two spaces
abbrev pub distinct_word : List ℕ
distinct_word = 32 ∷ (100 ∷ (105 ∷ (115 ∷ (116 ∷ (105 ∷ (110 ∷ (99 ∷ (116 ∷ (32 ∷ [])))))))))

-- the word `refused` and a space
abbrev pub refused_word : List ℕ
refused_word = 114 ∷ (101 ∷ (102 ∷ (117 ∷ (115 ∷ (101 ∷ (100 ∷ (32 ∷ [])))))))

-- `states N joins M distinct D`
unfoldable pub first_line : ℕ → ℕ → ℕ → List ℕ
first_line states joins distinct =
    states_word
    ++ (decimal states ++ (joins_word ++ (decimal joins ++ (distinct_word ++ (decimal distinct ++ newline)))))

-- the first line, then a line for each state
unfoldable pub listing : List (List ℕ) → List State → ℕ → ℕ → List ℕ
listing names states joins distinct = first_line (length states) joins distinct ++ state_lines names 0 states

-- the listing of a book: its names, the states of its table, its joins, and how many different rows it has
abbrev pub book_listing : File → List ℕ
book_listing f = listing f.names (book_states f) (joins_of f) (distinct_of f)

-- `refused N`
unfoldable pub refusal_text : ℕ → List ℕ
refusal_text n = refused_word ++ (decimal n ++ newline)

-- the refusal that the listing program prints, which lends enough: 1, the fields', 10
unfoldable pub listing_fault : Settings → List ℕ → ℕ
listing_fault settings s = first_of (when (ltb input_limit (length s)) bad_sizes) (book_fault settings s)

-- what is printed for the bytes of a book
unfoldable pub listing_of : Settings → List ℕ → List ℕ
listing_of settings s =
    elim (eqb (listing_fault settings s) 0) [
      | true ↦ book_listing (book_of settings s)
      | false ↦ refusal_text (listing_fault settings s)
    ]
