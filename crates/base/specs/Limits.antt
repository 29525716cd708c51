-- The numbers that docs/SCOPE.md fixes, each in one place: the limits and what follows from them, the marks of fields and the stages of
-- reading them, the kinds of classes, the ends of a walk, and the refusals (section 4.1). src/limits.rt has the limits, marks and kinds by
-- the same names. Assumes nothing.
use Rattle.std.specs.Prelude.{Bool, true, false, ℕ, zero, suc, ◌+◌, ◌*◌}

-- at most so many names
abbrev pub name_limit : ℕ
name_limit = 64

-- at most so many bytes in a name
abbrev pub name_bytes : ℕ
name_bytes = 32

-- at most so many rows in a book
abbrev pub book_rows : ℕ
book_rows = 256

-- at most so many entries in a row
abbrev pub row_limit : ℕ
row_limit = 40

-- at most so many states, of a prefix tree and of a table
abbrev pub state_limit : ℕ
state_limit = 512

-- k of a context and j of last names are at most this
abbrev pub setting_limit : ℕ
setting_limit = 8

-- the longest input, in bytes
abbrev pub input_limit : ℕ
input_limit = 65535

-- the shortest working area, in bytes
abbrev pub work_bytes : ℕ
work_bytes = 65536

-- a class field has so many bytes
abbrev pub class_bytes : ℕ
class_bytes = 6

-- a book's table has at most so many bytes: 64 names, the class, 512 states and as many arcs. It follows from the limits:
-- `written-length` of model/proofs/Reading.antt
abbrev pub table_bytes : ℕ
table_bytes = 5830

-- a book's listing has at most so many bytes, which follows too: `book_listing-length` of listings/proofs/Lengths.antt
abbrev pub listing_bytes : ℕ
listing_bytes = 32768

-- a book's counts have at most so many bytes: 512 states and as many arcs. It follows from the limits: `book_counts-length` of
-- counts/proofs/Written.antt
abbrev pub counts_bytes : ℕ
counts_bytes = 5 * state_limit + 2 * state_limit

-- elements of a plan are nested at most so deep
abbrev pub plan_depth : ℕ
plan_depth = 16

-- the rows of a plan have at most so many bytes: as many row fields as a book may have, each of 3 bytes and as many entries as a row may
-- have. It follows from the limits: `rows_length` of plan_rows/proofs/Lengths.antt
abbrev pub rows_bytes : ℕ
rows_bytes = book_rows * (3 + row_limit)

-- numbers of two bytes are below this
abbrev pub number_limit : ℕ
number_limit = 65536

-- the marks of fields: 01 name, 02 class, 03 row, 04 state, 05 the counts of a state
abbrev pub name_mark : ℕ
name_mark = 1

abbrev pub class_mark : ℕ
class_mark = 2

abbrev pub row_mark : ℕ
row_mark = 3

abbrev pub state_mark : ℕ
state_mark = 4

abbrev pub count_mark : ℕ
count_mark = 5

-- the stages of reading: a name is due, names met, the class met, rows or states met
abbrev pub name_due : ℕ
name_due = 0

abbrev pub names_met : ℕ
names_met = 1

abbrev pub class_met : ℕ
class_met = 2

abbrev pub items_met : ℕ
items_met = 3

-- the kinds of classes: context, with k and h; seen set; last names, with j
abbrev pub context_kind : ℕ
context_kind = 0

abbrev pub seen_set_kind : ℕ
seen_set_kind = 1

abbrev pub last_names_kind : ℕ
last_names_kind = 2

-- how a walk ends
abbrev pub admitted : ℕ
admitted = 1

abbrev pub on_the_way : ℕ
on_the_way = 2

abbrev pub stops : ℕ
stops = 3

-- 1: an input too long, or a working area too short
abbrev pub bad_sizes : ℕ
bad_sizes = 1

-- 2: a field runs past the end
abbrev pub cut_off : ℕ
cut_off = 2

-- 3: a mark not allowed next
abbrev pub misplaced : ℕ
misplaced = 3

-- 4: the input ends while a field is still due
abbrev pub unfinished : ℕ
unfinished = 4

-- 5: a name's length or bytes are wrong
abbrev pub bad_name : ℕ
bad_name = 5

-- 6: a name not above the one before
abbrev pub name_order : ℕ
name_order = 6

-- 7: a name, row or state too many
abbrev pub too_many : ℕ
too_many = 7

-- 8: a class field of another length or value
abbrev pub bad_class : ℕ
bad_class = 8

-- 9: a row too long, or an entry that is no name's number
abbrev pub bad_row : ℕ
bad_row = 9

-- 10: the prefix tree needs too many states
abbrev pub tree_too_large : ℕ
tree_too_large = 10

-- 11: a state field of wrong length, first byte, or arc names
abbrev pub bad_state : ℕ
bad_state = 11

-- 12: an arc to no state, a state never met, or states not numbered first-met
abbrev pub bad_numbering : ℕ
bad_numbering = 12

-- 13: a lent output is shorter than what is to be written
abbrev pub output_too_short : ℕ
output_too_short = 13

-- 14: a byte of a plan, or its end, that no plan can have there
abbrev pub bad_plan : ℕ
bad_plan = 14

-- 15: an element of a plan inside too many others
abbrev pub too_deep : ℕ
too_deep = 15

-- 16: a child of the chosen element that is not in the list
abbrev pub unknown_child : ℕ
unknown_child = 16

-- the refusal where the test finds a fault, 0 for none
abbrev pub when : Bool → ℕ → ℕ
when true n = n
when false n = 0

-- the first refusal of two, 0 for none
abbrev pub first_of : ℕ → ℕ → ℕ
first_of zero b = b
first_of (suc a) b = suc a
