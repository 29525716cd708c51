-- Fields of books, tables and lists of names (docs/SCOPE.md, section 3), read in file order with refusals 2 to 9 and 11. One reading
-- serves all kinds of file. Names, rows and state fields are lists of bytes; what a state field means is in Tables. Assumes nothing.
use Rattle.std.specs.Prelude.{◌≡◌, Bool, true, false, ◌&&◌, ◌||◌, not, cond, List, [], ◌∷◌, ◌++◌, ℕ, zero, suc, ◌+◌, ◌*◌, ◌<◌, eqb, ltb, leb, length, get_or, take, drop}
use Rattle.base.specs.Lists.{all, before, last_or, same}
use Rattle.base.specs.Limits.{name_limit, name_bytes, book_rows, row_limit, state_limit, setting_limit, when, first_of}
use Rattle.base.specs.Limits.{name_mark, class_mark, row_mark, state_mark, name_due, names_met, class_met, items_met}
use Rattle.base.specs.Limits.{context_kind, seen_set_kind, last_names_kind}
use Rattle.base.specs.Limits.{cut_off, misplaced, unfinished, bad_name, name_order, too_many, bad_class, bad_row, bad_state}

-- a class: its kind and its settings, k and h of a context or j of last names
pub record Class : Type 0 where
  pub kind : ℕ
  pub first : ℕ
  pub second : ℕ

-- a class by its kind and settings
abbrev pub class_of : ℕ → ℕ → ℕ → Class
class_of kind first second = record { kind = kind; first = first; second = second }

-- context: k from 1 to 8, h from 1 to k
abbrev pub context_ok : ℕ → ℕ → Bool
context_ok k h = (leb 1 k && leb k setting_limit) && (leb 1 h && leb h k)

-- the settings that go with a kind
abbrev pub settings_ok : ℕ → ℕ → ℕ → Bool
settings_ok kind x y =
    (eqb kind context_kind && context_ok x y)
    || ((eqb kind seen_set_kind && (eqb x 0 && eqb y 0)) || (eqb kind last_names_kind && (leb x setting_limit && eqb y 0)))

-- a class that a class field may hold
abbrev pub ClassOk : Class → Type 0
ClassOk c = settings_ok c.kind c.first c.second ≡ true

-- what an entry reads books and builds tables with: the class of a book without a class field
pub record Settings : Type 0 where
  pub default_class : Class

-- which settings are allowed: those with a default class that a class field may hold
abbrev pub Allowed : Settings → Type 0
Allowed settings = ClassOk settings.default_class

-- the settings of docs/SCOPE.md, section 3.5: context, k = 2, h = 1
abbrev pub standard : Settings
standard = record { default_class = class_of context_kind 2 1 }

-- a class field's bytes: kind and two settings
abbrev pub class_ok : List ℕ → Bool
class_ok body = eqb (length body) 3 && settings_ok (get_or body 0 0) (get_or body 1 0) (get_or body 2 0)

-- the class that a class field's bytes name
abbrev pub class_from : List ℕ → Class
class_from body = class_of (get_or body 0 0) (get_or body 1 0) (get_or body 2 0)

-- a name's first byte: an ASCII letter, `_` or `:`
abbrev pub starts_name : ℕ → Bool
starts_name b = ((leb 65 b && leb b 90) || (leb 97 b && leb b 122)) || (eqb b 95 || eqb b 58)

-- a later byte of a name: also a digit, `.` or `-`
abbrev pub continues_name : ℕ → Bool
continues_name b = starts_name b || ((leb 48 b && leb b 57) || (eqb b 46 || eqb b 45))

-- which names are allowed
unfoldable pub name_ok : List ℕ → Bool
name_ok [] = false
name_ok (b ∷ bs) = leb (length (b ∷ bs)) name_bytes && (starts_name b && all continues_name bs)

-- each entry is the number of one of n names
unfoldable pub all_below : ℕ → List ℕ → Bool
all_below n [] = true
all_below n (x ∷ xs) = ltb x n && all_below n xs

-- arcs of three bytes, a name's number and a two-byte target, the names ascending strictly from `next` on and below n
-- (the first argument counts down and is at least the number of bytes)
unfoldable pub arcs_ok : ℕ → ℕ → ℕ → List ℕ → Bool
arcs_ok zero n next s = true
arcs_ok (suc f) n next [] = true
arcs_ok (suc f) n next (a ∷ s) = leb 2 (length s) && ((ltb a n && leb next a) && arcs_ok f n (suc a) (drop 2 s))

-- a state field's bytes: 1 accepting or 0 not, then its arcs
unfoldable pub state_ok : ℕ → List ℕ → Bool
state_ok n [] = false
state_ok n (b ∷ s) = leb b 1 && arcs_ok (length s) n 0 s

-- the kinds of file: a book of rows, a table of states, and a list of names with nothing else
pub data FileKind : Type 0 where
  book : FileKind
  table : FileKind
  name_list : FileKind

-- after its names a book and a table may have a class
abbrev pub takes_class : FileKind → Bool
takes_class book = true
takes_class table = true
takes_class name_list = false

-- a book has rows
abbrev pub takes_rows : FileKind → Bool
takes_rows book = true
takes_rows table = false
takes_rows name_list = false

-- a table has states
abbrev pub takes_states : FileKind → Bool
takes_states book = false
takes_states table = true
takes_states name_list = false

-- a file as read so far: the stage of reading, its names, its class, and its items: a book's rows or a table's state fields
pub record File : Type 0 where
  pub stage : ℕ
  pub names : List (List ℕ)
  pub class_is : Class
  pub items : List (List ℕ)

-- a file by its parts
abbrev pub file : ℕ → List (List ℕ) → Class → List (List ℕ) → File
file stage names class items = record { stage = stage; names = names; class_is = class; items = items }

-- a file of which nothing is read yet; a book that names no class keeps the one given here
abbrev pub unread : Class → File
unread class = file name_due [] class []

-- which mark may come next: names come first, a class at most once and right after them, rows after names or a class, and states
-- after a class, so that a table has exactly one
abbrev pub may_come : FileKind → ℕ → ℕ → Bool
may_come kind stage mark =
    (eqb mark name_mark && leb stage names_met)
    || ((eqb mark class_mark && (takes_class kind && eqb stage names_met))
    || ((eqb mark row_mark && (takes_rows kind && leb names_met stage))
    || (eqb mark state_mark && (takes_states kind && leb class_met stage))))

-- the name stands above the last one before it, if there is one
unfoldable pub above : List (List ℕ) → List ℕ → Bool
above [] b = true
above (n ∷ names) b = before (last_or n names) b

-- one more name after those so far: 5, 6 and 7, 0 for no fault
unfoldable pub name_fault : List (List ℕ) → List ℕ → ℕ
name_fault names body =
    first_of (when (not (name_ok body)) bad_name)
    (first_of (when (not (above names body)) name_order)
    (when (leb name_limit (length names)) too_many))

-- the names stand in strictly ascending byte order
pub record Ascends (names : List (List ℕ)) : Type 0 where
  pub in_order : (i j : ℕ) → i < j → j < length names → before (get_or names i []) (get_or names j []) ≡ true

-- the number of a name among these names, by its bytes; how many names there are where it is none of them
unfoldable pub name_number : List (List ℕ) → List ℕ → ℕ
name_number [] n = 0
name_number (m ∷ names) n = elim (same n m) [ true ↦ 0 | false ↦ suc (name_number names n) ]

-- a class: 8
unfoldable pub class_fault : List ℕ → ℕ
class_fault body = when (not (class_ok body)) bad_class

-- a row's bytes over n names: at most so many entries, each a name's number
abbrev pub row_ok : ℕ → List ℕ → Bool
row_ok n body = leb (length body) row_limit && all_below n body

-- one more item, a row or a state: 7 where there are as many as the limit, then its own refusal where it is not allowed
abbrev pub item_fault : ℕ → (ℕ → List ℕ → Bool) → ℕ → File → List ℕ → ℕ
item_fault limit ok bad f body =
    first_of (when (leb limit (length f.items)) too_many) (when (not (ok (length f.names) body)) bad)

-- one more row: 7 and 9
unfoldable pub row_fault : File → List ℕ → ℕ
row_fault f body = item_fault book_rows row_ok bad_row f body

-- one more state: 7 and 11
unfoldable pub state_fault : File → List ℕ → ℕ
state_fault f body = item_fault state_limit state_ok bad_state f body

-- the mark decides how a field is read: one choice for each mark, the last also for every number that is none
abbrev pub by_mark : {A : Type 0} → ℕ → A → A → A → A → A
by_mark mark name class row state =
    cond (eqb mark name_mark) name (cond (eqb mark class_mark) class (cond (eqb mark row_mark) row state))

-- a field judged by the refusals that concern it, in ascending number
unfoldable pub field_fault : FileKind → File → ℕ → List ℕ → ℕ
field_fault kind f mark body =
    first_of (when (not (may_come kind f.stage mark)) misplaced)
    (by_mark mark (name_fault f.names body) (class_fault body) (row_fault f body) (state_fault f body))

-- the file with one field more
unfoldable pub with_field : File → ℕ → List ℕ → File
with_field f mark body =
    let item = file items_met f.names f.class_is (f.items ++ (body ∷ [])) in
    by_mark mark
    (file names_met (f.names ++ (body ∷ [])) f.class_is f.items)
    (file class_met f.names (class_from body) f.items)
    item
    item

-- what reading gives: a refusal's number, or 0 and the file
pub record Read : Type 0 where
  pub number : ℕ
  pub file_is : File

-- the refusal with this number, and nothing read
abbrev pub refused : ℕ → Read
refused n = record { number = n; file_is = unread standard.default_class }

-- no refusal, and the file
abbrev pub accepted_file : File → Read
accepted_file f = record { number = 0; file_is = f }

-- the length that a field states, high byte first
abbrev pub stated_length : List ℕ → ℕ
stated_length s = 256 * get_or s 1 0 + get_or s 2 0

-- the field at the front, its mark and length included, runs past the end
abbrev pub runs_past : List ℕ → Bool
runs_past s = ltb (length s) 3 || ltb (length s) (3 + stated_length s)

-- the body of the field at the front, and what comes after that field
abbrev pub body_of : List ℕ → List ℕ
body_of s = take (stated_length s) (drop 3 s)

-- what comes after the field at the front
abbrev pub after_field : List ℕ → List ℕ
after_field s = drop (3 + stated_length s) s

-- what must have come before the end of the input: a row of a book, a state of a table, a name of a list of names
abbrev pub last_stage : FileKind → ℕ
last_stage book = items_met
last_stage table = items_met
last_stage name_list = names_met

-- the end of the input
abbrev pub at_end : FileKind → File → Read
at_end kind f = cond (eqb f.stage (last_stage kind)) (accepted_file f) (refused unfinished)

-- fields read one after the other, the first failure being the result (the first argument counts down and is more than the
-- number of bytes)
unfoldable pub read_from : ℕ → FileKind → File → List ℕ → Read
read_from zero kind f s = refused cut_off
read_from (suc l) kind f s =
    elim (eqb (length s) 0) [
      | true ↦ at_end kind f
      | false ↦
          elim (runs_past s) [
            | true ↦ refused cut_off
            | false ↦
                let body = body_of s in
                let fault = field_fault kind f (get_or s 0 0) body in
                elim (eqb fault 0) [
                  | true ↦ read_from l kind (with_field f (get_or s 0 0) body) (after_field s)
                  | false ↦ refused fault
                ]
          ]
    ]

-- a whole file; a book that names no class has that of the settings
unfoldable pub read_with : Settings → FileKind → List ℕ → Read
read_with settings kind s = read_from (suc (length s)) kind (unread settings.default_class) s

-- a whole book
abbrev pub read_book : Settings → List ℕ → Read
read_book settings s = read_with settings book s

-- a whole table, which names its class itself, whatever the settings
abbrev pub read_table : List ℕ → Read
read_table s = read_with standard table s

-- a whole list of names, which has no class, whatever the settings
abbrev pub read_names : List ℕ → Read
read_names s = read_with standard name_list s
