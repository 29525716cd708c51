-- Worked plans (docs/SCOPE.md, sections 10.1 and 11): plans and bytes that are none, each with what reading it comes to, and one test that
-- compares it with what the definitions compute; and the longest row, with one that is longer. The names are day, lunch and snack, and
-- day is chosen. `worked_plans_hold` of proofs/WorkedPlans.antt proves it. Bytes are hexadecimal. Assumes nothing.
use Rattle.std.specs.Prelude.{◌≡◌, Bool, true, ◌&&◌, cond, List, [], ◌∷◌, ◌++◌, map, ℕ, zero, suc, eqb, replicate}
use Rattle.base.specs.Lists.{all}
use Rattle.base.specs.Limits.{too_many, bad_row}
use Rattle.model.specs.Tables.{name_fields}
use Rattle.model.specs.WorkedDays.{same_rows}
use Rattle.model.specs.Calls.{WithWork}
use Rattle.written_plans.specs.Reading.{read_plan, entry_of, rows_in, rows_fault}
use Rattle.written_plans.specs.Calls.{plan_fault}

-- a refusal and its place, or 0 and 0; the rows where there is no refusal; and the bytes
pub record Example : Type 0 where
  pub number : ℕ
  pub place : ℕ
  pub rows : List (List ℕ)
  pub bytes : List ℕ

-- an example by its parts
abbrev pub example : ℕ → ℕ → List (List ℕ) → List ℕ → Example
example number place rows bytes = record { number = number; place = place; rows = rows; bytes = bytes }

-- `day`, `lunch`, `snack`: the names of the list
abbrev pub day : List ℕ
day = 0x64 ∷ 0x61 ∷ 0x79 ∷ []

abbrev pub lunch : List ℕ
lunch = 0x6C ∷ 0x75 ∷ 0x6E ∷ 0x63 ∷ 0x68 ∷ []

abbrev pub snack : List ℕ
snack = 0x73 ∷ 0x6E ∷ 0x61 ∷ 0x63 ∷ 0x6B ∷ []

abbrev pub plan_names : List (List ℕ)
plan_names = day ∷ lunch ∷ snack ∷ []

-- `plan`, `soup` and `a`, which are not among them
abbrev pub plan : List ℕ
plan = 0x70 ∷ 0x6C ∷ 0x61 ∷ 0x6E ∷ []

abbrev pub soup : List ℕ
soup = 0x73 ∷ 0x6F ∷ 0x75 ∷ 0x70 ∷ []

abbrev pub a : List ℕ
a = 0x61 ∷ []

-- `Monday ` and `="1"/>`
abbrev pub monday : List ℕ
monday = 0x4D ∷ 0x6F ∷ 0x6E ∷ 0x64 ∷ 0x61 ∷ 0x79 ∷ 0x20 ∷ []

abbrev pub is_one : List ℕ
is_one = 0x3D ∷ 0x22 ∷ 0x31 ∷ 0x22 ∷ 0x2F ∷ 0x3E ∷ []

-- all four kinds of white space
abbrev pub white : List ℕ
white = 0x20 ∷ 0x09 ∷ 0x0D ∷ 0x0A ∷ []

-- `<name>`, `</name>` and `<name/>`, and what follows; by their bytes, so that the examples do not go by the definitions
abbrev pub start : List ℕ → List ℕ → List ℕ
start name s = 0x3C ∷ (name ++ (0x3E ∷ s))

abbrev pub end : List ℕ → List ℕ → List ℕ
end name s = 0x3C ∷ (0x2F ∷ (name ++ (0x3E ∷ s)))

abbrev pub single : List ℕ → List ℕ → List ℕ
single name s = 0x3C ∷ (name ++ (0x2F ∷ (0x3E ∷ s)))

-- so many times, and what follows
unfoldable pub times : ℕ → (List ℕ → List ℕ) → List ℕ → List ℕ
times zero piece s = s
times (suc n) piece s = piece (times n piece s)

-- reading comes to what is written down
abbrev pub holds : Example → Bool
holds x =
    let r = read_plan plan_names day x.bytes in
    let read = rows_in 0 (map (entry_of plan_names) r.met_tags) in
    eqb r.number x.number && (eqb r.place x.place && cond (eqb x.number 0) (same_rows read x.rows) true)

abbrev pub examples : List Example
examples =
    -- `<plan><day>Monday <lunch>soup</lunch><snack/></day><day/><snack/></plan>`: the example of section 11.2
    example 0 0 ((1 ∷ 2 ∷ []) ∷ [] ∷ [])
    (start plan (start day (monday ++ start lunch (soup ++ end lunch (single snack (end day
    (single day (single snack (end plan [])))))))))
    -- `<day><lunch><snack/></lunch><day><snack/></day></day>`: the outermost too, the outer one first, no grandchildren
    ∷ example 0 0 ((1 ∷ 0 ∷ []) ∷ (2 ∷ []) ∷ [])
    (start day (start lunch (single snack (end lunch (start day (single snack (end day (end day []))))))))
    -- `<plan/>`: no row
    ∷ example 0 0 []
    (0x3C ∷ 0x70 ∷ 0x6C ∷ 0x61 ∷ 0x6E ∷ 0x2F ∷ 0x3E ∷ [])
    -- white space of all four kinds before and after the element, and after names
    ∷ example 0 0 []
    (white ++ (0x3C ∷ (a ++ (white ++ (0x3E ∷ (0x3C ∷ (0x2F ∷ (a ++ (white ++ (0x3E ∷ white))))))))))
    -- form feed is none: at its place, after the name
    ∷ example 14 2 []
    (0x3C ∷ 0x61 ∷ 0x0C ∷ 0x2F ∷ 0x3E ∷ [])
    -- text of `>`, `]]>`, the byte 00 and the byte FF
    ∷ example 0 0 []
    (0x3C ∷ 0x61 ∷ 0x3E ∷ 0x3E ∷ 0x5D ∷ 0x5D ∷ 0x3E ∷ 0x00 ∷ 0xFF ∷ 0x3C ∷ 0x2F ∷ 0x61 ∷ 0x3E ∷ [])
    -- `<a>&</a>`: at `&`
    ∷ example 14 3 []
    (0x3C ∷ 0x61 ∷ 0x3E ∷ 0x26 ∷ 0x3C ∷ 0x2F ∷ 0x61 ∷ 0x3E ∷ [])
    -- `< a>`, `<a/ >` and `</ a>`: at the white space
    ∷ example 14 1 []
    (0x3C ∷ 0x20 ∷ 0x61 ∷ 0x3E ∷ [])
    ∷ example 14 3 []
    (0x3C ∷ 0x61 ∷ 0x2F ∷ 0x20 ∷ 0x3E ∷ [])
    ∷ example 14 5 []
    (0x3C ∷ 0x61 ∷ 0x3E ∷ 0x3C ∷ 0x2F ∷ 0x20 ∷ 0x61 ∷ 0x3E ∷ [])
    -- `<a b=""/>`: an attribute, at its name
    ∷ example 14 3 []
    (0x3C ∷ 0x61 ∷ 0x20 ∷ 0x62 ∷ 0x3D ∷ 0x22 ∷ 0x22 ∷ 0x2F ∷ 0x3E ∷ [])
    -- `<!-- -->`: at `!`
    ∷ example 14 1 []
    (0x3C ∷ 0x21 ∷ 0x2D ∷ 0x2D ∷ 0x20 ∷ 0x2D ∷ 0x2D ∷ 0x3E ∷ [])
    -- `<ab></a>`: at its last byte
    ∷ example 14 7 []
    (0x3C ∷ 0x61 ∷ 0x62 ∷ 0x3E ∷ 0x3C ∷ 0x2F ∷ 0x61 ∷ 0x3E ∷ [])
    -- `<a/><a/>`: at the second `<`
    ∷ example 14 4 []
    (0x3C ∷ 0x61 ∷ 0x2F ∷ 0x3E ∷ 0x3C ∷ 0x61 ∷ 0x2F ∷ 0x3E ∷ [])
    -- `<a>` and no byte at all: at the end
    ∷ example 14 3 []
    (0x3C ∷ 0x61 ∷ 0x3E ∷ [])
    ∷ example 14 0 []
    ([])
    -- a byte order mark: at 0
    ∷ example 14 0 []
    (0xEF ∷ 0xBB ∷ 0xBF ∷ 0x3C ∷ 0x61 ∷ 0x2F ∷ 0x3E ∷ [])
    -- `<day><soup a="1"/></day>`: 16, at the space
    ∷ example 16 10 []
    (start day (0x3C ∷ (soup ++ (0x20 ∷ (a ++ (is_one ++ end day []))))))
    -- `<day><soup="1"/></day>`: 14, at `=`
    ∷ example 14 10 []
    (start day (0x3C ∷ (soup ++ (is_one ++ end day []))))
    -- a name of 33 bytes: at the last of them
    ∷ example 14 33 []
    (single (replicate 33 0x61) [])
    -- sixteen levels pass
    ∷ example 0 0 []
    (times 15 (start a) (single a (times 15 (end a) [])))
    -- the seventeenth is refused, at the byte after its name
    ∷ example 15 50 []
    (times 16 (start a) (single a []))
    -- and as 15 where it is an unknown child too
    ∷ example 15 52 []
    (times 15 (start a) (start day (single a [])))
    ∷ []

-- a day of so many snacks
abbrev pub day_of : ℕ → List ℕ
day_of n = start day (times n (single snack) (end day []))

-- what is proved: the examples hold; a day of 40 entries passes, and one of 41 gives 9; 257 rows that are all too long give 7
pub record WorkedPlansHold : Type 0 where
  pub examples_hold : all holds examples ≡ true
  pub row_passes : WithWork (plan_fault (day_of 40) (name_fields plan_names) 0) 0
  pub row_refused : WithWork (plan_fault (day_of 41) (name_fields plan_names) 0) bad_row
  pub seven_first : rows_fault (replicate 257 (replicate 41 0)) ≡ too_many
