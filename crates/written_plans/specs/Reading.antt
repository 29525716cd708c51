-- A plan read one byte a step, with the names of the open elements at hand: the refusal 14, 15 or 16 that is met first and its place, or
-- the tags; and the rows, from the numbers and depths of the tags. Claims says what this has to do with plans as they are written. Assumes
-- nothing.
use Rattle.std.specs.Prelude.{Bool, true, false, ◌&&◌, not, cond, List, [], ◌∷◌, ◌++◌, ℕ, suc, eqb, ltb, leb, length}
use Rattle.base.specs.Lists.{all, same, has_row}
use Rattle.base.specs.Limits.{book_rows, row_limit, plan_depth, when, first_of}
use Rattle.base.specs.Limits.{too_many, bad_row, bad_plan, too_deep, unknown_child}
use Rattle.model.specs.Fields.{name_ok, name_number}
use Rattle.written_plans.specs.Written.{less, greater, slash, is_white, is_text, Tag, tag}

-- the bytes begin a name: as names are, every beginning of a name that has a byte is a name itself
unfoldable pub begins_name : List ℕ → Bool
begins_name n = name_ok n

-- ---- one byte

-- where reading stands, with the names of the open elements, the innermost first
pub data Place : Type 0 where
  -- before the outermost element
  before : Place
  -- inside the element of the first name
  inside : List ℕ → List (List ℕ) → Place
  -- after the `<` of a tag
  opened : List (List ℕ) → Place
  -- in the name of a tag that begins an element, with the bytes of it that are read
  naming : List (List ℕ) → List ℕ → Place
  -- in the white space after it
  named : List (List ℕ) → List ℕ → Place
  -- after the `/` of an empty-element tag
  emptied : List (List ℕ) → Place
  -- in an end tag: what is still due of its name, and the elements that are open after it
  closing : List ℕ → List (List ℕ) → Place
  -- after the outermost element
  after : Place

-- the next place, or none: no plan goes on with this byte
pub data Next : Type 0 where
  stop : Next
  go : Place → Next

-- the place after an element, where these are open
abbrev pub leave : List (List ℕ) → Place
leave [] = after
leave (n ∷ around) = inside n around

-- after the name of a tag that begins an element
unfoldable pub after_name : List (List ℕ) → List ℕ → ℕ → Next
after_name around n b =
    cond (is_white b) (go (named around n))
    (cond (eqb b slash) (go (emptied around))
    (cond (eqb b greater) (go (inside n around)) stop))

-- after the name of an end tag
unfoldable pub after_end : List (List ℕ) → ℕ → Next
after_end around b = cond (is_white b) (go (closing [] around)) (cond (eqb b greater) (go (leave around)) stop)

-- the `/` of an end tag, where an element is open
unfoldable pub end_begins : List (List ℕ) → ℕ → Next
end_begins [] b = stop
end_begins (n ∷ around) b = cond (eqb b slash) (go (closing n around)) stop

-- the place after one byte more
unfoldable pub step : Place → ℕ → Next
step before b = cond (is_white b) (go before) (cond (eqb b less) (go (opened [])) stop)
step (inside n around) b = cond (eqb b less) (go (opened (n ∷ around))) (cond (is_text b) (go (inside n around)) stop)
step (opened around) b = cond (begins_name (b ∷ [])) (go (naming around (b ∷ []))) (end_begins around b)
step (naming around n) b =
    cond (begins_name (n ++ (b ∷ []))) (go (naming around (n ++ (b ∷ [])))) (cond (name_ok n) (after_name around n b) stop)
step (named around n) b = after_name around n b
step (emptied around) b = cond (eqb b greater) (go (leave around)) stop
step (closing [] around) b = after_end around b
step (closing (x ∷ due) around) b = cond (eqb b x) (go (closing due around)) stop
step after b = cond (is_white b) (go after) stop

-- the tag whose name the byte at the front of these comes after, if there is one
unfoldable pub met : Place → ℕ → List ℕ → List Tag
met before b s = []
met (inside n around) b s = []
met (opened around) b s = []
met (naming around n) b s = cond (begins_name (n ++ (b ∷ []))) [] (tag around n (b ∷ s) ∷ [])
met (named around n) b s = []
met (emptied around) b s = []
met (closing due around) b s = []
met after b s = []

-- ---- a whole plan

-- the innermost of the elements around a tag has the chosen name
unfoldable pub is_child : List ℕ → List (List ℕ) → Bool
is_child chosen [] = false
is_child chosen (n ∷ around) = same n chosen

-- what a tag is refused for, among these names and with this chosen name: 15, 16, or 0 for nothing
unfoldable pub tag_fault : List (List ℕ) → List ℕ → Tag → ℕ
tag_fault names chosen t =
    first_of (when (leb plan_depth (length t.around)) too_deep)
    (when (is_child chosen t.around && not (has_row t.name names)) unknown_child)

-- what reading comes to: a refusal and its place, or 0 and 0; and the tags met until then, in their order
pub record Reading : Type 0 where
  pub number : ℕ
  pub place : ℕ
  pub met_tags : List Tag

-- a refusal at a place
abbrev pub refused_at : ℕ → ℕ → Reading
refused_at number place = record { number = number; place = place; met_tags = [] }

-- the end of the bytes, at this place
unfoldable pub ended : Place → ℕ → Reading
ended before p = refused_at bad_plan p
ended (inside n around) p = refused_at bad_plan p
ended (opened around) p = refused_at bad_plan p
ended (naming around n) p = refused_at bad_plan p
ended (named around n) p = refused_at bad_plan p
ended (emptied around) p = refused_at bad_plan p
ended (closing due around) p = refused_at bad_plan p
ended after p = refused_at 0 0

-- the tags met before, and what reading on comes to
abbrev pub with_tags : List Tag → Reading → Reading
with_tags ts r = record { number = r.number; place = r.place; met_tags = ts ++ r.met_tags }

-- what the tag met at a byte is refused for, 0 where none is met; at one byte no more than one is
abbrev pub tags_fault : (Tag → ℕ) → List Tag → ℕ
tags_fault judge [] = 0
tags_fault judge (t ∷ ts) = judge t

-- the bytes from a place on, the number of the first of them being p; each tag that is met is judged
unfoldable pub read_plan_from : (Tag → ℕ) → Place → ℕ → List ℕ → Reading
read_plan_from judge q p [] = ended q p
read_plan_from judge q p (b ∷ s) =
    elim (step q b) [
      | stop ↦ refused_at bad_plan p
      | go r ↦
          let fault = tags_fault judge (met q b s) in
          elim (eqb fault 0) [
            | true ↦ with_tags (met q b s) (read_plan_from judge r (suc p) s)
            | false ↦ refused_at fault p
          ]
    ]

-- a whole plan, with a list of names and the chosen one among them
unfoldable pub read_plan : List (List ℕ) → List ℕ → List ℕ → Reading
read_plan names chosen s = read_plan_from (tag_fault names chosen) before 0 s

-- ---- rows

-- what is kept of a tag: the number of its name, and how many elements are around it
pub record Entry : Type 0 where
  pub number : ℕ
  pub depth : ℕ

-- what is kept of a tag, with these names
abbrev pub entry_of : List (List ℕ) → Tag → Entry
entry_of names t = record { number = name_number names t.name; depth = length t.around }

-- the row of an element at this depth: the numbers of the tags one deeper, up to the first tag that is not inside it
unfoldable pub row_after : ℕ → List Entry → List ℕ
row_after depth [] = []
row_after depth (e ∷ entries) =
    cond (leb e.depth depth) []
    (cond (eqb e.depth (suc depth)) (e.number ∷ row_after depth entries) (row_after depth entries))

-- a row for each element of the chosen number, in the order of their tags
unfoldable pub rows_in : ℕ → List Entry → List (List ℕ)
rows_in chosen [] = []
rows_in chosen (e ∷ entries) =
    cond (eqb e.number chosen) (row_after e.depth entries ∷ rows_in chosen entries) (rows_in chosen entries)

-- every row is within its limit
unfoldable pub rows_short : List (List ℕ) → Bool
rows_short rows = all (λ (row : List ℕ). leb (length row) row_limit) rows

-- 7 for a 257th row, then 9 for a row too long
unfoldable pub rows_fault : List (List ℕ) → ℕ
rows_fault rows = first_of (when (ltb book_rows (length rows)) too_many) (when (not (rows_short rows)) bad_row)
