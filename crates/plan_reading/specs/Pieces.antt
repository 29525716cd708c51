-- Where reading stands between tags, with the open elements by where their names stand in the plan; and what the pieces of a plan say of
-- reading on. Assumes nothing.
use Rattle.std.specs.Prelude.{◌≡◌, Bool, true, false, ◌||◌, cond, List, [], ◌∷◌, ◌++◌, ℕ, zero, suc, ◌+◌, ◌*◌, ◌-◌, ◌≤◌, ◌<◌, eqb, length}
use Rattle.std.specs.Prelude.{get_or, drop, Option, None, Some, Result, Ok, Err}
use Rattle.base.specs.Limits.{plan_depth, bad_plan}
use Rattle.model.specs.Fields.{name_ok}
use Rattle.written_plans.specs.Written.{Tag, is_white, is_text, slash, greater}
use Rattle.written_plans.specs.Reading.{Place, before, inside, opened, naming, named, closing, after, leave, stop, end_begins}
use Rattle.written_plans.specs.Reading.{begins_name, Reading, refused_at, read_plan_from}
use Rattle.plan_reading.specs.Scanning.{part, Skipped}
use Rattle.plan_reading.specs.declared.opens.Open.{Open}
use Rattle.plan_reading.specs.declared.pieces.Reached.{Reached}
use Rattle.plan_reading.specs.declared.pieces.BadByte.{BadByte}
use Rattle.plan_reading.specs.declared.pieces.Piece.{Piece}
use Rattle.plan_reading.specs.declared.pieces.Piece.TheVariants as piece
use Rattle.plan_reading.specs.declared.pieces.Close.{Close}
use Rattle.plan_reading.specs.declared.pieces.Close.TheVariants as close

-- ---- where reading stands

-- the open element at this depth
abbrev pub open_at : List Open → ℕ → Open
open_at opens d = get_or opens d (record { from = 0; end = 0; number = 0 })

-- its name
abbrev pub open_name : List ℕ → List Open → ℕ → List ℕ
open_name s opens d = part s (open_at opens d).from (open_at opens d).end

-- the names of so many open elements, the innermost first
unfoldable pub open_names : List ℕ → List Open → ℕ → List (List ℕ)
open_names s opens zero = []
open_names s opens (suc d) = open_name s opens d ∷ open_names s opens d

-- the place between tags, where these are open and so many tags began an element
abbrev pub between : List (List ℕ) → ℕ → Place
between [] tags = cond (eqb tags 0) before after
between (n ∷ around) tags = inside n around

-- the place that reading has reached
abbrev pub place_of : List ℕ → List Open → ℕ → Reached → Place
place_of s opens depth r = between (open_names s opens depth) r.tags

-- what reading comes to from a place on, at an offset
abbrev pub reads : (Tag → ℕ) → List ℕ → Place → ℕ → Reading
reads judge s q i = read_plan_from judge q i (drop i s)

-- two places and offsets from which reading comes to the same, however tags are judged: no tag that begins an element is met between
abbrev pub ReadsOn : List ℕ → Place → ℕ → Place → ℕ → Type 0
ReadsOn s q i t j = (judge : Tag → ℕ) → reads judge s q i ≡ reads judge s t j

-- reading from here comes to 14 at place p, however tags are judged
abbrev pub Stops : List ℕ → Place → ℕ → ℕ → Type 0
Stops s q i p = (judge : Tag → ℕ) → reads judge s q i ≡ refused_at bad_plan p

-- what holds of every place that is reached: the stack has room for all elements that may be open, each open element's name stands before
-- the offset, and every tag has three bytes or more
pub record Stacked (s : List ℕ) (opens : List Open) (depth : ℕ) (r : Reached) : Type 0 where
  pub within : r.at ≤ length s
  pub shallow : depth ≤ plan_depth
  pub room : length opens ≡ plan_depth
  pub forward : (d : ℕ) → d < depth → (open_at opens d).from ≤ (open_at opens d).end
  pub behind : (d : ℕ) → d < depth → (open_at opens d).end ≤ r.at
  pub begun : depth ≤ r.tags
  pub few : 3 * r.tags ≤ r.at

-- the name of an open element stands before the offset
pub record NameBehind (element : Open) (at : ℕ) : Type 0 where
  pub forward : element.from ≤ element.end
  pub behind : element.end ≤ at

-- the innermost open element, where one is open
abbrev pub IsInnermost : List Open → ℕ → Option Open → Type 0
IsInnermost opens depth None = depth ≡ 0
IsInnermost opens depth (Some element) = (0 < depth) × (element ≡ open_at opens (depth - 1))

-- ---- pieces

-- the byte at this offset is this one, and the offset after it; or it is not
abbrev pub ByteAt : List ℕ → ℕ → ℕ → Result ℕ BadByte → Type 0
ByteAt s at byte (Ok e) = (e ≡ at + 1) × (at < length s) × (get_or s at 0 ≡ byte)
ByteAt s at byte (Err bad) = (bad.at ≡ at) × (at < length s → get_or s at 0 ≡ byte → ⊥)

-- what may stand before a tag is passed: text inside an element, white space outside the outermost one
abbrev pub BeforeTag : List ℕ → ℕ → ℕ → ℕ → Type 0
BeforeTag s depth at end = Skipped (λ (b : ℕ). cond (eqb depth 0) (is_white b) (is_text b)) s at end

-- the byte may stand after the name of a tag that begins an element
abbrev pub follows_name : ℕ → Bool
follows_name b = is_white b || (eqb b slash || eqb b greater)

-- a name from offset `from` to `end`, which ends there, with a byte after it that may follow one
pub record NameHere (s : List ℕ) (from end : ℕ) : Type 0 where
  pub some : from < end
  pub within : end < length s
  pub allowed : name_ok (part s from end) ≡ true
  pub ends : begins_name (part s from end ++ (get_or s end 0 ∷ [])) ≡ false
  pub follows : follows_name (get_or s end 0) ≡ true

-- reading on from place q at offset i, where so many elements are open then: an end tag is passed, or what stands before a tag
pub record Passed (s : List ℕ) (opens : List Open) (depth : ℕ) (q : Place) (i : ℕ) (t : Reached) : Type 0 where
  pub reads_on : ReadsOn s q i (place_of s opens depth t) t.at
  pub sound : Stacked s opens depth t
  pub further : i < t.at

-- a tag that begins an element is met, and read up to the end of its name
pub record Met (s : List ℕ) (opens : List Open) (depth : ℕ) (q : Place) (i from end : ℕ) : Type 0 where
  pub reads_on : ReadsOn s q i (naming (open_names s opens depth) (part s from end)) end
  pub here : NameHere s from end
  pub further : i ≤ from

-- what a piece says, where so many tags began an element
abbrev pub PieceFrom : List ℕ → List Open → ℕ → Place → ℕ → ℕ → Result Piece BadByte → Type 0
PieceFrom s opens depth q i tags (Ok (piece.Rest e)) = Passed s opens depth q i (record { at = e; tags = tags })
PieceFrom s opens depth q i tags (Ok (piece.End e)) = (0 < depth) × Passed s opens (depth - 1) q i (record { at = e; tags = tags })
PieceFrom s opens depth q i tags (Ok (piece.Name from end)) = Met s opens depth q i from end
PieceFrom s opens depth q i tags (Err bad) = Stops s q i bad.at

-- a tag that is met has its `<` before its name
abbrev pub AfterLess : ℕ → Result Piece BadByte → Type 0
AfterLess i (Ok (piece.Rest e)) = Unit {0}
AfterLess i (Ok (piece.End e)) = Unit {0}
AfterLess i (Ok (piece.Name from end)) = i < from
AfterLess i (Err bad) = Unit {0}

-- the name of a tag that begins an element, wherever that may be: it begins at `at`, or there is none, and no end tag either
abbrev pub NameFrom : List ℕ → ℕ → Result Piece BadByte → Type 0
NameFrom s at (Ok (piece.Rest e)) = ⊥
NameFrom s at (Ok (piece.End e)) = ⊥
NameFrom s at (Ok (piece.Name from end)) =
    (from ≡ at) × NameHere s at end × ((around : List (List ℕ)) → ReadsOn s (opened around) at (naming around (part s at end)) end)
NameFrom s at (Err bad) =
    (around : List (List ℕ)) → (at < length s → end_begins around (get_or s at 0) ≡ stop) → Stops s (opened around) at bad.at

-- the end tag of this element, wherever that may be, from after its `</` on
abbrev pub EndFrom : List ℕ → Open → ℕ → Result ℕ BadByte → Type 0
EndFrom s element at (Ok e) =
    ((around : List (List ℕ)) → ReadsOn s (closing (part s element.from element.end) around) at (leave around) e)
    × (at < e) × (e ≤ length s)
EndFrom s element at (Err bad) = (around : List (List ℕ)) → Stops s (closing (part s element.from element.end) around) at bad.at

-- the end of a tag that begins an element, of any name and anywhere
abbrev pub CloseFrom : List ℕ → ℕ → Result Close BadByte → Type 0
CloseFrom s at (Ok (close.Full e)) =
    ((around : List (List ℕ)) (n : List ℕ) → ReadsOn s (named around n) at (inside n around) e) × (at < e) × (e ≤ length s)
CloseFrom s at (Ok (close.Empty e)) =
    ((around : List (List ℕ)) (n : List ℕ) → ReadsOn s (named around n) at (leave around) e) × (at < e) × (e ≤ length s)
CloseFrom s at (Err bad) = (around : List (List ℕ)) (n : List ℕ) → Stops s (named around n) at bad.at
