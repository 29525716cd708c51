-- Plans as they are written (docs/SCOPE.md, section 11): elements with their text and white space, the bytes that they are written as,
-- their tags, the traces of an element, and the faults 14, 15 and 16 of any bytes. What follows something written is an argument, so that
-- a place in a plan is the bytes from there on. Assumes nothing.
use Rattle.std.specs.Prelude.{◌≡◌, ◌⊎◌, Bool, true, false, ◌||◌, not, cond, ℕ, suc, ◌≤◌, ◌<◌, eqb, length, take, drop}
use mathlib.Core.List.{List, [], ◌∷◌, ◌++◌, Memᴰ as In}
use Rattle.base.specs.Lists.{all, same}
use Rattle.base.specs.Limits.{plan_depth, bad_plan, too_deep, unknown_child}
use Rattle.model.specs.Fields.{name_ok}

-- ---- bytes

-- `<`, which begins a tag
abbrev pub less : ℕ
less = 60

-- `>`, which ends one
abbrev pub greater : ℕ
greater = 62

-- `/`, in end tags and in empty-element tags
abbrev pub slash : ℕ
slash = 47

-- `&`, which stands in no text
abbrev pub ampersand : ℕ
ampersand = 38

-- white space: space, tab, carriage return, line feed
abbrev pub is_white : ℕ → Bool
is_white b = (eqb b 32 || eqb b 9) || (eqb b 13 || eqb b 10)

-- text: any byte but `<` and `&`
abbrev pub is_text : ℕ → Bool
is_text b = not (eqb b less || eqb b ampersand)

-- ---- what is written

-- a name, as docs/SCOPE.md, section 3.1 allows it
pub record Name : Type 0 where
  pub bytes : List ℕ
  pub allowed : name_ok bytes ≡ true

-- white space, or none
pub record Space : Type 0 where
  pub bytes : List ℕ
  pub white : all is_white bytes ≡ true

-- what stands inside an element, piece by piece: nothing more; a byte of text; an element that is an empty-element tag, with white space
-- after its name; an element with a start tag, what stands inside it, and an end tag, with white space after the name in each tag
pub data Content : Type 0 where
  nothing : Content
  text : (b : ℕ) → is_text b ≡ true → Content → Content
  empty : Name → Space → Content → Content
  full : Name → Space → Content → Space → Content → Content

-- an empty-element tag, and what follows it
abbrev pub empty_tag : List ℕ → List ℕ → List ℕ → List ℕ
empty_tag name white s = less ∷ (name ++ (white ++ (slash ∷ (greater ∷ s))))

-- a start tag, and what follows it
abbrev pub start_tag : List ℕ → List ℕ → List ℕ → List ℕ
start_tag name white s = less ∷ (name ++ (white ++ (greater ∷ s)))

-- an end tag, and what follows it
abbrev pub end_tag : List ℕ → List ℕ → List ℕ → List ℕ
end_tag name white s = less ∷ (slash ∷ (name ++ (white ++ (greater ∷ s))))

-- the bytes of what is written, and what follows them
unfoldable pub written : Content → List ℕ → List ℕ
written nothing s = s
written (text b _ c) s = b ∷ written c s
written (empty n g c) s = empty_tag n.bytes g.bytes (written c s)
written (full n g inner e c) s = start_tag n.bytes g.bytes (written inner (end_tag n.bytes e.bytes (written c s)))

-- one element and nothing else
abbrev pub is_element : Content → Bool
is_element nothing = false
is_element (text b _ c) = false
is_element (empty n g nothing) = true
is_element (empty n g (text _ _ _)) = false
is_element (empty n g (empty _ _ _)) = false
is_element (empty n g (full _ _ _ _ _)) = false
is_element (full n g inner e nothing) = true
is_element (full n g inner e (text _ _ _)) = false
is_element (full n g inner e (empty _ _ _)) = false
is_element (full n g inner e (full _ _ _ _ _)) = false

-- a plan: exactly one outermost element, with only white space around it
pub record Plan : Type 0 where
  pub before : Space
  pub element : Content
  pub single : is_element element ≡ true
  pub after : Space

-- the bytes of a plan
abbrev pub plan_bytes : Plan → List ℕ
plan_bytes p = p.before.bytes ++ written p.element p.after.bytes

-- ---- traces

-- the names of the elements that stand directly in it, in order: the trace of the element whose content it is (source document 000,
-- definition (14), text left out)
unfoldable pub children : Content → List (List ℕ)
children nothing = []
children (text b _ c) = children c
children (empty n g c) = n.bytes ∷ children c
children (full n g inner e c) = n.bytes ∷ children c

-- the traces of the elements of a name, in the order of their start tags (definition (15), as a list)
unfoldable pub traces : List ℕ → Content → List (List (List ℕ))
traces chosen nothing = []
traces chosen (text b _ c) = traces chosen c
traces chosen (empty n g c) = cond (same n.bytes chosen) ([] ∷ traces chosen c) (traces chosen c)
traces chosen (full n g inner e c) =
    let others = traces chosen inner ++ traces chosen c in
    cond (same n.bytes chosen) (children inner ∷ others) others

-- ---- tags

-- a tag that begins an element: the names of the elements around it, the innermost first; its own name; and the bytes from the one after
-- its name on
pub record Tag : Type 0 where
  pub around : List (List ℕ)
  pub name : List ℕ
  pub onward : List ℕ

-- a tag by its parts
abbrev pub tag : List (List ℕ) → List ℕ → List ℕ → Tag
tag around name onward = record { around = around; name = name; onward = onward }

-- the tags of what is written inside these elements, in their order, with what follows it
unfoldable pub tags : List (List ℕ) → Content → List ℕ → List Tag
tags around nothing s = []
tags around (text b _ c) s = tags around c s
tags around (empty n g c) s =
    tag around n.bytes (g.bytes ++ (slash ∷ (greater ∷ written c s))) ∷ tags around c s
tags around (full n g inner e c) s =
    let rest = end_tag n.bytes e.bytes (written c s) in
    tag around n.bytes (g.bytes ++ (greater ∷ written inner rest)) ∷ (tags (n.bytes ∷ around) inner rest ++ tags around c s)

-- the tags of a plan
abbrev pub plan_tags : Plan → List Tag
plan_tags p = tags [] p.element p.after.bytes

-- ---- faults of any bytes

-- 14 at place p: some plan has the bytes before p, and no plan has the bytes up to and including the one at p; where p is the end, the
-- whole is no plan
pub record Impossible (s : List ℕ) (p : ℕ) : Type 0 where
  pub within : p ≤ length s
  pub possible_before : (plan : Plan) × (take p (plan_bytes plan) ≡ take p s)
  pub not_here : (plan : Plan) → take (suc p) (plan_bytes plan) ≡ take (suc p) s → ⊥

-- some plan has the bytes up to and including the one at place p, which in it is the byte after this tag's name; so 14 does not stand there
pub record TagAt (s : List ℕ) (p : ℕ) (t : Tag) : Type 0 where
  pub plan : Plan
  pub alike : take (suc p) (plan_bytes plan) ≡ take (suc p) s
  pub of_plan : In t (plan_tags plan)
  pub here : drop p (plan_bytes plan) ≡ t.onward

-- 15 at place p, the byte after the tag's name: an element inside 16 others or more
abbrev pub Deep : List ℕ → ℕ → Type 0
Deep s p = (t : Tag) × TagAt s p t × (plan_depth ≤ length t.around)

-- the tag of a child of an element of this name
abbrev pub ChildOf : List ℕ → Tag → Type 0
ChildOf chosen t = (others : List (List ℕ)) × (t.around ≡ chosen ∷ others)

-- 16 at place p, the byte after the tag's name: a child of an element of the chosen name, whose own name is not among the names
abbrev pub Unknown : List (List ℕ) → List ℕ → List ℕ → ℕ → Type 0
Unknown names chosen s p = (t : Tag) × TagAt s p t × ChildOf chosen t × (In t.name names → ⊥)

-- the faults of a plan's bytes, each by its number and its place
abbrev pub Fault : List (List ℕ) → List ℕ → List ℕ → ℕ → ℕ → Type 0
Fault names chosen s number p =
    ((number ≡ bad_plan) × Impossible s p)
    ⊎ (((number ≡ too_deep) × Deep s p)
    ⊎ ((number ≡ unknown_child) × Unknown names chosen s p))

-- the first fault of all: the others stand later, or at the same place with a number that is not lower
pub record First (names : List (List ℕ)) (chosen s : List ℕ) (number p : ℕ) : Type 0 where
  pub fault : Fault names chosen s number p
  pub first : (n q : ℕ) → Fault names chosen s n q → (p < q) ⊎ ((p ≡ q) × (number ≤ n))
