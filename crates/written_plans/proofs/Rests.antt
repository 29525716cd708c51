-- What may stand from a place of reading on, so that the whole is a plan, in terms of plans as they are written. Assumes nothing.
use mathlib.Core.Path.{◌≡◌}
use mathlib.Core.Logic.{◌⊎◌}
use mathlib.Core.Bool.{true}
use mathlib.Core.List.{List, [], ◌∷◌, ◌++◌}
use Prim.Native.Nat.{ℕ}
use Rattle.base.specs.Lists.{all}
use Rattle.model.specs.Fields.{name_ok}
use Rattle.written_plans.specs.Written.{greater, slash, is_white, Space, Content, end_tag, written, Plan, plan_bytes}
use Rattle.written_plans.specs.Reading.{Place, before, inside, opened, naming, named, emptied, closing, after}

-- inside an element of this name: its content, its end tag, and what may follow it
pub record Inside (n : List ℕ) (Onward : List ℕ → Type 0) (s : List ℕ) : Type 0 where
  pub content : Content
  pub white : Space
  pub onward : List ℕ
  pub alike : s ≡ written content (end_tag n white.bytes onward)
  pub rest : Onward onward

-- after an element, where these are open
unfoldable pub Left : List (List ℕ) → List ℕ → Type 0
Left [] s = all is_white s ≡ true
Left (n ∷ around) s = Inside n (Left around) s

-- in an end tag, where so much is due of its name
pub record Ending (due : List ℕ) (around : List (List ℕ)) (s : List ℕ) : Type 0 where
  pub white : Space
  pub onward : List ℕ
  pub alike : s ≡ due ++ (white.bytes ++ (greater ∷ onward))
  pub rest : Left around onward

-- an end tag after its `<`, where an element is open
unfoldable pub Ends : List (List ℕ) → List ℕ → Type 0
Ends [] s = ⊥
Ends (n ∷ around) s = (t : List ℕ) × (s ≡ slash ∷ t) × Ending n around t

-- after the `/` of an empty-element tag
abbrev pub Emptied : List (List ℕ) → List ℕ → Type 0
Emptied around s = (t : List ℕ) × (s ≡ greater ∷ t) × Left around t

-- after the name of a tag that begins an element: white space, and the end of an empty-element tag or of a start tag
pub data Named (around : List (List ℕ)) (n s : List ℕ) : Type 0 where
  empties : (g : Space) (t : List ℕ) → s ≡ g.bytes ++ (slash ∷ t) → Emptied around t → Named around n s
  fills : (g : Space) (t : List ℕ) → s ≡ g.bytes ++ (greater ∷ t) → Inside n (Left around) t → Named around n s

-- in the name of such a tag, so many bytes of which are read
pub record Naming (around : List (List ℕ)) (n s : List ℕ) : Type 0 where
  pub more : List ℕ
  pub allowed : name_ok (n ++ more) ≡ true
  pub onward : List ℕ
  pub alike : s ≡ more ++ onward
  pub rest : Named around (n ++ more) onward

-- from any place on
unfoldable pub Rest : Place → List ℕ → Type 0
Rest before s = (plan : Plan) × (plan_bytes plan ≡ s)
Rest (inside n around) s = Inside n (Left around) s
Rest (opened around) s = Naming around [] s ⊎ Ends around s
Rest (naming around n) s = Naming around n s
Rest (named around n) s = Named around n s
Rest (emptied around) s = Emptied around s
Rest (closing due around) s = Ending due around s
Rest after s = all is_white s ≡ true
