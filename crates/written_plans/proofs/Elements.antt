-- An element made of its name and what may follow the name: as a plan, and inside another element. Assumes nothing.
use mathlib.Core.Path.{◌≡◌, refl}
use mathlib.Core.Bool.{true}
use mathlib.Core.List.{List, [], ◌∷◌, ◌++◌}
use Prim.Native.Nat.{ℕ}
use Rattle.base.specs.Lists.{all}
use Rattle.written_plans.specs.Written.{less, is_white, Name, Space, nothing, empty, full, written, Plan, plan_bytes}
use Rattle.written_plans.proofs.Rests.{Inside, Left, Named, empties, fills}

-- ---- white space

-- no bytes are white space
pub white-none : all is_white [] ≡ true
unfolding all
white-none = refl

abbrev pub none : Space
none = record { bytes = []; white = white-none }

-- white space with one more byte before it
pub white-more : (b : ℕ) (s : List ℕ) → is_white b ≡ true → all is_white s ≡ true → all is_white (b ∷ s) ≡ true
unfolding all
white-more b s e w = rw (all, e, w)

abbrev pub more : (b : ℕ) → is_white b ≡ true → Space → Space
more b e g = record { bytes = b ∷ g.bytes; white = white-more b g.bytes e g.white }

-- ---- elements

-- the outermost element, with no white space before it
pub outermost : (n : Name) (s : List ℕ) → Named [] n.bytes s → (plan : Plan) × (plan_bytes plan ≡ less ∷ (n.bytes ++ s))
unfolding Left written
outermost n s (empties g t e x) =
    let rest : Space = record { bytes = x.0; white = x.2 } in
    (record { before = none; element = empty n g nothing; single = refl; after = rest }, rw (e, x.1))
outermost n s (fills g t e x) =
    let rest : Space = record { bytes = x.onward; white = x.rest } in
    (record { before = none; element = full n g x.content x.white nothing; single = refl; after = rest }, rw (e, x.alike))

-- an element inside one of the name m
pub inner : (n : Name) (m : List ℕ) (around : List (List ℕ)) (s : List ℕ) → Named (m ∷ around) n.bytes s
    → Inside m (Left around) (less ∷ (n.bytes ++ s))
unfolding Left written
inner n m around s (empties g t e x) =
    let y : Inside m (Left around) x.0 = x.2 in
    record {
      content = empty n g y.content;
      white = y.white;
      onward = y.onward;
      alike = rw (e, x.1, y.alike);
      rest = y.rest;
    }
inner n m around s (fills g t e x) =
    let y : Inside m (Left around) x.onward = x.rest in
    record {
      content = full n g x.content x.white y.content;
      white = y.white;
      onward = y.onward;
      alike = rw (e, x.alike, y.alike);
      rest = y.rest;
    }
