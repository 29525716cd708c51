-- A name by its number in an index; and a search that halves: which places are left after one comparison, and the number where the name
-- is found or no place is left. Assumes nothing.
use mathlib.Core.Path.{◌≡◌, sym, ap, ◌∙◌, subst}
use mathlib.Core.Bool.{true}
use mathlib.Core.List.{List, []}
use Prim.Native.Nat.{ℕ, ◌+◌, ◌≤◌, ◌<◌}
use native.Mathlib.Omega.{arith}
use lib.ListN.{length, get_or}
use Rattle.base.specs.Lists.{before}
use Rattle.base.proofs.Places.{place_of}
use Rattle.model.specs.Fields.{Ascends, name_number}
use Rattle.model.proofs.NameNumbers.{number_of-unknown, number-at_place, places_below, places_above}
use Rattle.judging.specs.Offsets.{body_at, next_at, name_at}
use Rattle.judging.proofs.OffsetLaws.{field_within, field_at_lem}
use Rattle.name_search.specs.Search.{Indexed}

-- the i-th name's field, from the offset noted: it lies within the list, and its bytes are that name
pub noted_within : (list index : List ℕ) (count i : ℕ) → Indexed list count index → i < count → next_at list (get_or index i 0) ≤ length list
noted_within list index count i indexed low =
    subst (λ (a : ℕ). next_at list a ≤ length list) (sym (indexed.begins i low))
    (omega (arith, indexed.within, field_within list 0 count i low))

pub noted_name :
    (list index : List ℕ) (count i : ℕ) → Indexed list count index → i < count →
    body_at list (get_or index i 0) ≡ name_at list count i
noted_name list index count i indexed low =
    ap (body_at list) (indexed.begins i low) ∙ sym (field_at_lem list 0 count i low)

-- a name stands at no place below low, nor from high on
pub record PlacesLeft (names : List (List ℕ)) (name : List ℕ) (low high : ℕ) : Type 0 where
  pub left : (i : ℕ) → i < length names → get_or names i [] ≡ name → (low ≤ i) × (i < high)

module _ (names : List (List ℕ)) (name : List ℕ) where
  pub all_left : (count : ℕ) → length names ≡ count → PlacesLeft names name 0 count
  all_left count size = record { left = λ i h e. (omega arith, omega arith) }

  -- no place is left
  pub none_left : (low high : ℕ) → high ≤ low → PlacesLeft names name low high → name_number names name ≡ length names
  none_left low high h between =
      number_of-unknown names name
      (λ m.
      let place = place_of [] names name m in
      let is = between.left place.0 place.1 place.2 in
      let z : ⊥ = omega (arith, is.0, is.1) in absurd z)

  -- the name stands before the one at this place, after it, or there
  module _ (ascending : Ascends names) (low high middle : ℕ) where
    pub lower-half :
        before name (get_or names middle []) ≡ true → PlacesLeft names name low high → PlacesLeft names name low middle
    lower-half o between =
        record { left = λ i h e. ((between.left i h e).0, places_below names ascending name middle o i h e) }

    pub upper-half :
        {next : ℕ} → middle < length names → next ≤ middle + 1 → before (get_or names middle []) name ≡ true →
        PlacesLeft names name low high → PlacesLeft names name next high
    upper-half inside up o between =
        record {
          left = λ i h e. (omega (arith, places_above names ascending name middle inside o i e), (between.left i h e).1);
        }

  pub found_at :
      Ascends names → (middle : ℕ) → middle < length names → name ≡ get_or names middle [] → name_number names name ≡ middle
  found_at ascending middle inside e =
      subst (λ (z : List ℕ). name_number names z ≡ middle) (sym e) (number-at_place names ascending middle inside)
