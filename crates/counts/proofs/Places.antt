-- Lists by their places: the elements at all places are the list, a sum over all places is one over it, and a mapped list flattened.
-- Assumes nothing.
use mathlib.Core.Path.{◌≡◌, refl, sym, ap, ◌∙◌}
use mathlib.Core.List.{List, [], ◌∷◌, ◌++◌, map, flat_map}
use Prim.Native.Nat.{ℕ, zero, suc}
use lib.ListN.{length, get_or}
use Rattle.base.specs.Lists.{total, numbers_from}
use Rattle.base.proofs.Totals.{total-map}

module _ {A : Type 0} where
  -- numbers in succession from the next one on
  map-numbers : (f : ℕ → A) (n i : ℕ) → map f (numbers_from n (suc i)) ≡ map (λ (j : ℕ). f (suc j)) (numbers_from n i)
  unfolding numbers_from
  map-numbers f zero i = refl
  map-numbers f (suc n) i = ap (λ (l : List A). f (suc i) ∷ l) (map-numbers f n (suc i))

  -- the elements at all places of a list are the list
  pub all-places : (d : A) (xs : List A) → map (λ (i : ℕ). get_or xs i d) (numbers_from (length xs) 0) ≡ xs
  unfolding numbers_from
  all-places d [] = refl
  all-places d (x ∷ xs) =
      ap (λ (l : List A). x ∷ l) (map-numbers (λ (i : ℕ). get_or (x ∷ xs) i d) (length xs) 0 ∙ all-places d xs)

  -- so a sum over all places is one over the list
  pub total-all_places :
      (f : A → ℕ) (d : A) (xs : List A) → total (λ (i : ℕ). f (get_or xs i d)) (numbers_from (length xs) 0) ≡ total f xs
  total-all_places f d xs =
      sym (total-map f (λ (i : ℕ). get_or xs i d) (numbers_from (length xs) 0)) ∙ ap (total f) (all-places d xs)

module _ {A B C : Type 0} where
  -- a mapped list flattened
  pub flat_map-map : (g : B → List C) (f : A → B) (xs : List A) → flat_map g (map f xs) ≡ flat_map (λ (x : A). g (f x)) xs
  unfolding flat_map
  flat_map-map g f [] = refl
  flat_map-map g f (x ∷ xs) = ap (λ (l : List C). g (f x) ++ l) (flat_map-map g f xs)
