-- Over a table in which every arc leads to a state with a way to an end, a walk tells what the walk alone tells. Assumes nothing.
use mathlib.Core.Path.{◌≡◌, refl, ap, ap₂}
use mathlib.Core.Bool.{Bool, true, cond}
use mathlib.Core.List.Memᴰ.{head as here}
use mathlib.Core.List.Memᴰ.{tail as there}
use mathlib.Core.List.{List, [], ◌∷◌, map, Memᴰ as In}
use Rattle.base.specs.Lists.{filter_by}
use Rattle.model.specs.Tables.{Arc, State, state, plain_walk}
use Rattle.model.specs.Classes.{Word}
use Rattle.endings.specs.Live.{is_live, live_arcs, trimmed, nowhere, live_walk}

-- where every element passes the test, all are kept
filter_by-all : {A : Type 0} (test : A → Bool) (xs : List A) → ((x : A) → In x xs → test x ≡ true) → filter_by test xs ≡ xs
unfolding filter_by
filter_by-all test [] pass = refl
filter_by-all {A} test (x ∷ xs) pass =
    ap₂ (λ (b : Bool) (rest : List A). cond b (x ∷ rest) rest) (pass x (here refl)) (filter_by-all test xs (λ y m. pass y (there m)))

-- what changes no element changes no list
map_same : {A : Type 0} (f : A → A) (xs : List A) → ((x : A) → In x xs → f x ≡ x) → map f xs ≡ xs
map_same f [] same = refl
map_same {A} f (x ∷ xs) same =
    ap₂ (λ (y : A) (ys : List A). y ∷ ys) (same x (here refl)) (map_same f xs (λ y m. same y (there m)))

module _
    (states : List State)
    (arcs_live : (s : State) (a : Arc) → In s states → In a s.arcs → is_live states a.to ≡ true) where
  -- no arc goes
  trimmed-same : trimmed states ≡ states
  unfolding trimmed live_arcs
  trimmed-same =
      map_same (λ (s : State). state s.accepts (live_arcs states s.arcs)) states
      (λ s m. ap (state s.accepts) (filter_by-all (λ (a : Arc). is_live states a.to) s.arcs (λ a n. arcs_live s a m n)))

  -- so a walk from a start with a way to an end tells what the walk alone tells
  pub walk_same : is_live states 0 ≡ true → (row : Word) → live_walk states row ≡ plain_walk states row
  unfolding live_walk
  walk_same start row =
      ap₂ (λ (b : Bool) (over : List State). cond b (plain_walk over row) nowhere) start trimmed-same
