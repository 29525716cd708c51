-- The counts depend on the rows only as a bag: a sum over rows does, so do ends and passes, and the table depends on the set of rows.
-- Assumes nothing.
use mathlib.Core.Path.{◌≡◌, refl, sym, ap, ap₂, ◌∙◌, subst, fun_ext}
use mathlib.Core.Logic.{◌⊎◌, inl, inr, ◌↔◌}
use mathlib.Core.Bool.{◌&&◌}
use mathlib.Core.List.Memᴰ.{head as here}
use mathlib.Core.List.{List, [], ◌∷◌, ◌++◌, flat_map, Memᴰ as In}
use mathlib.Core.List.Memᴰ
use Prim.Native.Nat.{ℕ, ◌+◌, ◌<◌}
use native.Mathlib.Omega.{arith}
use lib.Dec.{eqb}
use lib.ListN.{get_or}
use Rattle.base.specs.Limits.{count_mark, when}
use Rattle.base.specs.Lists.{total, same, copies}
use Rattle.base.proofs.Totals.{total-flat_map}
use Rattle.model.specs.Fields.{File, Class}
use Rattle.model.specs.Classes.{Word}
use Rattle.model.specs.Tables.{Arc, State, empty_state, walk, two_bytes, field_bytes}
use Rattle.model.specs.Joinings.{Transition, tree_of, joined_groups}
use Rattle.model.specs.Quotients.{states_of, book_states}
use Rattle.model.proofs.Joined.{joined_groups-joined, joined_states}
use Rattle.indexed.proofs.Ends.{row_copies}
use Rattle.counts.specs.Counts.{steps_from, trail, ends_at, passes_of, numbers_of, count_field, counts_file, book_counts}
use Rattle.counts.specs.Claims.{SameBag}

-- ---- sums over bags

-- what is left of a list without one occurrence of x: every sum has one term less
abbrev LessOne : Word → List Word → Type 0
LessOne x ys = (zs : List Word) × ((f : Word → ℕ) → total f ys ≡ f x + total f zs)

-- there is one, if x is in the list
less_one : (x : Word) (ys : List Word) → In x ys → LessOne x ys
unfolding total
less_one x [] m = absurd (Memᴰ.not-nil m)
less_one x (y ∷ ys) m = go (Memᴰ.cases_cons m) (less_one x ys)
  where
    go : (x ≡ y) ⊎ In x ys → (In x ys → LessOne x ys) → LessOne x (y ∷ ys)
    go (inl e) again = (ys, λ f. ap (λ (w : Word). f w + total f ys) (sym e))
    go (inr n) again = let r = again n in (y ∷ r.0, λ f. omega (arith, r.1 f))

-- rows that stand equally often in two lists are the same set
same_set : (rows others : List Word) → ((r : Word) → copies r rows ≡ copies r others) → (r : Word) → In r rows ↔ In r others
same_set rows others equal r = (
  λ m. (row_copies r others).0 (subst (λ (n : ℕ). 0 < n) (equal r) ((row_copies r rows).1 m)),
  λ m. (row_copies r rows).0 (subst (λ (n : ℕ). 0 < n) (sym (equal r)) ((row_copies r others).1 m)),
)

-- a sum over rows depends on them only as a bag
total-bag :
    (f : Word → ℕ) (rows others : List Word) → ((r : Word) → copies r rows ≡ copies r others) → total f rows ≡ total f others
unfolding total
total-bag f [] [] equal = refl
total-bag f [] (r ∷ others) equal = absurd (Memᴰ.not-nil ((same_set [] (r ∷ others) equal r).1 (here refl)))
total-bag f (r ∷ rows) others equal =
    let left = less_one r others ((same_set (r ∷ rows) others equal r).0 (here refl)) in
    let rest = total-bag f rows left.0 (λ w. omega (arith, equal w, left.1 (λ (u : Word). when (same w u) 1))) in
    omega (arith, rest, left.1 f)

-- ---- counts over bags

module _ (states : List State) (rows others : List Word) (equal : (r : Word) → copies r rows ≡ copies r others) where
  -- the ends of a state, and the passes of an arc
  ends-bag : (q : ℕ) → ends_at states rows q ≡ ends_at states others q
  unfolding ends_at
  ends-bag q = total-bag (λ (row : Word). when (eqb (walk states row).at_state q) 1) rows others equal

  passes_bag : (q a : ℕ) → passes_of states rows q a ≡ passes_of states others q a
  unfolding passes_of trail
  passes_bag q a =
      total-flat_map passes (steps_from states 0) rows
      ∙ total-bag (λ (row : Word). total passes (steps_from states 0 row)) rows others equal
      ∙ sym (total-flat_map passes (steps_from states 0) others)
    where
      passes : Transition → ℕ
      passes s = when (eqb s.from q && eqb s.name a) 1

  -- the counts file by ends and passes
  abbrev file_by : (ℕ → ℕ) → (ℕ → ℕ → ℕ) → List ℕ
  file_by ends passes =
      flat_map (λ (q : ℕ).
      field_bytes count_mark
      (two_bytes (ends q) ++ flat_map (λ (a : Arc). two_bytes (passes q a.name)) (get_or states q empty_state).arcs))
      (numbers_of states)

  -- so the counts file of one table depends on the rows only as a bag
  file-bag : counts_file states rows ≡ counts_file states others
  unfolding counts_file count_field
  file-bag = ap₂ file_by (fun_ext ends-bag) (fun_ext (λ q. fun_ext (passes_bag q)))

-- the table depends on the class and the set of rows
states_bag : (f g : File) → SameBag f g → book_states f ≡ book_states g
unfolding book_states
states_bag f g bag =
    joined_states f.class_is f.items g.items (joined_groups f.class_is f.items)
    (joined_groups f.class_is g.items) (same_set f.items g.items bag.copies_same)
    (joined_groups-joined f.class_is f.items) (joined_groups-joined f.class_is g.items)
    ∙ ap (λ (c : Class). states_of g.items (tree_of g.items) (joined_groups c g.items)) bag.class_same

-- so books with the same bag of rows have the same counts
pub counts_bag : (f g : File) → SameBag f g → book_counts f ≡ book_counts g
unfolding book_counts
counts_bag f g bag =
    ap (λ (states : List State). counts_file states f.items) (states_bag f g bag)
    ∙ file-bag (book_states g) f.items g.items bag.copies_same
