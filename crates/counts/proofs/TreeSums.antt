-- Sums over the states of the prefix tree: copies of states and rows that begin with them, summed over the states that pass a test, are
-- sums over the rows. Assumes nothing.
use mathlib.Core.Path.{◌≡◌, refl, sym, ap, ap₂, ◌∙◌}
use mathlib.Core.Bool.{Bool, true, false, ◌||◌}
use mathlib.Core.List.{List, [], ◌∷◌, map, nil≢cons, tail-eq_of_cons-eq}
use mathlib.Core.List.Memᴰ
use mathlib.Core.List.Memᴰ.{head as here}
use mathlib.Core.List.Memᴰ.{tail as there}
use mathlib.Core.List.{Memᴰ as In}
use Prim.Native.Nat.{ℕ, ◌+◌}
use native.Mathlib.Omega.{arith}
use Rattle.base.specs.Limits.{when}
use Rattle.base.specs.Lists.{any, same, has_row, total, how_many, copies, Distinct}
use Rattle.base.proofs.Tests.{tells_same, tells_has_row, told-false}
use Rattle.base.proofs.Lists.{map-in}
use Rattle.base.proofs.Totals.{total-same, total-zero, total-add, total-one, total-swap}
use Rattle.model.specs.Classes.{Word}
use Rattle.model.specs.Joinings.{beginnings, tree_of}
use Rattle.model.proofs.Trees.{beginnings-in, begins_node, row_node, tree_of-tree}
use Rattle.counts.specs.TreeCounts.{begun}

-- ---- any elements that pass a test

-- nothing is counted, whatever the test
when-none : (b : Bool) → when b 0 ≡ 0
when-none true = refl
when-none false = refl

module _ {A B : Type 0} (test : A → Bool) (tied : A → B → Bool) (number : B → ℕ) where
  -- how many are tied to an element, summed over those that pass the test: a sum over what they are tied to
  total-tied :
      (xs : List A) (ys : List B) →
      ((y : B) → In y ys → total (λ (x : A). when (tied x y) (when (test x) 1)) xs ≡ number y) →
      total (λ (x : A). when (test x) (how_many (tied x) ys)) xs ≡ total number ys
  total-tied xs ys each =
      total-same (λ (x : A). when (test x) (how_many (tied x) ys))
      (λ (x : A). total (λ (y : B). when (tied x y) (when (test x) 1)) ys) xs (λ x m. go x (test x))
      ∙ total-swap (λ (x : A) (y : B). when (tied x y) (when (test x) 1)) xs ys
      ∙ total-same (λ (y : B). total (λ (x : A). when (tied x y) (when (test x) 1)) xs) number ys each
    where
      go : (x : A) (b : Bool) → when b (how_many (tied x) ys) ≡ total (λ (y : B). when (tied x y) (when b 1)) ys
      go x true = refl
      go x false = sym (total-zero (λ (y : B). when (tied x y) 0) ys (λ y m. when-none (tied x y)))

-- ---- different words

-- where no two tests are true at once
when-or : (a b : Bool) (n : ℕ) → (a ≡ true → b ≡ true → ⊥) → when (a || b) n ≡ when a n + when b n
when-or true true n never = absurd (never refl refl)
when-or true false n never = omega arith
when-or false b n never = omega arith

module _ (nodes : List Word) (distinct : Distinct nodes) (number : Word → ℕ) where
  -- the sum over those that are one word
  one_sum : (u : Word) → In u nodes → total (λ (w : Word). when (same w u) (number w)) nodes ≡ number u
  one_sum u m =
      total-one (λ (w : Word). when (same w u) (number w)) nodes u distinct m
      (λ w k other. ap (λ (b : Bool). when b (number w)) (told-false (tells_same w u) other))
      ∙ ap (λ (b : Bool). when b (number u)) ((tells_same u u).test refl)

  -- the sum over those that are in a list
  listed_sum :
      (ws : List Word) → Distinct ws → ((w : Word) → In w ws → In w nodes) →
      total (λ (w : Word). when (has_row w ws) (number w)) nodes ≡ total number ws
  unfolding has_row any total
  listed_sum [] d inside = total-zero (λ (w : Word). 0) nodes (λ w m. refl)
  listed_sum (u ∷ us) d inside =
      total-same (λ (w : Word). when (same w u || has_row w us) (number w))
      (λ (w : Word). when (same w u) (number w) + when (has_row w us) (number w)) nodes
      (λ w m. when-or (same w u) (has_row w us) (number w)
      (λ e f. d.0 (Memᴰ.cast (sym ((tells_same w u).fact e)) ((tells_has_row w us).fact f))))
      ∙ total-add (λ (w : Word). when (same w u) (number w)) (λ (w : Word). when (has_row w us) (number w)) nodes
      ∙ ap₂ (λ (m n : ℕ). m + n) (one_sum u (inside u (here refl))) (listed_sum us d.1 (λ w m. inside w (there m)))

-- ---- the states of the tree

-- the copies of states, over those that pass a test: the rows that pass it
pub copies-sum :
    (rows : List Word) (test : Word → Bool) →
    total (λ (w : Word). when (test w) (copies w rows)) (tree_of rows) ≡ how_many test rows
copies-sum rows test =
    total-tied test same (λ (row : Word). when (test row) 1) (tree_of rows) rows
    (λ row m. one_sum (tree_of rows) (tree_of-tree rows).distinct (λ (w : Word). when (test w) 1) row (row_node rows row m))

-- the beginnings of a row are different
distinct_longer : (x : ℕ) (ws : List Word) → Distinct ws → Distinct (map (λ (w : Word). x ∷ w) ws)
distinct_longer x [] d = tt
distinct_longer x (w ∷ ws) d = (
  λ m. let r = map-in (λ (v : Word). x ∷ v) ws m in d.0 (Memᴰ.cast (tail-eq_of_cons-eq r.2) r.1),
  distinct_longer x ws d.1,
)

distinct_beginnings : (row : Word) → Distinct (beginnings row)
unfolding beginnings
distinct_beginnings [] = (λ m. Memᴰ.not-nil m, tt)
distinct_beginnings (x ∷ row) = (
  λ m. nil≢cons (map-in (λ (v : Word). x ∷ v) (beginnings row) m).2,
  distinct_longer x (beginnings row) (distinct_beginnings row),
)

-- the rows that begin with states, over those states that pass a test: the beginnings of rows that pass it
pub begun-sum :
    (rows : List Word) (test : Word → Bool) →
    total (λ (w : Word). when (test w) (begun rows w)) (tree_of rows)
    ≡ total (λ (row : Word). how_many test (beginnings row)) rows
unfolding begun
begun-sum rows test =
    total-tied test (λ (w row : Word). has_row w (beginnings row)) (λ (row : Word). how_many test (beginnings row)) (tree_of rows) rows
    (λ row m.
    listed_sum (tree_of rows) (tree_of-tree rows).distinct (λ (w : Word). when (test w) 1) (beginnings row) (distinct_beginnings row)
    (λ w k. let r = beginnings-in row w k in begins_node rows w (r.0, Memᴰ.cast r.1 m)))
