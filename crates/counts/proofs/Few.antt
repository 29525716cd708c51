-- How high the counts of a book can get. Assumes nothing.
use mathlib.Core.Path.{◌≡◌, sym, ap, ◌∙◌}
use mathlib.Core.Bool.{Bool, true, ◌&&◌}
use mathlib.Core.List.{List, []}
use Prim.Native.Nat.{ℕ, zero, suc, ◌≤◌, ◌<◌}
use native.Mathlib.Omega.{arith}
use lib.Dec.{ltb}
use lib.ListN.{length}
use Rattle.base.specs.Limits.{when}
use Rattle.base.specs.Lists.{has_row, total, how_many, copies, sum_below}
use Rattle.base.proofs.Totals.{when-le, many_few, total-le, sum-le, sum_more, total-places}
use Rattle.model.specs.Classes.{Word}
use Rattle.model.specs.Joinings.{beginnings, tree_of}
use Rattle.indexed.specs.Trees.{word_at}
use Rattle.indexed.proofs.Words.{root_word, word_at-one}
use Rattle.counts.specs.TreeCounts.{begun}
use Rattle.counts.proofs.TreeSums.{copies-sum, begun-sum}
use Rattle.counts.proofs.Beginnings.{into, into-some, passing-beginnings, passing-few}

-- a part of a sum over the states
sum-part :
    (rows : List Word) (k : ℕ) → k ≤ length (tree_of rows) → (f : ℕ → ℕ) (g : Word → ℕ) →
    ((v : ℕ) → v < length (tree_of rows) → f v ≤ g (word_at rows v)) → sum_below k f ≤ total g (tree_of rows)
sum-part rows k few f g low =
    omega (
      arith,
      sum_more k (length (tree_of rows)) f few,
      sum-le (length (tree_of rows)) f (λ (v : ℕ). g (word_at rows v)) low,
      total-places [] g (tree_of rows),
    )

-- the ends of some states
pub ends-few :
    (rows : List Word) (k : ℕ) → k ≤ length (tree_of rows) → (test : ℕ → Bool) →
    sum_below k (λ (v : ℕ). when (test v) (copies (word_at rows v) rows)) ≤ length rows
ends-few rows k few test =
    omega (
      arith,
      sum-part rows k few (λ (v : ℕ). when (test v) (copies (word_at rows v) rows)) (λ (w : Word). copies w rows)
          (λ v h. when-le (test v) (copies (word_at rows v) rows)),
      copies-sum rows (λ (w : Word). true),
      many_few (λ (w : Word). true) rows,
    )

-- the rows that begin with a word
pub begun-few : (rows : List Word) (w : Word) → begun rows w ≤ length rows
unfolding begun
begun-few rows w = many_few (λ (row : Word). has_row w (beginnings row)) rows

-- the rows that begin with some states
pub passes_few :
    (rows : List Word) (k : ℕ) → k ≤ length (tree_of rows) → (test : ℕ → Bool) →
    sum_below k (λ (v : ℕ). when (ltb 0 v && test v) (begun rows (word_at rows v))) ≤ total (λ (row : Word). length row) rows
passes_few rows k few test =
    omega (
      arith,
      sum-part rows k few (λ (v : ℕ). when (ltb 0 v && test v) (begun rows (word_at rows v)))
          (λ (w : Word). when (into always w) (begun rows w)) low,
      begun-sum rows (into always),
      total-le (λ (row : Word). how_many (into always) (beginnings row)) (λ (row : Word). length row) rows
          (λ row m. omega (arith, passing-beginnings always row, passing-few always row)),
    )
  where
    always : Word → ℕ → Bool
    always u a = true

    low :
        (v : ℕ) → v < length (tree_of rows) →
        when (ltb 0 v && test v) (begun rows (word_at rows v)) ≤ when (into always (word_at rows v)) (begun rows (word_at rows v))
    low zero h = omega arith
    low (suc v) h =
        let w = word_at rows (suc v) in
        let some : into always w ≡ true =
        into-some w (λ e.
        let first : suc v ≡ 0 = word_at-one rows (suc v) 0 h (omega arith) (e ∙ sym (root_word rows)) in omega arith) in
        let whole : when (into always w) (begun rows w) ≡ begun rows w = ap (λ (b : Bool). when b (begun rows w)) some in
        omega (arith, when-le (ltb 0 (suc v) && test (suc v)) (begun rows w))
