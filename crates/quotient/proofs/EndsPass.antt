-- The pass that sums the ends of the groups: what holds when the states before v are looked at, at the start, after one more, and at the
-- end; and that no sum is above the number of rows. Assumes nothing.
use mathlib.Core.Path.{◌≡◌, sym, ap, ◌∙◌}
use mathlib.Core.Logic.{⊎_elim}
use mathlib.Core.Bool.{Bool}
use mathlib.Core.List.{List}
use Prim.Native.Nat.{ℕ, ◌+◌, ◌<◌, ◌≤◌}
use native.Mathlib.Numerals.{add-one}
use native.Mathlib.Omega.{arith}
use lib.Dec.{eqb}
use lib.ListN.{length, get_or, set, replicate, length-set, length-replicate, get_or-replicate}
use lib.Seq.{get_or-set_same, get_or-set_other}
use borrow.Author.Tests.{eq-eqb, ne_eqb}
use Rattle.base.specs.Limits.{when, book_rows}
use Rattle.base.specs.Lists.{sum_below, copies}
use Rattle.base.proofs.Tests.{eq_dec}
use Rattle.base.proofs.Totals.{sum_same}
use Rattle.model.specs.Classes.{Word}
use Rattle.model.specs.Joinings.{tree_of}
use Rattle.indexed.specs.Trees.{word_at, EndsArray}
use Rattle.indexed.specs.Partitions.{Labelled}
use Rattle.counts.specs.TreeCounts.{EndsSummed, group_ends}
use Rattle.counts.proofs.Few.{ends-few}

-- the ends of the states before v that are in group g
pub ends_before : ℕ → List ℕ → List ℕ → ℕ → ℕ
ends_before v ends groups g = sum_below v (λ (w : ℕ). when (eqb (get_or groups w 0) g) (get_or ends w 0))

-- the states before v are looked at
pub record SummedUpTo (v : ℕ) (ends groups sums : List ℕ) : Type 0 where
  pub size : length groups ≤ length sums
  pub each : (g : ℕ) → g < length groups → get_or sums g 0 ≡ ends_before v ends groups g

pub sums_start :
    (ends groups sums₀ sums : List ℕ) → length groups ≤ length sums₀ → sums ≡ replicate (length sums₀) 0 →
    SummedUpTo 0 ends groups sums
unfolding ends_before sum_below
sums_start ends groups sums₀ sums fits e =
    record {
      size = omega (arith, ap length e, length-replicate {A = ℕ} (length sums₀) 0);
      each = λ g h. ap (λ (l : List ℕ). get_or l g 0) e ∙ get_or-replicate (length sums₀) g 0 0 (omega arith);
    }

-- one more state is one more term
ends_next :
    (v : ℕ) (ends groups : List ℕ) (g : ℕ) →
    ends_before (v + 1) ends groups g ≡ ends_before v ends groups g + when (eqb (get_or groups v 0) g) (get_or ends v 0)
unfolding ends_before sum_below
ends_next v ends groups g = rw (add-one v)

-- which counts for the state's own group
ends-here :
    (v : ℕ) (ends groups : List ℕ) (g : ℕ) → get_or groups v 0 ≡ g →
    ends_before (v + 1) ends groups g ≡ ends_before v ends groups g + get_or ends v 0
ends-here v ends groups g e =
    ends_next v ends groups g
    ∙ ap (λ (b : Bool). ends_before v ends groups g + when b (get_or ends v 0)) (eq-eqb (get_or groups v 0) g e)

-- and for no other
ends-elsewhere :
    (v : ℕ) (ends groups : List ℕ) (g : ℕ) → (get_or groups v 0 ≡ g → ⊥) →
    ends_before (v + 1) ends groups g ≡ ends_before v ends groups g
ends-elsewhere v ends groups g apart =
    let more : ends_before (v + 1) ends groups g ≡ ends_before v ends groups g + 0 =
    ends_next v ends groups g
    ∙ ap (λ (b : Bool). ends_before v ends groups g + when b (get_or ends v 0)) (ne_eqb (get_or groups v 0) g apart) in
    omega arith

-- one more state
pub sums_more :
    (v : ℕ) (ends groups sums : List ℕ) → SummedUpTo v ends groups sums → (g sum : ℕ) → g < length groups →
    g ≡ get_or groups v 0 → sum ≡ get_or sums g 0 + get_or ends v 0 → SummedUpTo (v + 1) ends groups (set sums g sum)
sums_more v ends groups sums before g sum low e f =
    record {
      size = omega (arith, length-set sums g sum, before.size);
      each = λ x h.
          ⊎_elim
          (λ (k : x ≡ g). ap (λ (y : ℕ). get_or (set sums g sum) y 0) k ∙ get_or-set_same sums g sum 0 (omega (arith, before.size))
          ∙ omega (arith, f, before.each g low, ends-here v ends groups g (sym e)) ∙ ap (ends_before (v + 1) ends groups) (sym k))
          (λ apart. get_or-set_other sums g x sum 0 apart ∙ before.each x h
          ∙ sym (ends-elsewhere v ends groups x (λ k. apart (sym (e ∙ k)))))
          (eq_dec x g);
    }

-- the ends before v are those of the rows
ends_are :
    (rows : List Word) (ends groups : List ℕ) → EndsArray rows ends → (v g : ℕ) → v ≤ length (tree_of rows) →
    ends_before v ends groups g ≡ sum_below v (λ (w : ℕ). when (eqb (get_or groups w 0) g) (copies (word_at rows w) rows))
unfolding ends_before
ends_are rows ends groups array v g h =
    sum_same v (λ (w : ℕ). when (eqb (get_or groups w 0) g) (get_or ends w 0))
    (λ (w : ℕ). when (eqb (get_or groups w 0) g) (copies (word_at rows w) rows))
    (λ w low. ap (when (eqb (get_or groups w 0) g)) (array.ends_at w (omega arith)))

-- no sum is above the number of rows
pub sums_few :
    (rows : List Word) (ends groups sums : List ℕ) (v g : ℕ) → EndsArray rows ends → v < length (tree_of rows) →
    g < length groups → g ≡ get_or groups v 0 → SummedUpTo v ends groups sums → get_or sums g 0 + get_or ends v 0 ≤ book_rows
sums_few rows ends groups sums v g array inside low e before =
    omega (
      arith,
      before.each g low,
      ends-here v ends groups g (sym e),
      ends_are rows ends groups array (v + 1) g (omega arith),
      ends-few rows (v + 1) (omega arith) (λ (w : ℕ). eqb (get_or groups w 0) g),
      array.few_rows,
    )

pub sums_end :
    (rows : List Word) (ends groups sums : List ℕ) (v : ℕ) → EndsArray rows ends → Labelled (length (tree_of rows)) groups →
    v ≡ length groups → SummedUpTo v ends groups sums → EndsSummed rows groups sums
unfolding group_ends
sums_end rows ends groups sums v array labels end r =
    let size : length groups ≡ length (tree_of rows) = labels.size in
    let all : v ≡ length (tree_of rows) = omega arith in
    record {
      size = omega (arith, r.size);
      each = λ g h.
          r.each g (omega arith) ∙ ap (λ (n : ℕ). ends_before n ends groups g) all
          ∙ ends_are rows ends groups array (length (tree_of rows)) g (omega arith);
    }
