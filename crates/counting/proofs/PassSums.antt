-- The passes summed from the last state to the first: what is left to be summed when the states from k on are done, at the start, after
-- one more, and at the end; and that no number gets too large. Assumes nothing.
use mathlib.Core.Path.{◌≡◌, refl, sym, ap, ap₂, ◌∙◌, subst}
use mathlib.Core.Bool.{Bool, ◌&&◌}
use mathlib.Core.List.{List}
use Prim.Native.Nat.{ℕ, suc, ◌+◌, ◌<◌, ◌≤◌}
use native.Mathlib.Omega.{arith}
use lib.Dec.{eqb, ltb}
use lib.ListN.{length, get_or, set, length-set}
use borrow.Author.Tests.{lt-ltb, eq-eqb}
use Rattle.base.specs.Limits.{when, name_limit, book_rows, state_limit, work_bytes, number_limit, row_limit}
use Rattle.base.specs.Lists.{total, sum_below}
use Rattle.base.specs.Cells.{cell_at, with_cell}
use Rattle.base.proofs.Tests.{told-false, tells_eqb, tells_ltb, tells_and, tells_itself}
use Rattle.base.proofs.Totals.{sum-zero, total-most}
use Rattle.base.proofs.CellLaws.{length-with_cell}
use Rattle.model.specs.Classes.{Word}
use Rattle.model.specs.Joinings.{tree_of}
use Rattle.indexed.specs.Trees.{word_at, EndsArray}
use Rattle.indexed.specs.Partitions.{Joined}
use Rattle.indexed.proofs.Kernels.{parent_below}
use Rattle.indexed.proofs.TreeArcs.{label_low}
use Rattle.counts.specs.TreeCounts.{begun, arc_passes_below, arc_passes}
use Rattle.counting.specs.PassCells.{RowsShort, CellsClear, PassesAt}
use Rattle.counts.proofs.Beginnings.{begun-children}
use Rattle.counts.proofs.Few.{begun-few, passes_few}
use Rattle.counting.proofs.Stores.{number_added, cell_added}

-- the passes on from a state to those of its next states that are below k
abbrev onward_below : List Word → List ℕ → ℕ → ℕ → ℕ
onward_below rows parents k u =
    sum_below k (λ (v : ℕ). when (ltb 0 v && eqb (get_or parents v 0) u) (begun rows (word_at rows v)))

-- the states from k on are done
pub record PassesLeft (rows : List Word) (parents names groups : List ℕ) (k : ℕ) (through work : List ℕ) : Type 0 where
  pub low : k ≤ length (tree_of rows)
  pub through_size : length through ≡ length (tree_of rows)
  pub work_size : work_bytes ≤ length work
  pub sums :
      (u : ℕ) → u < length (tree_of rows) →
      get_or through u 0 + onward_below rows parents k u ≡ begun rows (word_at rows u)
  pub cells :
      (w : ℕ) → 0 < w → w < length (tree_of rows) →
      cell_at work (get_or groups (get_or parents w 0) 0) (get_or names w 0)
      + arc_passes_below k rows parents names groups (get_or groups (get_or parents w 0) 0) (get_or names w 0)
      ≡ arc_passes rows parents names groups (get_or groups (get_or parents w 0) 0) (get_or names w 0)

-- one state more in a sum
onward-more :
    (rows : List Word) (parents : List ℕ) (v u : ℕ) → 0 < v →
    onward_below rows parents (suc v) u
    ≡ onward_below rows parents v u + when (eqb (get_or parents v 0) u) (begun rows (word_at rows v))
unfolding sum_below
onward-more rows parents v u pos =
    ap (λ (b : Bool). onward_below rows parents v u + when (b && eqb (get_or parents v 0) u) (begun rows (word_at rows v)))
    (lt-ltb 0 v pos)

passes_more :
    (rows : List Word) (parents names groups : List ℕ) (v g a : ℕ) → 0 < v →
    arc_passes_below (suc v) rows parents names groups g a
    ≡ arc_passes_below v rows parents names groups g a
    + when (eqb (get_or groups (get_or parents v 0) 0) g && eqb (get_or names v 0) a) (begun rows (word_at rows v))
unfolding arc_passes_below sum_below
passes_more rows parents names groups v g a pos =
    ap (λ (b : Bool). arc_passes_below v rows parents names groups g a
    + when (b && (eqb (get_or groups (get_or parents v 0) 0) g && eqb (get_or names v 0) a)) (begun rows (word_at rows v)))
    (lt-ltb 0 v pos)

-- where the first state is the only one, no arc leads
passes_none :
    (rows : List Word) (parents names groups : List ℕ) (k g a : ℕ) → k ≤ 1 → arc_passes_below k rows parents names groups g a ≡ 0
unfolding arc_passes_below
passes_none rows parents names groups k g a first =
    sum-zero k
    (λ (v : ℕ).
    when (ltb 0 v && (eqb (get_or groups (get_or parents v 0) 0) g && eqb (get_or names v 0) a)) (begun rows (word_at rows v)))
    (λ v low. ap (λ (b : Bool). when b (begun rows (word_at rows v)))
    (told-false
    (tells_and (tells_ltb 0 v) (tells_itself (eqb (get_or groups (get_or parents v 0) 0) g && eqb (get_or names v 0) a)))
    (λ both. let pos : 0 < v = both.0 in let z : ⊥ = omega arith in z)))

-- no arc has more passes than the rows have entries
pub arc-passes_few :
    (rows : List Word) (parents names groups : List ℕ) (g a : ℕ) →
    arc_passes rows parents names groups g a ≤ total (λ (row : Word). length row) rows
unfolding arc_passes_below
arc-passes_few rows parents names groups g a =
    passes_few rows (length (tree_of rows)) (omega arith)
    (λ (v : ℕ). eqb (get_or groups (get_or parents v 0) 0) g && eqb (get_or names v 0) a)

module _ (rows : List Word) (parents names groups : List ℕ) (joined : Joined rows parents names groups) where
  pub sums_start :
      (through work : List ℕ) → EndsArray rows through → CellsClear (length groups) parents names groups work →
      PassesLeft rows parents names groups (length groups) through work
  sums_start through work ends clear =
      subst (λ (k : ℕ). PassesLeft rows parents names groups k through work) (sym joined.labels.size)
      (record {
        low = omega arith;
        through_size = ends.ends_size;
        work_size = clear.work_size;
        sums = λ u h. omega (arith, ends.ends_at u h, begun-children rows parents names joined.tree u h);
        cells = λ w pos h. omega (arith, clear.each w pos (omega (arith, joined.labels.size)));
      })

  pub sums_end :
      (k : ℕ) (through work : List ℕ) → k ≤ 1 → PassesLeft rows parents names groups k through work →
      PassesAt rows parents names groups work
  sums_end k through work first r =
      record {
        work_size = r.work_size;
        each = λ w pos h.
            omega (
              arith,
              r.cells w pos h,
              passes_none rows parents names groups k (get_or groups (get_or parents w 0) 0) (get_or names w 0) first,
            );
      }

  -- the state before k is next
  module _ (v : ℕ) (through work : List ℕ) (pos : 0 < v)
      (left : PassesLeft rows parents names groups (suc v) through work) where
    -- it has all its passes: no state below it goes on from it
    all_there : get_or through v 0 ≡ begun rows (word_at rows v)
    all_there =
        omega (
          arith,
          left.sums v left.low,
          sum-zero (suc v) (λ (w : ℕ). when (ltb 0 w && eqb (get_or parents w 0) v) (begun rows (word_at rows w))) none,
        )
      where
        none : (w : ℕ) → w < suc v → when (ltb 0 w && eqb (get_or parents w 0) v) (begun rows (word_at rows w)) ≡ 0
        none w low =
            ap (λ (b : Bool). when b (begun rows (word_at rows w)))
            (told-false (tells_and (tells_ltb 0 w) (tells_eqb (get_or parents w 0) v))
            (λ both.
            let z : ⊥ =
            omega (arith, left.low, joined.tree.parent_before w both.0 (omega (arith, left.low)), both.1) in z))

    parent_low : get_or parents v 0 < length (tree_of rows)
    parent_low = parent_below rows parents names joined.tree v pos left.low

    -- its passes can be added to its parent's, and to its arc's
    pub through-room : length rows ≤ book_rows → get_or through (get_or parents v 0) 0 + get_or through v 0 < number_limit
    through-room few =
        let p = get_or parents v 0 in
        omega (
          arith,
          all_there,
          left.sums p parent_low,
          onward-more rows parents v p pos,
          ap (λ (b : Bool). when b (begun rows (word_at rows v))) (eq-eqb p p refl),
          begun-few rows (word_at rows p),
        )

    pub cell_room :
        length rows ≤ book_rows → RowsShort rows →
        cell_at work (get_or groups (get_or parents v 0) 0) (get_or names v 0) + get_or through v 0 < number_limit
    cell_room few short =
        let g = get_or groups (get_or parents v 0) 0 in
        let a = get_or names v 0 in
        omega (
          arith,
          all_there,
          left.cells v pos left.low,
          passes_more rows parents names groups v g a pos,
          ap₂ (λ (b c : Bool). when (b && c) (begun rows (word_at rows v))) (eq-eqb g g refl) (eq-eqb a a refl),
          arc-passes_few rows parents names groups g a,
          total-most (λ (row : Word). length row) row_limit rows short.short,
        )

    -- when they are added, it is done
    sums-then :
        PassesLeft rows parents names groups v
        (set through (get_or parents v 0) (get_or through (get_or parents v 0) 0 + get_or through v 0))
        (with_cell work (get_or groups (get_or parents v 0) 0) (get_or names v 0)
        (cell_at work (get_or groups (get_or parents v 0) 0) (get_or names v 0) + get_or through v 0))
    sums-then =
        record {
          low = omega (arith, left.low);
          through_size = length-set through p (get_or through p 0 + x) ∙ left.through_size;
          work_size = omega (arith, length-with_cell work g a (cell_at work g a + x), left.work_size);
          sums = λ u h.
              omega (
                arith,
                number_added through p x u (omega (arith, parent_low, left.through_size)),
                onward-more rows parents v u pos,
                ap (when (eqb p u)) all_there,
                left.sums u h,
              );
          cells = λ w pw h.
              let g' = get_or groups (get_or parents w 0) 0 in
              let a' = get_or names w 0 in
              omega (
                arith,
                cell_added work g a x g' a' row_low (names_low v pos left.low) (names_low w pw h) left.work_size,
                passes_more rows parents names groups v g' a' pos,
                ap (when (eqb g g' && eqb a a')) all_there,
                left.cells w pw h,
              );
        }
      where
        p : ℕ
        p = get_or parents v 0

        x : ℕ
        x = get_or through v 0

        g : ℕ
        g = get_or groups p 0

        a : ℕ
        a = get_or names v 0

        row_low : g < state_limit
        row_low = omega (arith, label_low joined.labels p parent_low, joined.few)

        names_low : (w : ℕ) → 0 < w → w < length (tree_of rows) → get_or names w 0 < name_limit
        names_low w pw h = joined.tree.name_below w pw h

    -- the same of what the pass has then
    pub sums_more :
        (parent passes row column : ℕ) (through' work' : List ℕ) → parent ≡ get_or parents v 0 → passes ≡ get_or through v 0 →
        row ≡ get_or groups parent 0 → column ≡ get_or names v 0 →
        through' ≡ set through parent (get_or through parent 0 + passes) →
        work' ≡ with_cell work row column (cell_at work row column + passes) → PassesLeft rows parents names groups v through' work'
    sums_more parent passes row column through' work' e f g h k l = rw (l, k, g, h, e, f) sums-then
