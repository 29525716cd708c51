-- A number added to one of an array and to a cell, and the cells of tree arcs cleared, one more at a time. Assumes nothing.
use mathlib.Core.Path.{◌≡◌, refl, sym, ap, ap₂, ◌∙◌, subst}
use mathlib.Core.Logic.{◌⊎◌, inl, inr}
use mathlib.Core.Bool.{Bool, true, false, ◌&&◌, cond}
use mathlib.Core.List.{List}
use Prim.Native.Nat.{ℕ, ◌+◌, ◌<◌, ◌≤◌}
use native.Mathlib.Omega.{arith}
use lib.Dec.{eqb}
use lib.ListN.{length, get_or, set}
use lib.Seq.{get_or-set_same, get_or-set_other}
use Rattle.base.specs.Limits.{when, name_limit, state_limit, work_bytes}
use Rattle.base.specs.Cells.{cell_at, with_cell}
use Rattle.base.proofs.Tests.{Tells, not_told, eq_dec, tells_eqb, tells_and}
use Rattle.base.proofs.CellLaws.{length-with_cell, cell_same, cell_other}
use Rattle.model.specs.Classes.{Word}
use Rattle.indexed.specs.Partitions.{Joined}
use Rattle.indexed.proofs.TreeArcs.{from_low, name_low}
use Rattle.counting.specs.PassCells.{CellsClear}

-- ---- one store

-- a number of an array after some is added to one
pub number_added :
    (numbers : List ℕ) (at more u : ℕ) → at < length numbers →
    get_or (set numbers at (get_or numbers at 0 + more)) u 0 ≡ get_or numbers u 0 + when (eqb at u) more
number_added numbers at more u low = go (eqb at u) refl
  where
    go : (b : Bool) → eqb at u ≡ b → get_or (set numbers at (get_or numbers at 0 + more)) u 0 ≡ get_or numbers u 0 + when b more
    go true e =
        subst (λ (k : ℕ). get_or (set numbers at (get_or numbers at 0 + more)) k 0 ≡ get_or numbers k 0 + more)
        ((tells_eqb at u).fact e) (get_or-set_same numbers at (get_or numbers at 0 + more) 0 low)
    go false e =
        omega (
          arith,
          get_or-set_other numbers at u (get_or numbers at 0 + more) 0 (λ q. not_told (tells_eqb at u) e (sym q)),
        )

-- a cell after one is written
cell_written :
    (work : List ℕ) (row column value g a : ℕ) → row < state_limit → column < name_limit → a < name_limit →
    work_bytes ≤ length work →
    cell_at (with_cell work row column value) g a ≡ cond (eqb row g && eqb column a) value (cell_at work g a)
cell_written work row column value g a r c low size = go (eqb row g && eqb column a) refl
  where
    here : Tells (eqb row g && eqb column a) ((row ≡ g) × (column ≡ a))
    here = tells_and (tells_eqb row g) (tells_eqb column a)

    go :
        (b : Bool) → (eqb row g && eqb column a) ≡ b →
        cell_at (with_cell work row column value) g a ≡ cond b value (cell_at work g a)
    go true e =
        let both = here.fact e in
        ap₂ (cell_at (with_cell work row column value)) (sym both.0) (sym both.1) ∙ cell_same work row column value r c size
    go false e = cell_other work row column value g a c low (λ p q. not_told here e (sym p, sym q))

-- a cell after some is added to one
pub cell_added :
    (work : List ℕ) (row column more g a : ℕ) → row < state_limit → column < name_limit → a < name_limit →
    work_bytes ≤ length work →
    cell_at (with_cell work row column (cell_at work row column + more)) g a
    ≡ cell_at work g a + when (eqb row g && eqb column a) more
cell_added work row column more g a r c low size =
    cell_written work row column (cell_at work row column + more) g a r c low size ∙ go (eqb row g && eqb column a) refl
  where
    here : Tells (eqb row g && eqb column a) ((row ≡ g) × (column ≡ a))
    here = tells_and (tells_eqb row g) (tells_eqb column a)

    go :
        (b : Bool) → (eqb row g && eqb column a) ≡ b →
        cond b (cell_at work row column + more) (cell_at work g a) ≡ cell_at work g a + when b more
    go true e = let both = here.fact e in ap₂ (λ (x y : ℕ). cell_at work x y + more) both.0 both.1
    go false e = omega arith

-- ---- cells cleared

module _ (rows : List Word) (parents names groups : List ℕ) (joined : Joined rows parents names groups) where
  -- one more cell cleared
  pub clear_more :
      (v row column : ℕ) (work work' : List ℕ) → 0 < v → v < length groups → CellsClear v parents names groups work →
      row ≡ get_or groups (get_or parents v 0) 0 → column ≡ get_or names v 0 → work' ≡ with_cell work row column 0 →
      CellsClear (v + 1) parents names groups work'
  clear_more v row column work work' pos inside before e f k = rw (k, e, f) cleared
    where
      row_low : get_or groups (get_or parents v 0) 0 < state_limit
      row_low = omega (arith, from_low rows parents names groups joined v pos inside, joined.labels.size, joined.few)

      low : (w : ℕ) → 0 < w → w < v + 1 → get_or names w 0 < name_limit
      low w pw h = name_low rows parents names groups joined w pw (omega arith)

      kept : (b : Bool) (x : ℕ) → x ≡ 0 → cond b 0 x ≡ 0
      kept true x q = refl
      kept false x q = q

      now : List ℕ
      now = with_cell work (get_or groups (get_or parents v 0) 0) (get_or names v 0) 0

      is-clear :
          (w : ℕ) → 0 < w → w < v + 1 → (w ≡ v) ⊎ (w ≡ v → ⊥) →
          cell_at now (get_or groups (get_or parents w 0) 0) (get_or names w 0) ≡ 0
      is-clear w pw h (inl q) =
          ap (λ (x : ℕ). cell_at now (get_or groups (get_or parents x 0) 0) (get_or names x 0)) q
          ∙ cell_same work (get_or groups (get_or parents v 0) 0) (get_or names v 0) 0 row_low
          (low v pos (omega arith)) before.work_size
      is-clear w pw h (inr d) =
          cell_written work (get_or groups (get_or parents v 0) 0) (get_or names v 0) 0 (get_or groups (get_or parents w 0) 0) (get_or names w 0)
          row_low (low v pos (omega arith)) (low w pw h) before.work_size
          ∙ kept (eqb (get_or groups (get_or parents v 0) 0) (get_or groups (get_or parents w 0) 0) && eqb (get_or names v 0) (get_or names w 0))
          (cell_at work (get_or groups (get_or parents w 0) 0) (get_or names w 0)) (before.each w pw (omega (arith, d)))

      cleared : CellsClear (v + 1) parents names groups now
      cleared =
          record {
            work_size = omega (arith, length-with_cell work (get_or groups (get_or parents v 0) 0) (get_or names v 0) 0, before.work_size);
            each = λ w pw h. is-clear w pw h (eq_dec w v);
          }
