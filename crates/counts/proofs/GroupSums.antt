-- The ends of a group of a partition are the rows whose states are in it, so that the group accepts where there are any. Assumes nothing.
use mathlib.Core.Path.{◌≡◌, sym, ap, ◌∙◌, subst}
use mathlib.Core.Bool.{Bool}
use mathlib.Core.List.{List, []}
use Prim.Native.Nat.{ℕ, ◌<◌}
use lib.Dec.{eqb, ltb}
use lib.ListN.{length, get_or}
use Rattle.base.specs.Limits.{when}
use Rattle.base.specs.Lists.{how_many, copies}
use Rattle.base.proofs.Tests.{tells_eqb, tells_ltb, same_tests}
use Rattle.base.proofs.Totals.{total-places, sum_same, many_some, some_many}
use Rattle.model.specs.Classes.{Word}
use Rattle.model.specs.Joinings.{tree_of, group_at, group_accepts}
use Rattle.model.proofs.Groups.{tells_accepts}
use Rattle.model.proofs.Trees.{row_node}
use Rattle.indexed.specs.Trees.{word_at}
use Rattle.indexed.specs.Partitions.{Labelled}
use Rattle.indexed.proofs.Words.{group_at-number}
use Rattle.indexed.proofs.TreeArcs.{labels_fit}
use Rattle.counts.specs.TreeCounts.{group_ends}
use Rattle.counts.proofs.TreeSums.{copies-sum}

module _ (rows : List Word) (groups : List ℕ) (labels : Labelled (length (tree_of rows)) groups) where
  -- the ends of a group by the rows
  pub ends-by_rows : (g : ℕ) → group_ends rows groups g ≡ how_many (λ (row : Word). eqb (group_at (tree_of rows) groups row) g) rows
  unfolding group_ends
  ends-by_rows g =
      sum_same (length (tree_of rows)) (λ (v : ℕ). when (eqb (get_or groups v 0) g) (copies (word_at rows v) rows))
      (λ (v : ℕ). when (eqb (group_at (tree_of rows) groups (word_at rows v)) g) (copies (word_at rows v) rows))
      (λ v h.
      ap (λ (k : ℕ). when (eqb k g) (copies (word_at rows v) rows))
      (sym (group_at-number rows groups v (labels_fit rows groups labels) h)))
      ∙ sym (total-places [] (λ (w : Word). when (eqb (group_at (tree_of rows) groups w) g) (copies w rows)) (tree_of rows))
      ∙ copies-sum rows (λ (w : Word). eqb (group_at (tree_of rows) groups w) g)

  -- a group accepts where it has ends
  pub group_accepts_lem : (g : ℕ) → group_accepts rows (tree_of rows) groups g ≡ ltb 0 (group_ends rows groups g)
  group_accepts_lem g =
      same_tests (tells_accepts rows (tree_of rows) groups g) (tells_ltb 0 (group_ends rows groups g))
      (λ r. subst (λ (n : ℕ). 0 < n) (sym (ends-by_rows g))
      (many_some test rows r.0 r.3 ((tells_eqb (group_at (tree_of rows) groups r.0) g).test r.2)))
      (λ h.
      let r = some_many test rows (subst (λ (n : ℕ). 0 < n) (ends-by_rows g) h) in
      (r.0, row_node rows r.0 r.1, (tells_eqb (group_at (tree_of rows) groups r.0) g).fact r.2, r.1))
    where
      test : Word → Bool
      test w = eqb (group_at (tree_of rows) groups w) g
