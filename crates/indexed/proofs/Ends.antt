-- The states in which rows end are those whose words are rows. Assumes nothing.
use mathlib.Core.Path.{refl, sym, subst}
use mathlib.Core.Logic.{◌↔◌}
use mathlib.Core.List.{List, Memᴰ as In}
use Prim.Native.Nat.{ℕ, ◌<◌}
use lib.ListN.{length, get_or}
use Rattle.base.specs.Lists.{same, copies}
use Rattle.base.proofs.Tests.{tells_same}
use Rattle.base.proofs.Totals.{many_some, some_many}
use Rattle.model.specs.Classes.{Word}
use Rattle.model.specs.Joinings.{tree_of}
use Rattle.indexed.specs.Trees.{word_at, EndsArray}

-- a row is among the rows at least once
pub row_copies : (row : Word) (rows : List Word) → (0 < copies row rows) ↔ In row rows
row_copies row rows = (
  λ some.
      let r = some_many (same row) rows some in
      subst (λ (w : Word). In w rows) (sym ((tells_same row r.0).fact r.2)) r.1,
  λ m. many_some (same row) rows row m ((tells_same row row).test refl),
)

pub ended-row :
    (rows : List Word) (ends : List ℕ) → EndsArray rows ends → (v : ℕ) → v < length (tree_of rows) →
    (0 < get_or ends v 0) ↔ In (word_at rows v) rows
ended-row rows ends array v h = (
  λ some. (row_copies (word_at rows v) rows).0 (subst (λ (n : ℕ). 0 < n) (array.ends_at v h) some),
  λ m. subst (λ (n : ℕ). 0 < n) (sym (array.ends_at v h)) ((row_copies (word_at rows v) rows).1 m),
)
