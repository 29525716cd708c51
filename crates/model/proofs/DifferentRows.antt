-- How many different rows there are: the rows without later copies are the set of rows, and lists that are one set are of one length. So
-- the number is that of every such list, of the accepting states of the prefix tree, and of every book with the same set of rows; and
-- a row more adds one where it is new, and none where it was there. Assumes nothing.
use mathlib.Core.Path.{◌≡◌, refl, sym}
use mathlib.Core.Logic.{⊎_elim}
use mathlib.Core.Bool.{not}
use mathlib.Core.List.Memᴰ.{head as here}
use mathlib.Core.List.Memᴰ.{tail as there}
use mathlib.Core.List.{List, [], ◌∷◌, ◌++◌, Memᴰ as In}
use mathlib.Core.List.Memᴰ
use Prim.Native.Nat.{suc, ◌≤◌}
use native.Mathlib.Omega.{arith}
use lib.ListN.{length, length-append}
use Rattle.base.specs.Lists.{filter_by, same, has_row, Distinct}
use Rattle.base.proofs.Lists.{in_filter_by, filter_by-in, distinct_filter_by, distinct_snoc, distinct_length, same_length}
use Rattle.base.proofs.Tests.{Tells, decided, tells_not, tells_same, tells_all, tells_has_row}
use Rattle.model.specs.Classes.{Word}
use Rattle.model.specs.Joinings.{tree_of}
use Rattle.model.specs.Calls.{different_rows}
use Rattle.model.specs.Claims.{all_among, SetOf, accepting_nodes}
use Rattle.model.proofs.Trees.{tree_of-tree, row_node}

-- rows that are all among others
pub tells_among : (rows others : List Word) → Tells (all_among rows others) ((r : Word) → In r rows → In r others)
unfolding all_among
tells_among rows others = tells_all (λ r. tells_has_row r others) rows

-- ---- the set of rows

-- a row that is another than this
tells_other : (row r : Word) → Tells (not (same row r)) (row ≡ r → ⊥)
tells_other row r = tells_not (tells_same row r)

-- the different rows are the rows, and none stands twice
different_in_lem : (rows : List Word) (r : Word) → In r (different_rows rows) → In r rows
unfolding different_rows
different_in_lem [] r m = m
different_in_lem (row ∷ rows) r m =
    ⊎_elim (λ e. here e)
    (λ n. there (different_in_lem rows r (filter_by-in (λ (other : Word). not (same row other)) (different_rows rows) n).0))
    (Memᴰ.cases_cons m)

in_different : (rows : List Word) (r : Word) → In r rows → In r (different_rows rows)
unfolding different_rows
in_different [] r m = m
in_different (row ∷ rows) r m =
    ⊎_elim (λ e. here (sym e))
    (λ (out : row ≡ r → ⊥).
    there (in_filter_by (λ (other : Word). not (same row other)) (different_rows rows) (in_different rows r (later out))
    ((tells_other row r).test out)))
    (decided (tells_same row r))
  where
    later : (row ≡ r → ⊥) → In r rows
    later out = ⊎_elim (λ e. absurd (out (sym e))) (λ n. n) (Memᴰ.cases_cons m)

different_distinct : (rows : List Word) → Distinct (different_rows rows)
unfolding different_rows
different_distinct [] = tt
different_distinct (row ∷ rows) = (
  λ m. (tells_other row row).fact (filter_by-in (λ (other : Word). not (same row other)) (different_rows rows) m).1 refl,
  distinct_filter_by (λ (other : Word). not (same row other)) (different_rows rows) (different_distinct rows),
)

-- so they are the set of the rows, and every list that is has as many
pub different_set : (rows : List Word) → SetOf rows (different_rows rows)
different_set rows =
    record {
      there = (tells_among rows (different_rows rows)).test (in_different rows);
      no_other = (tells_among (different_rows rows) rows).test (different_in_lem rows);
      once = different_distinct rows;
    }

set-length :
    (rows set : List Word) → Distinct set → ((r : Word) → In r set → In r rows) → ((r : Word) → In r rows → In r set) →
    length set ≡ length (different_rows rows)
set-length rows set once no_other All-there =
    same_length set (different_rows rows) once (different_distinct rows) (λ r m. in_different rows r (no_other r m))
    (λ r m. All-there r (different_in_lem rows r m))

pub set_size : (rows set : List Word) → SetOf rows set → length set ≡ length (different_rows rows)
set_size rows set s =
    set-length rows set s.once ((tells_among set rows).fact s.no_other) ((tells_among rows set).fact s.there)

-- ---- what follows of the number

-- the same rows, the same number
pub different_same :
    (rows others : List Word) → ((r : Word) → In r rows → In r others) → ((r : Word) → In r others → In r rows) →
    length (different_rows rows) ≡ length (different_rows others)
different_same rows others f g =
    set-length others (different_rows rows) (different_distinct rows) (λ r m. f r (different_in_lem rows r m))
    (λ r m. in_different rows r (g r m))

-- no more than the rows, and some where there is a row
pub different_few : (rows : List Word) → length (different_rows rows) ≤ length rows
different_few rows = distinct_length (different_rows rows) rows (different_distinct rows) (different_in_lem rows)

pub different_some : (rows : List Word) (r : Word) → In r rows → 1 ≤ length (different_rows rows)
different_some rows r m =
    distinct_length (r ∷ []) (different_rows rows) (λ n. Memᴰ.not-nil n, tt)
    (λ q n. Memᴰ.cast (Memᴰ.eq_of_singleton n) (in_different rows r m))

-- no more than the prefix tree has states
pub different_nodes : (rows : List Word) → length (different_rows rows) ≤ length (tree_of rows)
different_nodes rows =
    distinct_length (different_rows rows) (tree_of rows) (different_distinct rows) (λ r m. row_node rows r (different_in_lem rows r m))

-- as many as the prefix tree has accepting states
pub accepting_nodes_lem : (rows : List Word) → length (accepting_nodes rows) ≡ length (different_rows rows)
unfolding accepting_nodes
accepting_nodes_lem rows =
    set-length rows (filter_by (λ (w : Word). has_row w rows) (tree_of rows))
    (distinct_filter_by (λ (w : Word). has_row w rows) (tree_of rows) (tree_of-tree rows).distinct)
    (λ r m. (tells_has_row r rows).fact (filter_by-in (λ (w : Word). has_row w rows) (tree_of rows) m).1)
    (λ r m. in_filter_by (λ (w : Word). has_row w rows) (tree_of rows) (row_node rows r m) ((tells_has_row r rows).test m))

-- ---- one row more

-- a row that was there adds none
pub different_again :
    (rows : List Word) (row : Word) → In row rows →
    length (different_rows (rows ++ (row ∷ []))) ≡ length (different_rows rows)
different_again rows row m =
    different_same (rows ++ (row ∷ [])) rows
    (λ r n. ⊎_elim (λ k. k) (λ k. Memᴰ.cast (Memᴰ.eq_of_singleton k) m) (Memᴰ.append_cases rows n))
    (λ r n. Memᴰ.append_left (row ∷ []) n)

-- a new one adds one
pub different_new :
    (rows : List Word) (row : Word) → (In row rows → ⊥) →
    length (different_rows (rows ++ (row ∷ []))) ≡ suc (length (different_rows rows))
different_new rows row out =
    let more = set-length (rows ++ (row ∷ [])) (different_rows rows ++ (row ∷ []))
    (distinct_snoc (different_rows rows) row (different_distinct rows) (λ m. out (different_in_lem rows row m)))
    (λ r m.
    ⊎_elim (λ n. Memᴰ.append_left (row ∷ []) (different_in_lem rows r n)) (λ n. Memᴰ.append_right rows n)
    (Memᴰ.append_cases (different_rows rows) m))
    (λ r m.
    ⊎_elim (λ n. Memᴰ.append_left (row ∷ []) (in_different rows r n)) (λ n. Memᴰ.append_right (different_rows rows) n)
    (Memᴰ.append_cases rows m)) in
    omega (arith, more, length-append (different_rows rows) (row ∷ []))
