-- The tree's arcs that a row passes: one for each beginning that is not empty, from the beginning before it by its last name. Rows that
-- begin with tree states, summed over the arcs into them that pass a test; so the rows that begin with a state are those that end there
-- and those that go on. Assumes nothing.
use mathlib.Core.Path.{◌≡◌, refl, sym, ap, ap₂, ◌∙◌}
use mathlib.Core.Bool.{Bool, true, false, ◌&&◌}
use mathlib.Core.List.Memᴰ
use mathlib.Core.List.{List, [], ◌∷◌, map, cons≢nil, head-eq_of_cons-eq, tail-eq_of_cons-eq}
use Prim.Native.Nat.{ℕ, zero, suc, ◌+◌, ◌<◌, ◌≤◌}
use native.Mathlib.Omega.{arith}
use lib.Dec.{eqb, ltb}
use lib.ListN.{length, get_or}
use borrow.Author.Tests.{lt-ltb}
use Rattle.base.specs.Limits.{when}
use Rattle.base.specs.Lists.{any, same, has_row, total, how_many, copies, sum_below}
use Rattle.base.proofs.Tests.{tells_and, tells_eqb, tells_same, tells_has_row, same_tests}
use Rattle.base.proofs.Lists.{map-in}
use Rattle.base.proofs.Totals.{when-le, total-same, total-add, total-map, total-places, sum_same}
use Rattle.model.specs.Classes.{Word}
use Rattle.model.specs.Joinings.{beginnings, tree_of}
use Rattle.model.proofs.Notions.{◌▸◌}
use Rattle.indexed.specs.Trees.{word_at, TreeArrays}
use Rattle.indexed.proofs.Words.{root_word, word_at-one}
use Rattle.indexed.proofs.Kernels.{parent_below}
use Rattle.counts.specs.TreeCounts.{begun}
use Rattle.counts.proofs.TreeSums.{begun-sum}

-- ---- the arcs of one row

-- the arc into a word, if there is one, passes the test: one of the word that it goes on from and the name by which
pub into : (Word → ℕ → Bool) → Word → Bool
into test [] = false
into test (x ∷ []) = test [] x
into test (x ∷ (y ∷ w)) = into (λ (u : Word). test (x ∷ u)) (y ∷ w)

into-snoc : (test : Word → ℕ → Bool) (u : Word) (a : ℕ) → into test (u ▸ a) ≡ test u a
unfolding into
into-snoc test [] a = refl
into-snoc test (x ∷ []) a = refl
into-snoc test (x ∷ (y ∷ u)) a = into-snoc (λ (w : Word). test (x ∷ w)) (y ∷ u) a

-- the arc into a word that is not empty passes a test that is always passed
pub into-some : (w : Word) → (w ≡ [] → ⊥) → into (λ (u : Word) (a : ℕ). true) w ≡ true
unfolding into
into-some [] some = absurd (some refl)
into-some (x ∷ []) some = refl
into-some (x ∷ (y ∷ w)) some = into-some (y ∷ w) (λ e. cons≢nil e)

-- how many arcs of a row pass the test
unfoldable pub passing : (Word → ℕ → Bool) → Word → ℕ
passing test [] = 0
passing test (x ∷ row) = when (test [] x) 1 + passing (λ (u : Word). test (x ∷ u)) row

-- there is one into each of its beginnings, but for the empty one
pub passing-beginnings : (test : Word → ℕ → Bool) (row : Word) → how_many (into test) (beginnings row) ≡ passing test row
unfolding into passing beginnings total
passing-beginnings test [] = refl
passing-beginnings test (x ∷ []) = omega arith
passing-beginnings test (x ∷ (y ∷ row)) =
    let longer : List Word = map (λ (w : Word). y ∷ w) (beginnings row) in
    let rest : total (λ (w : Word). when (into test w) 1) (map (λ (w : Word). x ∷ w) longer) ≡ how_many (into after) longer =
    total-map (λ (w : Word). when (into test w) 1) (λ (w : Word). x ∷ w) longer
    ∙ total-map (λ (w : Word). when (into test (x ∷ w)) 1) (λ (w : Word). y ∷ w) (beginnings row)
    ∙ sym (total-map (λ (w : Word). when (into after w) 1) (λ (w : Word). y ∷ w) (beginnings row)) in
    omega (arith, rest, passing-beginnings after (y ∷ row))
  where
    after : Word → ℕ → Bool
    after u = test (x ∷ u)

pub passing-same :
    (test test' : Word → ℕ → Bool) → ((u : Word) (a : ℕ) → test u a ≡ test' u a) → (row : Word) →
    passing test row ≡ passing test' row
unfolding passing
passing-same test test' e [] = refl
passing-same test test' e (x ∷ row) =
    ap₂ (λ (b : Bool) (n : ℕ). when b 1 + n) (e [] x)
    (passing-same (λ (u : Word). test (x ∷ u)) (λ (u : Word). test' (x ∷ u)) (λ u. e (x ∷ u)) row)

passing-none : (row : Word) → passing (λ (u : Word) (a : ℕ). false) row ≡ 0
unfolding passing
passing-none [] = refl
passing-none (x ∷ row) = omega (arith, passing-none row)

pub passing-few : (test : Word → ℕ → Bool) (row : Word) → passing test row ≤ length row
unfolding passing
passing-few test [] = omega arith
passing-few test (x ∷ row) = omega (arith, passing-few (λ (u : Word). test (x ∷ u)) row, when-le (test [] x) 1)

-- a word longer by a first name, among words longer by a first name
has_longer : (x y : ℕ) (u : Word) (ws : List Word) → has_row (x ∷ u) (map (λ (w : Word). y ∷ w) ws) ≡ eqb x y && has_row u ws
has_longer x y u ws =
    same_tests (tells_has_row (x ∷ u) (map (λ (w : Word). y ∷ w) ws)) (tells_and (tells_eqb x y) (tells_has_row u ws))
    (λ m.
    let r = map-in (λ (w : Word). y ∷ w) ws m in
    (head-eq_of_cons-eq r.2, Memᴰ.cast (tail-eq_of_cons-eq r.2) r.1))
    (λ h. Memᴰ.cast (ap (λ (z : ℕ). z ∷ u) h.0) (Memᴰ.map (λ (w : Word). y ∷ w) h.1))

-- a row that begins with a word ends there or passes one arc out of it
goes_on : (u row : Word) → when (has_row u (beginnings row)) 1 ≡ when (same u row) 1 + passing (λ (w : Word) (a : ℕ). same u w) row
unfolding passing beginnings has_row any same
goes_on [] [] = refl
goes_on [] (y ∷ row) = omega (arith, passing-none row)
goes_on (x ∷ u) [] = refl
goes_on (x ∷ u) (y ∷ row) =
    ap (λ (b : Bool). when b 1) (has_longer x y u (beginnings row)) ∙ go (eqb x y) (goes_on u row)
  where
    go :
        (b : Bool) → when (has_row u (beginnings row)) 1 ≡ when (same u row) 1 + passing (λ (w : Word) (a : ℕ). same u w) row →
        when (b && has_row u (beginnings row)) 1
        ≡ when (b && same u row) 1 + (0 + passing (λ (w : Word) (a : ℕ). b && same u w) row)
    go true again = omega (arith, again)
    go false again = omega (arith, passing-none row)

-- ---- the arcs of the tree

module _ (rows : List Word) (parents names : List ℕ) (tree : TreeArrays rows parents names) where
  -- the rows that begin with states, over those with an arc into them that passes the test, are the rows' arcs that pass it
  pub arcs_sum :
      (numbered : ℕ → Bool) (test : Word → ℕ → Bool) →
      ((v : ℕ) → 0 < v → v < length (tree_of rows) → numbered v ≡ test (word_at rows (get_or parents v 0)) (get_or names v 0)) →
      sum_below (length (tree_of rows)) (λ (v : ℕ). when (ltb 0 v && numbered v) (begun rows (word_at rows v)))
      ≡ total (passing test) rows
  unfolding into
  arcs_sum numbered test agree =
      sum_same (length (tree_of rows)) (λ (v : ℕ). when (ltb 0 v && numbered v) (begun rows (word_at rows v)))
      (λ (v : ℕ). when (into test (word_at rows v)) (begun rows (word_at rows v)))
      (λ v h. ap (λ (b : Bool). when b (begun rows (word_at rows v))) (go v h))
      ∙ sym (total-places [] (λ (w : Word). when (into test w) (begun rows w)) (tree_of rows))
      ∙ begun-sum rows (into test)
      ∙ total-same (λ (row : Word). how_many (into test) (beginnings row)) (passing test) rows (λ row m. passing-beginnings test row)
    where
      go : (v : ℕ) → v < length (tree_of rows) → ltb 0 v && numbered v ≡ into test (word_at rows v)
      go zero h = ap (into test) (sym (root_word rows))
      go (suc v) h =
          let pos : 0 < suc v = omega arith in
          ap (λ (b : Bool). b && numbered (suc v)) (lt-ltb 0 (suc v) pos) ∙ agree (suc v) pos h
          ∙ sym (into-snoc test (word_at rows (get_or parents (suc v) 0)) (get_or names (suc v) 0))
          ∙ ap (into test) (sym (tree.word (suc v) pos h))

  -- the rows that begin with a state's word end there or begin with a longer one
  pub begun-children :
      (u : ℕ) → u < length (tree_of rows) →
      begun rows (word_at rows u)
      ≡ copies (word_at rows u) rows
      + sum_below (length (tree_of rows)) (λ (v : ℕ). when (ltb 0 v && eqb (get_or parents v 0) u) (begun rows (word_at rows v)))
  unfolding begun
  begun-children u h =
      total-same (λ (row : Word). when (has_row word (beginnings row)) 1) (λ (row : Word). when (same word row) 1 + passing out row)
      rows (λ row m. goes_on word row)
      ∙ total-add (λ (row : Word). when (same word row) 1) (passing out) rows
      ∙ ap (λ (n : ℕ). copies word rows + n) (sym (arcs_sum (λ (v : ℕ). eqb (get_or parents v 0) u) out agree))
    where
      word : Word
      word = word_at rows u

      out : Word → ℕ → Bool
      out w a = same word w

      agree : (v : ℕ) → 0 < v → v < length (tree_of rows) → eqb (get_or parents v 0) u ≡ same word (word_at rows (get_or parents v 0))
      agree v pos k =
          same_tests (tells_eqb (get_or parents v 0) u) (tells_same word (word_at rows (get_or parents v 0)))
          (λ e. ap (λ (i : ℕ). word_at rows i) (sym e))
          (λ e. word_at-one rows (get_or parents v 0) u (parent_below rows parents names tree v pos k) h (sym e))
