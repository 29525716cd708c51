-- A finite set of words is (k,h)-contextual if a test over its words and their places says so. Assumes nothing.
use mathlib.Core.Path.{◌≡◌, sym, ap, ◌∙◌, subst, subst₂}
use mathlib.Core.Logic.{⊎_elim}
use mathlib.Core.Bool.{Bool, true, not, ◌||◌}
use mathlib.Core.List.{List, ◌++◌, Memᴰ as In}
use Prim.Native.Nat.{ℕ, suc, ◌+◌, ◌-◌, ◌≤◌}
use native.Mathlib.Omega.{arith}
use lib.ListN.{length, take, drop, length-append}
use lib.Seq.{take-append_seam, drop-append_seam, take-append-le, take-append-add, take_at}
use Rattle.base.specs.Lists.{all, numbers_from, same, has_row}
use Rattle.model.specs.Classes.{Word, Contextual}
use Rattle.model.specs.Sources.{Listed}
use Rattle.base.proofs.Tests.{tells_or, tells_not, tells_same, tells_itself, tells_all, tells_has_row}
use Rattle.base.proofs.Places.{in_numbers_from}

-- each tail of u among the rows is one of w
unfoldable pub tails_within : List Word → Word → Word → Bool
tails_within rows u w =
    all (λ (r : Word). not (same (take (length u) r) u) || has_row (w ++ drop (length u) r) rows) rows

-- where the same k names follow after n names of x and m names of y, each tail after i of them in x is one in y
unfoldable pub context_kept : ℕ → List Word → Word → Word → ℕ → ℕ → ℕ → Bool
context_kept k rows x y n m i =
    not (same (take k (drop n x)) (take k (drop m y))) || tails_within rows (take (n + i) x) (take (m + i) y)

-- so for all rows x and y, all places n and m in them, and each i from h to k
unfoldable pub is_contextual : ℕ → ℕ → List Word → Bool
is_contextual k h rows =
    all (λ (x : Word).
    all (λ (y : Word).
    all (λ (n : ℕ).
    all (λ (m : ℕ). all (context_kept k rows x y n m) (numbers_from (suc k - h) h)) (numbers_from (suc (length y) - k) 0))
    (numbers_from (suc (length x) - k) 0)) rows) rows

module _ (rows : List Word) where
  -- what the test of tails says
  within : (u w v : Word) → tails_within rows u w ≡ true → Listed rows (u ++ v) → Listed rows (w ++ v)
  unfolding tails_within
  within u w v e m =
      ⊎_elim (λ other. absurd (other (take-append_seam u v)))
      (λ f. subst (λ (z : Word). Listed rows (w ++ z)) (drop-append_seam u v) f)
      ((tells_all
      (λ r. tells_or (tells_not (tells_same (take (length u) r) u)) (tells_itself (has_row (w ++ drop (length u) r) rows)))
      rows).fact e (u ++ v) ((tells_has_row (u ++ v) rows).fact m))

  -- a word that holds k names after u holds them at a place where the test looks
  place_in : (k : ℕ) (u a w : Word) → length a ≡ k → In (length u) (numbers_from (suc (length (u ++ (a ++ w))) - k) 0)
  place_in k u a w size =
      let whole : length (u ++ (a ++ w)) ≡ length u + length (a ++ w) = length-append u (a ++ w) in
      let rest : length (a ++ w) ≡ length a + length w = length-append a w in
      in_numbers_from (suc (length (u ++ (a ++ w))) - k) 0 (length u) (omega arith) (omega arith)

  -- and has there these names, and before the i-th of them these
  names-there : (k : ℕ) (u a w : Word) → length a ≡ k → take k (drop (length u) (u ++ (a ++ w))) ≡ a
  names-there k u a w size = ap (take k) (drop-append_seam u (a ++ w)) ∙ take_at a w k size

  front-there : (u a w : Word) (i : ℕ) → i ≤ length a → take (length u + i) (u ++ (a ++ w)) ≡ u ++ take i a
  front-there u a w i h =
      take-append-add u (a ++ w) i ∙ ap (λ (z : Word). u ++ z) (take-append-le i a w h)

  module _ (k h : ℕ) (passed : is_contextual k h rows ≡ true) where
    -- the test at the places of two words
    kept :
        (x y : Word) (n m i : ℕ) → In x rows → In y rows → In n (numbers_from (suc (length x) - k) 0) →
        In m (numbers_from (suc (length y) - k) 0) → In i (numbers_from (suc k - h) h) → context_kept k rows x y n m i ≡ true
    unfolding is_contextual
    kept x y n m i x-in y-in n-in m-in i-in =
        (tells_all (λ x.
        tells_all (λ y.
        tells_all (λ n.
        tells_all (λ m. tells_all (λ i. tells_itself (context_kept k rows x y n m i)) (numbers_from (suc k - h) h))
        (numbers_from (suc (length y) - k) 0))
        (numbers_from (suc (length x) - k) 0)) rows) rows).fact passed x x-in y y-in n n-in m m-in i i-in

    -- so each tail after the i-th name of one word is one of the other
    one_way :
        (u1 u2 a w1 w2 : Word) (i : ℕ) → length a ≡ k → h ≤ i → i ≤ k → Listed rows (u1 ++ (a ++ w1)) →
        Listed rows (u2 ++ (a ++ w2)) → (v : Word) → Listed rows ((u1 ++ take i a) ++ v) → Listed rows ((u2 ++ take i a) ++ v)
    unfolding context_kept
    one_way u1 u2 a w1 w2 i size low high e1 e2 v =
        let x : Word = u1 ++ (a ++ w1) in
        let y : Word = u2 ++ (a ++ w2) in
        let in-a : i ≤ length a = omega arith in
        ⊎_elim
        (λ other. absurd (other (names-there k u1 a w1 size ∙ sym (names-there k u2 a w2 size))))
        (λ e. within (u1 ++ take i a) (u2 ++ take i a) v
        (subst₂ (λ (p q : Word). tails_within rows p q ≡ true) (front-there u1 a w1 i in-a) (front-there u2 a w2 i in-a) e))
        ((tells_or
        (tells_not (tells_same (take k (drop (length u1) x)) (take k (drop (length u2) y))))
        (tells_itself (tails_within rows (take (length u1 + i) x) (take (length u2 + i) y)))).fact
        (kept x y (length u1) (length u2) i ((tells_has_row x rows).fact e1) ((tells_has_row y rows).fact e2)
        (place_in k u1 a w1 size) (place_in k u2 a w2 size) (in_numbers_from (suc k - h) h i low (omega arith))))

    pub rows-contextual : Contextual k h (Listed rows)
    rows-contextual =
        record {
          equal_tails = λ u1 u2 a w1 w2 i size low high e1 e2.
              record {
                tails = λ v. (
                  one_way u1 u2 a w1 w2 i size (omega arith) high e1 e2 v,
                  one_way u2 u1 a w2 w1 i size (omega arith) high e2 e1 v,
                );
              };
        }
