-- Laws of lists of words: a word with one name more; a list with one word more; how often a word is in a list. Assumes nothing.
use mathlib.Core.Path.{◌≡◌, refl, sym, ap, ◌∙◌}
use mathlib.Core.Logic.{◌⊎◌, inl, inr, ⊎_elim}
use mathlib.Core.Bool.{Bool}
use mathlib.Core.List.{List, [], ◌∷◌, ◌++◌, Memᴰ as In}
use mathlib.Core.List.{cons≢nil}
use mathlib.Core.List.{append-ne-nil_of_right_ne-nil}
use Prim.Native.Nat.{ℕ, ◌+◌, ◌<◌}
use native.Mathlib.Omega.{arith}
use lib.ListN.{length, get_or, length-append, get_or-append}
use lib.Seq.{get_or-append_seam}
use Rattle.base.specs.Limits.{when}
use Rattle.base.specs.Lists.{same, total, copies}
use Rattle.model.specs.Classes.{Word}
use Rattle.base.proofs.Tests.{eq_dec, tells_same, told-false}
use Rattle.base.proofs.Totals.{total-append}
use Rattle.indexed.proofs.Ends.{row_copies}

pub snoc_not_nil : (w : Word) (a : ℕ) → w ++ (a ∷ []) ≡ [] → ⊥
snoc_not_nil w a e = append-ne-nil_of_right_ne-nil w cons≢nil e

-- a number up to n is below n or is n
pub below_or_last : (v n : ℕ) → v < n + 1 → (v < n) ⊎ (v ≡ n)
below_or_last v n h = ⊎_elim (λ e. inr e) (λ d. inl (omega (arith, d))) (eq_dec v n)

pub snoc_old : (nodes : List Word) (w : Word) (v n : ℕ) → length nodes ≡ n → v < n
    → get_or (nodes ++ (w ∷ [])) v [] ≡ get_or nodes v []
snoc_old nodes w v n e h = get_or-append nodes (w ∷ []) [] v (omega arith)

pub snoc_new : (nodes : List Word) (w : Word) (n : ℕ) → length nodes ≡ n → get_or (nodes ++ (w ∷ [])) n [] ≡ w
snoc_new nodes w n e = ap (λ (k : ℕ). get_or (nodes ++ (w ∷ [])) k []) (sym e) ∙ get_or-append_seam nodes w [] []

pub snoc_length : (nodes : List Word) (w : Word) → length (nodes ++ (w ∷ [])) ≡ length nodes + 1
snoc_length nodes w = length-append nodes (w ∷ [])

-- a word that is none of the rows
pub copies-none : (w : Word) (rows : List Word) → (In w rows → ⊥) → copies w rows ≡ 0
copies-none w rows out =
    let none : 0 < copies w rows → ⊥ = λ some. out ((row_copies w rows).0 some) in
    omega arith

-- one row more: it counts for its own word
copies-more : (w : Word) (rows : List Word) (row : Word) → copies w (rows ++ (row ∷ [])) ≡ copies w rows + when (same w row) 1
unfolding total
copies-more w rows row = omega (arith, total-append (λ (x : Word). when (same w x) 1) rows (row ∷ []))

pub copies-again : (rows : List Word) (row : Word) → copies row (rows ++ (row ∷ [])) ≡ copies row rows + 1
copies-again rows row =
    copies-more row rows row ∙ ap (λ (b : Bool). copies row rows + when b 1) ((tells_same row row).test refl)

-- and for no other
pub copies-other : (w : Word) (rows : List Word) (row : Word) → (w ≡ row → ⊥) → copies w (rows ++ (row ∷ [])) ≡ copies w rows
copies-other w rows row other =
    let none : when (same w row) 1 ≡ 0 = ap (λ (b : Bool). when b 1) (told-false (tells_same w row) other) in
    omega (arith, copies-more w rows row)
