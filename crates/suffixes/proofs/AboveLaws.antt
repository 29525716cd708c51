-- Laws of the name before the last j: it is the first of a code of j + 1 names, and the code of j names is the rest. Then of
-- such names filled in from the root on, and states with one code are one state or have the same last j names. Assumes nothing.
use mathlib.Core.Path.{◌≡◌, refl, sym, ap, ◌∙◌, subst}
use mathlib.Core.Logic.{◌⊎◌, inl, inr, ⊎_elim}
use mathlib.Core.List.{List}
use Rattle.std.proofs.Common.{Option, None, Some, MatchOption}
use Rattle.std.specs.Option.{unwrap_or}
use Prim.Native.Nat.{ℕ, zero, suc, ◌+◌, ◌*◌, ◌/◌, ◌%◌, ◌^◌, ◌<◌, ◌≤◌}
use native.Mathlib.Nat.{mod-lt}
use native.Mathlib.Omega.{arith}
use lib.ListN.{get_or}
use lib.Pow.{pow_pos, shr_lt, shr-shr, shr_le, split, high}
use Rattle.base.specs.Limits.{name_limit}
use Rattle.base.proofs.Tests.{decided, tells_ltb}
use Rattle.indexed.specs.Trees.{Arrays, SameSuffix, up}
use Rattle.indexed.specs.Passes.{SuffixAlike}
use Rattle.indexed.proofs.Suffixes.{parent_below}
use Rattle.suffixes.specs.Codes.{code, least, Coded}
use Rattle.suffixes.proofs.CodeLaws.{IsCode, name-small, code-small, code_one, code_alike}

-- the top digit of a code, by the state u whose name it is of: 0 at the root
pub record Digit (names : List ℕ) (u top : ℕ) : Type 0 where
  pub root : u ≡ 0 → top ≡ 0
  pub name : 0 < u → top ≡ get_or names u 0 + 1

-- all bits of no name
whole : (x : ℕ) → x / 2 ^ (7 * 0) ≡ x
whole x =
    let parts : x / 2 ^ (7 * 0) * 2 ^ (7 * 0) + x % 2 ^ (7 * 0) ≡ x = split x (7 * 0) in
    let none : x % 2 ^ (7 * 0) < 2 ^ (7 * 0) = mod-lt x (pow_pos (7 * 0)) in
    omega arith

-- the first digit is that of the code without its last name
shorter : (j c a : ℕ) → a < 128 → (c * 128 + a) / 2 ^ (7 * suc j) ≡ c / 2 ^ (7 * j)
shorter j c a small =
    let sum_is : 7 * suc j ≡ 7 + 7 * j = omega arith in
    ap (λ (k : ℕ). (c * 128 + a) / 2 ^ k) sum_is ∙ sym (shr-shr (c * 128 + a) 7 (7 * j))
    ∙ ap (λ (x : ℕ). x / 2 ^ (7 * j)) (high c 7 small)

-- a code of j + 1 names has one name of seven bits before the last j
pub top_small : (j x : ℕ) → x < 2 ^ (7 * suc j) → x / 2 ^ (7 * j) < 128
top_small j x h =
    let sum_is : 7 * suc j ≡ 7 + 7 * j = omega arith in
    shr_lt 7 (7 * j) (subst (λ (k : ℕ). x < 2 ^ k) sum_is h)

module _ (n : ℕ) (parents names : List ℕ) (arrays : Arrays n parents names) where
  -- the root goes on from itself
  pub up_root : (i : ℕ) → up parents i 0 ≡ 0
  unfolding up
  up_root zero = refl
  up_root (suc i) = ap (up parents i) arrays.root_parent ∙ up_root i

  -- the first digit of a code of j + 1 names is that of the j-th ancestor
  code-top : (j v : ℕ) → v < n → Digit names (up parents j v) (code parents names (suc j) v / 2 ^ (7 * j))
  unfolding code up
  code-top zero zero h = record { root = λ e. whole 0; name = λ p. absurd (omega arith) }
  code-top zero (suc v) h =
      record {
        root = λ e. absurd (omega arith);
        name = λ p. omega (arith, whole (0 * 128 + (get_or names (suc v) 0 + 1)));
      }
  code-top (suc j) zero h =
      let at-root : up parents (suc j) 0 ≡ 0 = up_root (suc j) in
      let nothing : 0 / 2 ^ (7 * suc j) ≤ 0 = shr_le 0 (7 * suc j) in
      record { root = λ e. omega arith; name = λ p. absurd (omega arith) }
  code-top (suc j) (suc v) h =
      subst (Digit names (up parents j (get_or parents (suc v) 0)))
      (sym (shorter j (code parents names (suc j) (get_or parents (suc v) 0)) (get_or names (suc v) 0 + 1)
      (name-small n parents names arrays v h)))
      (code-top j (get_or parents (suc v) 0) (parent_below n parents names arrays (suc v) h))

  -- a code of j names and the next name are a code of j + 1 names
  whole_code :
      (j v parent x : ℕ) → 0 < v → parent ≡ get_or parents v 0 → x ≡ code parents names j parent →
      x * 128 + (get_or names v 0 + 1) ≡ code parents names (suc j) v
  unfolding code
  whole_code j zero parent x some is value = absurd (omega arith)
  whole_code j (suc v) parent x some is value =
      ap (λ (y : ℕ). y * 128 + (get_or names (suc v) 0 + 1)) (value ∙ ap (code parents names j) is)

  -- the name of a top digit, no name where there is none
  digit_name :
      (u top : ℕ) (name : Option ℕ) → Digit names u top → MatchOption name (top ≡ 0) (λ x. x + 1 ≡ top) →
      unwrap_or name name_limit ≡ get_or names u 0
  digit_name zero top None digit named = sym arrays.root_name
  digit_name zero top (Some x) digit named = absurd (omega (arith, digit.root refl))
  digit_name (suc u) top None digit named = absurd (omega (arith, digit.name (omega arith)))
  digit_name (suc u) top (Some x) digit named = omega (arith, digit.name (omega arith))

  -- the code of j + 1 names in one turn, that it fits, and the name that it begins with
  module _ (j v : ℕ) (values : List ℕ) (some : 0 < v) (inside : v < n)
      (coded : (w : ℕ) → w < v → IsCode j parents names w (get_or values w 0)) where
    turn_code : get_or values (get_or parents v 0) 0 * 128 + (get_or names v 0 + 1) ≡ code parents names (suc j) v
    turn_code =
        whole_code j v (get_or parents v 0) (get_or values (get_or parents v 0) 0) some refl
        (coded (get_or parents v 0) (arrays.parent_before v some inside))

    pub turn_fits : get_or values (get_or parents v 0) 0 * 128 + (get_or names v 0 + 1) < 2 ^ (7 * suc j)
    turn_fits = subst (λ (y : ℕ). y < 2 ^ (7 * suc j)) (sym turn_code) (code-small n parents names arrays (suc j) v inside)

    pub turn_name :
        (x : ℕ) (name : Option ℕ) → x ≡ get_or values (get_or parents v 0) 0 * 128 + (get_or names v 0 + 1) →
        MatchOption name (x / 2 ^ (7 * j) ≡ 0) (λ y. y + 1 ≡ x / 2 ^ (7 * j)) →
        unwrap_or name name_limit ≡ get_or names (up parents j v) 0
    turn_name x name is named =
        digit_name (up parents j v) (x / 2 ^ (7 * j)) name
        (subst (λ (z : ℕ). Digit names (up parents j v) (z / 2 ^ (7 * j))) (sym (is ∙ turn_code)) (code-top j v inside)) named

-- a name is the one above a state
abbrev pub IsAbove : ℕ → List ℕ → List ℕ → ℕ → ℕ → Type 0
IsAbove j parents names v name = name ≡ get_or names (up parents j v) 0

-- states with one code are one state or have the same last j names
module _ (n j : ℕ) (parents names values : List ℕ) (arrays : Arrays n parents names)
    (coded : Coded n j parents names values) where
  pub codes-alike : SuffixAlike n j parents names values
  codes-alike = record { alike = λ v w hv hw. (there v w hv hw, back v w hv hw) }
    where
      there : (v w : ℕ) → v < n → w < n → get_or values v 0 ≡ get_or values w 0 → (v ≡ w) ⊎ SameSuffix parents names j v w
      there v w hv hw e =
          let one : code parents names j v ≡ code parents names j w = sym (coded.each v hv) ∙ e ∙ coded.each w hw in
          ⊎_elim (λ short. inl (code_one n parents names arrays j v w hv hw short one))
          (λ long. inr ((code_alike n parents names arrays j v w hv hw).0 (omega arith, one)))
          (decided (tells_ltb (code parents names j v) (least j)))

      back : (v w : ℕ) → v < n → w < n → (v ≡ w) ⊎ SameSuffix parents names j v w → get_or values v 0 ≡ get_or values w 0
      back v w hv hw (inl e) = ap (λ (x : ℕ). get_or values x 0) e
      back v w hv hw (inr s) =
          coded.each v hv ∙ ((code_alike n parents names arrays j v w hv hw).1 s).1 ∙ sym (coded.each w hw)
