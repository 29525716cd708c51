-- Laws of codes: how large they are; one name more, cut to i names; and states with the same code have the same last i names
-- where they have so many, and are one state otherwise. Assumes nothing.
use mathlib.Core.Path.{◌≡◌, refl, sym, ap, ap₂, ◌∙◌, subst}
use mathlib.Core.Logic.{◌↔◌}
use mathlib.Core.List.{List}
use Prim.Native.Nat.{ℕ, zero, suc, ◌+◌, ◌-◌, ◌*◌, ◌%◌, ◌^◌, ◌<◌, ◌≤◌}
use native.Mathlib.Nat.{mod-eq_of_lt, mod-lt}
use native.Mathlib.Omega.{arith}
use lib.Bits.{bit_and, bit_or, or_shifted, and_mask}
use lib.ListN.{get_or}
use lib.Pow.{pow_pos, pow-add, pow_mono, pow-lt, shl_exact, mod-pow-add, high, low}
use Rattle.base.specs.Limits.{name_limit, setting_limit}
use Rattle.indexed.specs.Trees.{Arrays, SameSuffix}
use Rattle.indexed.proofs.Suffixes.{parent_below}
use Rattle.suffixes.specs.Codes.{code, least}

-- a value is the code of a state
abbrev pub IsCode : ℕ → List ℕ → List ℕ → ℕ → ℕ → Type 0
IsCode i parents names v value = value ≡ code parents names i v

-- the bits of one name more
more-bits : (i : ℕ) → 2 ^ (7 * suc i) ≡ 2 ^ (7 * i) * 128
more-bits i =
    let sum_is : 7 * suc i ≡ 7 * i + 7 = omega arith in
    ap (λ (k : ℕ). 2 ^ k) sum_is ∙ pow-add 2 (7 * i) 7

-- a number with one name at its end, cut to one name more
cut_more : (i c a : ℕ) → a < 128 → (c * 128 + a) % 2 ^ (7 * suc i) ≡ (c % 2 ^ (7 * i)) * 128 + a
cut_more i c a h =
    let sum_is : 7 * suc i ≡ 7 * i + 7 = omega arith in
    ap (λ (k : ℕ). (c * 128 + a) % 2 ^ k) sum_is ∙ mod-pow-add (c * 128 + a) (7 * i) 7
    ∙ ap₂ (λ (x y : ℕ). (x % 2 ^ (7 * i)) * 128 + y) (high c 7 h) (low c 7 h)

-- nothing of a mask is shifted out
shifted : (i : ℕ) → i ≤ setting_limit → (1 * 2 ^ (7 * i)) % 2 ^ 64 ≡ 2 ^ (7 * i)
shifted i h =
    let single : 1 * 2 ^ (7 * i) ≡ 2 ^ (7 * i) = omega arith in
    let few : 7 * i < 64 = omega arith in
    let fits : 2 ^ (7 * i) < 2 ^ 64 = pow-lt few in
    ap (λ (x : ℕ). x % 2 ^ 64) single ∙ mod-eq_of_lt fits

pub least-none : (i : ℕ) → i ≡ 0 → 0 ≡ least i
unfolding least
least-none zero e = refl
least-none (suc i) e = absurd (omega arith)

pub least-some : (i : ℕ) → (i ≡ 0 → ⊥) → i ≤ setting_limit → (1 * 2 ^ (7 * (i - 1))) % 2 ^ 64 ≡ least i
unfolding least
least-some zero some h = absurd (some refl)
least-some (suc i) some h =
    let fewer : suc i - 1 ≡ i = omega arith in
    ap (λ (k : ℕ). (1 * 2 ^ (7 * k)) % 2 ^ 64) fewer ∙ shifted i (omega arith)

-- one name at the end, by bits
pub named : (c name : ℕ) → c < 2 ^ 56 → name < name_limit → bit_or ((c * 128) % 2 ^ 64) (name + 1) ≡ c * 128 + (name + 1)
named c name small Named-by =
    let room : 56 + 7 ≤ 64 = omega arith in
    let whole : (c * 2 ^ 7) % 2 ^ 64 ≡ c * 2 ^ 7 = shl_exact 56 7 64 small room in
    let few : name + 1 < 2 ^ 7 = omega arith in
    ap (λ (x : ℕ). bit_or x (name + 1)) whole ∙ or_shifted c 7 (name + 1) few

-- cut to i names by a mask
pub masked : (x y mask i : ℕ) → x ≡ y → mask ≡ 2 ^ (7 * i) - 1 → bit_and x mask ≡ y % 2 ^ (7 * i)
masked x y mask i is ones = ap₂ bit_and is ones ∙ and_mask y (7 * i)

module _ (n : ℕ) (parents names : List ℕ) (arrays : Arrays n parents names) where
  pub name-small : (v : ℕ) → suc v < n → get_or names (suc v) 0 + 1 < 128
  name-small v h = omega (arith, arrays.name_below (suc v) (omega arith) h)

  pub code-root : (i : ℕ) → code parents names i 0 ≡ 0
  unfolding code
  code-root zero = refl
  code-root (suc i) = refl

  -- fewer names: the lower bits
  code-fewer : (i v : ℕ) → v < n → code parents names (suc i) v % 2 ^ (7 * i) ≡ code parents names i v
  unfolding code
  code-fewer zero v h =
      let small : code parents names 1 v % 2 ^ (7 * 0) < 2 ^ (7 * 0) = mod-lt (code parents names 1 v) (pow_pos (7 * 0)) in
      omega arith
  code-fewer (suc i) zero h = mod-eq_of_lt (pow_pos (7 * suc i))
  code-fewer (suc i) (suc v) h =
      cut_more i (code parents names (suc i) (get_or parents (suc v) 0)) (get_or names (suc v) 0 + 1) (name-small v h)
      ∙ ap (λ (x : ℕ). x * 128 + (get_or names (suc v) 0 + 1))
      (code-fewer i (get_or parents (suc v) 0) (parent_below n parents names arrays (suc v) h))

  -- one name more, cut to i names
  code-more :
      (i v : ℕ) → suc v < n →
      (code parents names i (get_or parents (suc v) 0) * 128 + (get_or names (suc v) 0 + 1)) % 2 ^ (7 * i)
      ≡ code parents names i (suc v)
  unfolding code
  code-more zero v h =
      let c = code parents names 0 (get_or parents (suc v) 0) * 128 + (get_or names (suc v) 0 + 1) in
      let small : c % 2 ^ (7 * 0) < 2 ^ (7 * 0) = mod-lt c (pow_pos (7 * 0)) in
      omega arith
  code-more (suc i) v h =
      cut_more i (code parents names (suc i) (get_or parents (suc v) 0)) (get_or names (suc v) 0 + 1) (name-small v h)
      ∙ ap (λ (x : ℕ). x * 128 + (get_or names (suc v) 0 + 1))
      (code-fewer i (get_or parents (suc v) 0) (parent_below n parents names arrays (suc v) h))

  none-enough : (i : ℕ) → 0 < least (suc i)
  unfolding least
  none-enough i = pow_pos (7 * i)

  -- a code fits into the bits of its names
  pub code-small : (i v : ℕ) → v < n → code parents names i v < 2 ^ (7 * i)
  code-small i zero h = rw (code-root i) (pow_pos (7 * i))
  code-small i (suc v) h =
      subst (λ (x : ℕ). x < 2 ^ (7 * i)) (code-more i v h)
      (mod-lt (code parents names i (get_or parents (suc v) 0) * 128 + (get_or names (suc v) 0 + 1)) (pow_pos (7 * i)))

  -- and into 56 bits, which a shift by one name leaves in a word of 64
  code_fits : (i v x : ℕ) → i ≤ setting_limit → v < n → x ≡ code parents names i v → x < 2 ^ 56
  code_fits i v x few h is =
      let bits : 7 * i ≤ 56 = omega arith in
      let wide : 2 ^ (7 * i) ≤ 2 ^ 56 = pow_mono bits in
      omega (arith, code-small i v h)

  least_more : (i c a : ℕ) → 0 < a → a < 128 → (least i ≤ c) ↔ (least (suc i) ≤ c * 128 + a)
  unfolding least
  least_more zero c a pos h = (λ e. omega arith, λ e. omega arith)
  least_more (suc i) c a pos h = (λ e. omega (arith, more-bits i), λ e. omega (arith, more-bits i))

  -- names enough and the same code: the same last names
  Alike : ℕ → ℕ → ℕ → Type 0
  Alike i v w = (least i ≤ code parents names i v) × (code parents names i v ≡ code parents names i w)

  code-suffix : (i v w : ℕ) → v < n → w < n → Alike i v w → SameSuffix parents names i v w
  unfolding code Alike
  code-suffix zero v w hv hw p = tt
  code-suffix (suc i) zero w hv hw p = absurd (omega (arith, none-enough i, p.0))
  code-suffix (suc i) (suc v) zero hv hw p = absurd (omega (arith, none-enough i, p.0, p.1))
  code-suffix (suc i) (suc v) (suc w) hv hw p =
      let small-v = name-small v hv in
      let small-w = name-small w hw in
      let above : code parents names i (get_or parents (suc v) 0) ≡ code parents names i (get_or parents (suc w) 0) =
      omega (arith, small-v, small-w, p.1) in
      let last : get_or names (suc v) 0 ≡ get_or names (suc w) 0 = omega (arith, small-v, small-w, p.1) in
      let pos : 0 < get_or names (suc v) 0 + 1 = omega arith in
      let enough =
      (least_more i (code parents names i (get_or parents (suc v) 0)) (get_or names (suc v) 0 + 1) pos small-v).1 p.0 in (
        omega arith,
        omega arith,
        last,
        code-suffix i (get_or parents (suc v) 0) (get_or parents (suc w) 0) (parent_below n parents names arrays (suc v) hv)
            (parent_below n parents names arrays (suc w) hw) (enough, above),
      )

  suffix_code : (i v w : ℕ) → v < n → w < n → SameSuffix parents names i v w → Alike i v w
  unfolding code Alike least
  suffix_code zero v w hv hw s = (omega arith, refl)
  suffix_code (suc i) zero w hv hw s = absurd (omega (arith, s.0))
  suffix_code (suc i) (suc v) zero hv hw s = absurd (omega (arith, s.1))
  suffix_code (suc i) (suc v) (suc w) hv hw s =
      let above = suffix_code i (get_or parents (suc v) 0) (get_or parents (suc w) 0)
      (parent_below n parents names arrays (suc v) hv) (parent_below n parents names arrays (suc w) hw) s.3 in
      let pos : 0 < get_or names (suc v) 0 + 1 = omega arith in (
        (least_more i (code parents names i (get_or parents (suc v) 0)) (get_or names (suc v) 0 + 1) pos (name-small v hv)).0
            above.0,
        ap₂ (λ (x y : ℕ). x * 128 + (y + 1)) above.1 s.2,
      )

  pub code_alike :
      (i v w : ℕ) → v < n → w < n →
      ((least i ≤ code parents names i v) × (code parents names i v ≡ code parents names i w)) ↔ SameSuffix parents names i v w
  unfolding Alike
  code_alike i v w hv hw = (code-suffix i v w hv hw, suffix_code i v w hv hw)

  -- one code of fewer than i names: one state
  pub code_one :
      (i v w : ℕ) → v < n → w < n → code parents names i v < least i → code parents names i v ≡ code parents names i w → v ≡ w
  unfolding code
  code_one zero v w hv hw short e = absurd (omega (arith, no_short))
    where
      no_short : least 0 ≡ 0
      no_short = sym (least-none 0 refl)
  code_one (suc i) zero zero hv hw short e = refl
  code_one (suc i) zero (suc w) hv hw short e = absurd (omega arith)
  code_one (suc i) (suc v) zero hv hw short e = absurd (omega arith)
  code_one (suc i) (suc v) (suc w) hv hw short e =
      let small-v = name-small v hv in
      let small-w = name-small w hw in
      let above : code parents names i (get_or parents (suc v) 0) ≡ code parents names i (get_or parents (suc w) 0) =
      omega (arith, small-v, small-w) in
      let last : get_or names (suc v) 0 ≡ get_or names (suc w) 0 = omega (arith, small-v, small-w) in
      let pos : 0 < get_or names (suc v) 0 + 1 = omega arith in
      let enough : least i ≤ code parents names i (get_or parents (suc v) 0) → ⊥ = λ h. omega (
        arith,
        (least_more i (code parents names i (get_or parents (suc v) 0)) (get_or names (suc v) 0 + 1) pos small-v).0 h,
      ) in
      let parent =
      code_one i (get_or parents (suc v) 0) (get_or parents (suc w) 0) (parent_below n parents names arrays (suc v) hv)
      (parent_below n parents names arrays (suc w) hw) (omega (arith, enough)) above in
      arrays.one_child (suc v) (suc w) (omega arith) (omega arith) hv hw parent last

  -- one state more, where those before it are coded: the code of the one before it leaves room for one name, and gives its own
  module _ (i v : ℕ) (values : List ℕ) (some : 0 < v) (inside : v < n)
      (done : (w : ℕ) → w < v → IsCode i parents names w (get_or values w 0)) where
    before : IsCode i parents names (get_or parents v 0) (get_or values (get_or parents v 0) 0)
    before = done (get_or parents v 0) (arrays.parent_before v some inside)

    pub turn_room : i ≤ setting_limit → get_or values (get_or parents v 0) 0 < 2 ^ 56
    turn_room few =
        code_fits i (get_or parents v 0) (get_or values (get_or parents v 0) 0) few
        (omega (arith, arrays.parent_before v some inside)) before

    pub turn_cut :
        (x : ℕ) → x ≡ (get_or values (get_or parents v 0) 0 * 128 + (get_or names v 0 + 1)) % 2 ^ (7 * i) →
        IsCode i parents names v x
    turn_cut x is = is ∙ ap (λ (y : ℕ). (y * 128 + (get_or names v 0 + 1)) % 2 ^ (7 * i)) before ∙ more v some inside
      where
        more :
            (w : ℕ) → 0 < w → w < n →
            (code parents names i (get_or parents w 0) * 128 + (get_or names w 0 + 1)) % 2 ^ (7 * i) ≡ code parents names i w
        more zero some inside = absurd (omega arith)
        more (suc w) some inside = code-more i w inside
