-- The bits of a number: of a number with one bit set besides, that numbers with the same bits are equal, the bits that two numbers
-- have in common, and the bits of a shifted number. Assumes nothing.
use mathlib.Core.Path.{◌≡◌, refl, sym, ap, ◌∙◌, subst}
use mathlib.Core.Logic.{◌⊎◌, inl, inr, ⊎_elim, ◌↔◌}
use Prim.Native.Nat.{ℕ, zero, suc, ◌+◌, ◌*◌, ◌/◌, ◌%◌, ◌^◌, ◌<◌, ◌≤◌, max, min}
use native.Mathlib.Nat.{zero-add, suc-add, mul-one, div-one, pow-suc}
use native.Mathlib.Numerals.{add-one, one-add}
use native.Mathlib.Omega.{arith}
use lib.Count.{count_trailing_zeros, under}
use lib.Bits.{bit_and, bit_or, and_step, or_step, shifted_half}
use lib.Pow.{field, mod-mod-pow, shr-shr}
use Rattle.base.specs.Bits.{bit}
use Rattle.base.proofs.Tests.{eq_dec}

pub bit-small : (a n : ℕ) → bit a n < 2
unfolding bit
bit-small zero n = omega arith
bit-small (suc a) n = bit-small a (n / 2)

pub bit-zero : (a : ℕ) → bit a 0 ≡ 0
unfolding bit
bit-zero zero = refl
bit-zero (suc a) = bit-zero a

joined_half : (z c : ℕ) → c < 2 → (z * 2 + c) / 2 ≡ z
joined_half z c h = omega arith

joined_odd : (z c : ℕ) → c < 2 → (z * 2 + c) % 2 ≡ c
joined_odd z c h = omega arith

higher_small : (x y : ℕ) → max (x % 2) (y % 2) < 2
higher_small x y = omega arith

bit-or : (a x y : ℕ) → bit a (bit_or x y) ≡ max (bit a x) (bit a y)
unfolding bit
bit-or zero x y =
    ap (λ (z : ℕ). z % 2) (or_step x y)
    ∙ joined_odd (bit_or (x / 2) (y / 2)) (max (x % 2) (y % 2)) (higher_small x y)
bit-or (suc a) x y =
    let half : bit_or x y / 2 ≡ bit_or (x / 2) (y / 2) =
    ap (λ (z : ℕ). z / 2) (or_step x y)
    ∙ joined_half (bit_or (x / 2) (y / 2)) (max (x % 2) (y % 2)) (higher_small x y) in
    ap (bit a) half ∙ bit-or a (x / 2) (y / 2)

power_half : (b : ℕ) → 2 ^ suc b / 2 ≡ 2 ^ b
power_half b =
    let double : 2 ^ suc b ≡ 2 ^ b * 2 = pow-suc 2 b in
    omega arith

power_odd : (b : ℕ) → 2 ^ suc b % 2 ≡ 0
power_odd b =
    let double : 2 ^ suc b ≡ 2 ^ b * 2 = pow-suc 2 b in
    omega arith

pub bit-power_same : (a : ℕ) → bit a (2 ^ a) ≡ 1
unfolding bit
bit-power_same zero = refl
bit-power_same (suc a) = ap (bit a) (power_half a) ∙ bit-power_same a

bit-power_other : (a b : ℕ) → (a ≡ b → ⊥) → bit a (2 ^ b) ≡ 0
unfolding bit
bit-power_other zero zero d = absurd (d refl)
bit-power_other zero (suc b) d = power_odd b
bit-power_other (suc a) zero d = bit-zero a
bit-power_other (suc a) (suc b) d = ap (bit a) (power_half b) ∙ bit-power_other a b (λ e. d (ap suc e))

-- a bit of one of two numbers
pub bit-of_either : (a x y : ℕ) → (bit a x ≡ 1) ⊎ (bit a y ≡ 1) → bit a (bit_or x y) ≡ 1
bit-of_either a x y which =
    let both : bit a (bit_or x y) ≡ max (bit a x) (bit a y) = bit-or a x y in
    let small-x : bit a x < 2 = bit-small a x in
    let small-y : bit a y < 2 = bit-small a y in
    ⊎_elim (λ one. omega arith) (λ one. omega arith) which

-- with bit b set besides: that bit, and otherwise as before
pub bit-set : (a x b : ℕ) → a ≡ b → bit a (bit_or x (2 ^ b)) ≡ 1
bit-set a x b e =
    let both : bit a (bit_or x (2 ^ b)) ≡ max (bit a x) (bit a (2 ^ b)) = bit-or a x (2 ^ b) in
    let one : bit a (2 ^ b) ≡ 1 = subst (λ (c : ℕ). bit a (2 ^ c) ≡ 1) e (bit-power_same a) in
    let small : bit a x < 2 = bit-small a x in
    omega arith

pub bit_kept : (a x b : ℕ) → (a ≡ b → ⊥) → bit a (bit_or x (2 ^ b)) ≡ bit a x
bit_kept a x b d =
    let both : bit a (bit_or x (2 ^ b)) ≡ max (bit a x) (bit a (2 ^ b)) = bit-or a x (2 ^ b) in
    let none : bit a (2 ^ b) ≡ 0 = bit-power_other a b d in
    omega arith

pub bit-of_set : (a x b : ℕ) → (bit a (bit_or x (2 ^ b)) ≡ 1) ↔ ((bit a x ≡ 1) ⊎ (a ≡ b))
bit-of_set a x b = go (eq_dec a b)
  where
    go : (a ≡ b) ⊎ (a ≡ b → ⊥) → (bit a (bit_or x (2 ^ b)) ≡ 1) ↔ ((bit a x ≡ 1) ⊎ (a ≡ b))
    go (inl e) = (λ h. inr e, λ h. bit-set a x b e)
    go (inr d) =
        (λ h. inl (sym (bit_kept a x b d) ∙ h), λ h. ⊎_elim (λ one. bit_kept a x b d ∙ one) (λ e. absurd (d e)) h)

-- the same bits are the same number
ext_below : (k n m : ℕ) → n ≤ k → m ≤ k → ((a : ℕ) → bit a n ≡ bit a m) → n ≡ m
unfolding bit
ext_below zero n m hn hm agree = omega arith
ext_below (suc k) n m hn hm agree =
    let halves : n / 2 ≡ m / 2 = ext_below k (n / 2) (m / 2) (omega arith) (omega arith) (λ a. agree (suc a)) in
    let odd : n % 2 ≡ m % 2 = agree 0 in
    omega arith

pub bit-ext : (n m : ℕ) → ((a : ℕ) → bit a n ≡ bit a m) → n ≡ m
bit-ext n m agree = ext_below (n + m) n m (omega arith) (omega arith) agree

-- bits are told by where they are 1
pub bits_told : (n m : ℕ) → ((a : ℕ) → (bit a n ≡ 1) ↔ (bit a m ≡ 1)) → n ≡ m
bits_told n m agree = bit-ext n m (λ a. go (bit a n) (bit a m) (bit-small a n) (bit-small a m) (agree a))
  where
    go : (x y : ℕ) → x < 2 → y < 2 → (x ≡ 1) ↔ (y ≡ 1) → x ≡ y
    go zero zero hx hy e = refl
    go zero (suc y) hx hy e =
        let one : suc y ≡ 1 = omega arith in
        e.1 one ∙ sym one
    go (suc x) zero hx hy e =
        let one : suc x ≡ 1 = omega arith in
        one ∙ sym (e.0 one)
    go (suc x) (suc y) hx hy e = omega arith

-- a bit that is set already
pub set-again : (x b : ℕ) → bit b x ≡ 1 → bit_or x (2 ^ b) ≡ x
set-again x b one = bits_told (bit_or x (2 ^ b)) x (λ a. (λ h. there a ((bit-of_set a x b).0 h), λ h. (bit-of_set a x b).1 (inl h)))
  where
    there : (a : ℕ) → (bit a x ≡ 1) ⊎ (a ≡ b) → bit a x ≡ 1
    there a (inl h) = h
    there a (inr e) = subst (λ (c : ℕ). bit c x ≡ 1) (sym e) one

-- one that is set in neither can be taken away again
pub set-cancel : (x y b : ℕ) → (bit b x ≡ 1 → ⊥) → (bit b y ≡ 1 → ⊥) → bit_or x (2 ^ b) ≡ bit_or y (2 ^ b) → x ≡ y
set-cancel x y b off-x off-y e =
    bits_told x y (λ a. (λ h. over x y off-x e a h, λ h. over y x off-y (sym e) a h))
  where
    over : (z w : ℕ) → (bit b z ≡ 1 → ⊥) → bit_or z (2 ^ b) ≡ bit_or w (2 ^ b) → (a : ℕ) → bit a z ≡ 1 → bit a w ≡ 1
    over z w off same a h =
        let other : a ≡ b → ⊥ = λ q. off (subst (λ (c : ℕ). bit c z ≡ 1) q h) in
        let set-in-w : bit a (bit_or w (2 ^ b)) ≡ 1 = ap (bit a) (sym same) ∙ (bit-of_set a z b).1 (inl h) in
        ⊎_elim (λ p. p) (λ q. absurd (other q)) ((bit-of_set a w b).0 set-in-w)

-- the bits that two numbers have in common
lower_small : (x y : ℕ) → min (x % 2) (y % 2) < 2
lower_small x y = omega arith

and_half : (x y : ℕ) → bit_and x y / 2 ≡ bit_and (x / 2) (y / 2)
and_half x y =
    ap (λ (z : ℕ). z / 2) (and_step x y)
    ∙ joined_half (bit_and (x / 2) (y / 2)) (min (x % 2) (y % 2)) (lower_small x y)

bit-and : (a x y : ℕ) → bit a (bit_and x y) ≡ min (bit a x) (bit a y)
unfolding bit
bit-and zero x y =
    ap (λ (z : ℕ). z % 2) (and_step x y)
    ∙ joined_odd (bit_and (x / 2) (y / 2)) (min (x % 2) (y % 2)) (lower_small x y)
bit-and (suc a) x y = ap (bit a) (and_half x y) ∙ bit-and a (x / 2) (y / 2)

pub bit-of_both : (a x y : ℕ) → (bit a (bit_and x y) ≡ 1) ↔ ((bit a x ≡ 1) × (bit a y ≡ 1))
bit-of_both a x y =
    let both : bit a (bit_and x y) ≡ min (bit a x) (bit a y) = bit-and a x y in
    let small-x : bit a x < 2 = bit-small a x in
    let small-y : bit a y < 2 = bit-small a y in
    (λ h. (omega arith, omega arith), λ h. omega (arith, h.0, h.1))

-- a shift moves each bit up, and cutting off at k bits leaves those below
bit_moved : (s a x : ℕ) → bit (s + a) (x * 2 ^ s) ≡ bit a x
unfolding bit
bit_moved zero a x = ap (λ (d : ℕ). bit d (x * 1)) (zero-add a) ∙ ap (bit a) (mul-one x)
bit_moved (suc s) a x =
    ap (λ (d : ℕ). bit d (x * 2 ^ suc s)) (suc-add s a) ∙ ap (bit (s + a)) (shifted_half x s) ∙ bit_moved s a x

pub bit_below : (k a x : ℕ) → a < k → bit a (x % 2 ^ k) ≡ bit a x
unfolding bit
bit_below zero a x low = let z : ⊥ = omega arith in absurd z
bit_below (suc k) zero x low = subst (λ (d : ℕ). x % 2 ^ d % 2 ≡ x % 2) (add-one k) (mod-mod-pow x k 1)
bit_below (suc k) (suc a) x low =
    let half : x % 2 ^ suc k / 2 ≡ x / 2 % 2 ^ k =
    subst (λ (d : ℕ). x % 2 ^ d / 2 ≡ x / 2 % 2 ^ k) (add-one k) (field x k 1) in
    ap (bit a) half ∙ bit_below k a (x / 2) (omega arith)

pub bit_shifted : (k s a x : ℕ) → s + a < k → bit a x ≡ 1 → bit (s + a) ((x * 2 ^ s) % 2 ^ k) ≡ 1
bit_shifted k s a x low one = bit_below k (s + a) (x * 2 ^ s) low ∙ bit_moved s a x ∙ one

-- a shift down moves each bit down
pub bit-fallen : (s a x : ℕ) → bit a (x / 2 ^ s) ≡ bit (s + a) x
unfolding bit
bit-fallen zero a x = ap (bit a) (div-one x) ∙ ap (λ (d : ℕ). bit d x) (sym (zero-add a))
bit-fallen (suc s) a x =
    let halves : x / 2 ^ suc s ≡ x / 2 / 2 ^ s =
    ap (λ (d : ℕ). x / 2 ^ d) (sym (one-add s)) ∙ sym (shr-shr x 1 s) in
    ap (bit a) halves ∙ bit-fallen s a (x / 2) ∙ ap (λ (d : ℕ). bit d x) (sym (suc-add s a))

-- the lowest bit of a number is in it
pub lowest-in : (k n : ℕ) → 0 < n → 2 ^ count_trailing_zeros k n ≤ n
unfolding count_trailing_zeros
lowest-in zero n some = omega arith
lowest-in (suc k) n some = go (n % 2) refl (lowest-in k (n / 2))
  where
    go :
        (d : ℕ) → n % 2 ≡ d → (0 < n / 2 → 2 ^ count_trailing_zeros k (n / 2) ≤ n / 2) →
        2 ^ under d (count_trailing_zeros k (n / 2)) ≤ n
    go zero e half = omega (arith, half (omega arith), pow-suc 2 (count_trailing_zeros k (n / 2)))
    go (suc d) e half = omega arith
