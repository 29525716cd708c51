-- Decimal numbers: one digit, or all but the last and the last; how many digits there are; and the loop that writes them from the last
-- to the first. Assumes nothing.
use mathlib.Core.Path.{◌≡◌, refl, sym, ap, ◌∙◌, subst}
use mathlib.Core.Bool.{Bool, true, false}
use mathlib.Core.List.{List, [], ◌∷◌, ◌++◌, append-nil, append_assoc}
use Prim.Native.Nat.{ℕ, zero, suc, ◌+◌, ◌-◌, ◌/◌, ◌%◌, ◌^◌, ◌≤◌, ◌<◌}
use native.Mathlib.Nat.{pow-suc}
use native.Mathlib.Omega.{arith}
use lib.Dec.{ltb}
use lib.ListN.{length, set, length-append}
use borrow.Author.Tests.{lt-ltb, le-ltb, ltb-true, ltb-false}
use Rattle.model.specs.Listing.{digits, decimal}
use Rattle.writing.specs.Writing.{Written}
use Rattle.writing.proofs.WritingLaws.{none_written, byte_before}

one_digit : (f n : ℕ) → n < 10 → digits f n ≡ (48 + n) ∷ []
unfolding digits
one_digit zero n h = let e : n % 10 ≡ n = omega arith in rw e
one_digit (suc f) n h = rw (lt-ltb n 10 h, digits)

more-digits : (f n : ℕ) → 10 ≤ n → digits (suc f) n ≡ digits f (n / 10) ++ ((48 + n % 10) ∷ [])
unfolding digits
more-digits f n h = rw (le-ltb n 10 h, digits)

one_digit_length : (f n : ℕ) → n < 10 → length (digits f n) ≡ 1
one_digit_length f n h = ap length (one_digit f n h)

more-digits_length : (f n : ℕ) → 10 ≤ n → length (digits (suc f) n) ≡ 1 + length (digits f (n / 10))
more-digits_length f n h =
    omega (arith, ap length (more-digits f n h), length-append (digits f (n / 10)) ((48 + n % 10) ∷ []))

-- at least one digit, and at most one more than the first argument of `digits`
pub digits-length : (f n : ℕ) → (1 ≤ length (digits f n)) × (length (digits f n) ≤ suc f)
unfolding digits
digits-length zero n = omega arith
digits-length (suc f) n = go (ltb n 10) refl (digits-length f (n / 10))
  where
    go :
        (b : Bool) → ltb n 10 ≡ b → (1 ≤ length (digits f (n / 10))) × (length (digits f (n / 10)) ≤ suc f) →
        (1 ≤ length (digits (suc f) n)) × (length (digits (suc f) n) ≤ suc (suc f))
    go true e again = let one = one_digit_length (suc f) n (ltb-true n 10 e) in (omega arith, omega arith)
    go false e again = let more = more-digits_length f n (ltb-false n 10 e) in (omega arith, omega arith)

-- a number in a listing has at most five digits
pub decimal-length : (n : ℕ) → (1 ≤ length (decimal n)) × (length (decimal n) ≤ 5)
decimal-length n = digits-length 4 n

-- how many, by the number's size
pub decimal-length_1 : (n : ℕ) → n < 10 → length (decimal n) ≡ 1
decimal-length_1 n h = one_digit_length 4 n h

pub decimal-length_2 : (n : ℕ) → 10 ≤ n → n < 100 → length (decimal n) ≡ 2
decimal-length_2 n l h = omega (arith, more-digits_length 3 n l, one_digit_length 3 (n / 10) (omega arith))

pub decimal-length_3 : (n : ℕ) → 100 ≤ n → n < 1000 → length (decimal n) ≡ 3
decimal-length_3 n l h =
    omega (
      arith,
      more-digits_length 3 n (omega arith),
      more-digits_length 2 (n / 10) (omega arith),
      one_digit_length 2 (n / 10 / 10) (omega arith),
    )

pub decimal-length_4 : (n : ℕ) → 1000 ≤ n → n < 10000 → length (decimal n) ≡ 4
decimal-length_4 n l h =
    omega (
      arith,
      more-digits_length 3 n (omega arith),
      more-digits_length 2 (n / 10) (omega arith),
      more-digits_length 1 (n / 10 / 10) (omega arith),
      one_digit_length 1 (n / 10 / 10 / 10) (omega arith),
    )

pub decimal-length_5 : (n : ℕ) → 10000 ≤ n → n < 100000 → length (decimal n) ≡ 5
decimal-length_5 n l h =
    omega (
      arith,
      more-digits_length 3 n (omega arith),
      more-digits_length 2 (n / 10) (omega arith),
      more-digits_length 1 (n / 10 / 10) (omega arith),
      more-digits_length 0 (n / 10 / 10 / 10) (omega arith),
      one_digit_length 0 (n / 10 / 10 / 10 / 10) (omega arith),
    )

-- ---- the loop that writes a number's digits, the last first

-- the last so many digits of a number, which may begin with zeros
unfoldable pub last_digits : ℕ → ℕ → List ℕ
last_digits zero n = []
last_digits (suc k) n = last_digits k (n / 10) ++ ((48 + n % 10) ∷ [])

-- as many as it has are all
one_is_all : (f n : ℕ) → n < 10 → digits f n ≡ last_digits (length (digits f n)) n
unfolding last_digits
one_is_all f n h = let one : 48 + n ≡ 48 + n % 10 = omega arith in rw (one_digit f n h, one) refl

all_digits : (f n : ℕ) → n < 10 ^ suc f → digits f n ≡ last_digits (length (digits f n)) n
unfolding last_digits
all_digits zero n h = one_is_all zero n (omega arith)
all_digits (suc f) n h = go (ltb n 10) refl (λ l. all_digits f (n / 10) l)
  where
    go :
        (b : Bool) → ltb n 10 ≡ b →
        (n / 10 < 10 ^ suc f → digits f (n / 10) ≡ last_digits (length (digits f (n / 10))) (n / 10)) →
        digits (suc f) n ≡ last_digits (length (digits (suc f) n)) n
    go true e again = one_is_all (suc f) n (ltb-true n 10 e)
    go false e again =
        let large = ltb-false n 10 e in
        let size : length (digits (suc f) n) ≡ suc (length (digits f (n / 10))) = omega (arith, more-digits_length f n large) in
        rw (size, more-digits f n large)
        (ap (λ (l : List ℕ). l ++ ((48 + n % 10) ∷ [])) (again (omega (arith, pow-suc 10 (suc f)))))

-- the last digits of `left` are still to be written from `at` up to i; those after them stand from i on
pub record DigitsLeft (out₀ : List ℕ) (at value : ℕ) (out : List ℕ) (i left : ℕ) : Type 0 where
  pub ahead : ℕ
  pub later : List ℕ
  pub whole : decimal value ≡ last_digits ahead left ++ later
  pub reached : i ≡ at + ahead
  pub written : Written out₀ out i later

-- at the start all are to be written
pub digits-start :
    (out : List ℕ) (at value end : ℕ) → value < 65536 → end ≡ at + length (decimal value) →
    DigitsLeft out at value out end value
digits-start out at value end h e =
    record {
      ahead = length (decimal value);
      later = [];
      whole = all_digits 4 value (omega arith) ∙ sym (append-nil _);
      reached = e;
      written = none_written out end;
    }

-- a byte in front of i
byte_back :
    {out₀ out : List ℕ} {i : ℕ} {later : List ℕ} (b : ℕ) → Written out₀ out i later → 0 < i → i ≤ length out₀ →
    Written out₀ (set out (i - 1) b) (i - 1) (b ∷ later)
byte_back {out₀} {out} {i} {later} b w h fits =
    let back : i ≡ suc (i - 1) = omega arith in
    byte_before b (subst (λ (n : ℕ). Written out₀ out n later) back w) (omega arith)

-- a turn
pub digits-turn :
    {out₀ : List ℕ} {at value : ℕ} {out : List ℕ} {i left : ℕ} → DigitsLeft out₀ at value out i left → at < i →
    i ≤ length out₀ → DigitsLeft out₀ at value (set out (i - 1) (48 + left % 10)) (i - 1) (left / 10)
unfolding last_digits
digits-turn {out₀} {at} {value} {out} {i} {left} d more fits = go d.ahead d.whole d.reached
  where
    go :
        (k : ℕ) → decimal value ≡ last_digits k left ++ d.later → i ≡ at + k →
        DigitsLeft out₀ at value (set out (i - 1) (48 + left % 10)) (i - 1) (left / 10)
    go zero whole reached = absurd (omega arith)
    go (suc k) whole reached =
        record {
          ahead = k;
          later = (48 + left % 10) ∷ d.later;
          whole = whole ∙ append_assoc (last_digits k (left / 10)) ((48 + left % 10) ∷ []) d.later;
          reached = omega arith;
          written = byte_back (48 + left % 10) d.written (omega arith) fits;
        }

-- none left
pub digits-written :
    {out₀ : List ℕ} {at value : ℕ} {out : List ℕ} {i left : ℕ} → DigitsLeft out₀ at value out i left → i ≤ at →
    Written out₀ out at (decimal value)
unfolding last_digits
digits-written {out₀} {at} {value} {out} {i} {left} d done = go d.ahead d.whole d.reached
  where
    go : (k : ℕ) → decimal value ≡ last_digits k left ++ d.later → i ≡ at + k → Written out₀ out at (decimal value)
    go zero whole reached =
        let here : i ≡ at = omega arith in
        rw whole (subst (λ (n : ℕ). Written out₀ out n d.later) here d.written)
    go (suc k) whole reached = absurd (omega arith)
