-- Which two names in succession can be walked from each group, as sets of 16 bits: the names of a set by their low two bits, one arc
-- more, that sets of one bit have it in common, and why one name in common is in both sets of names and two in succession are a
-- bit in common. Assumes nothing.
use mathlib.Core.Path.{◌≡◌, refl, sym, ap, ◌∙◌, subst, subst₂}
use mathlib.Core.Logic.{◌⊎◌, inl, inr}
use mathlib.Core.List.{List}
use Prim.Native.Nat.{ℕ, zero, suc, ◌+◌, ◌-◌, ◌*◌, ◌/◌, ◌%◌, ◌^◌, ◌<◌, ◌≤◌}
use native.Mathlib.Omega.{arith}
use lib.Bits.{bit_and, bit_or, and_le_r, and_mask}
use lib.ListN.{length, get_or, set, replicate}
use lib.Seq.{get_or-set_same}
use Rattle.base.specs.Limits.{state_limit}
use Rattle.base.proofs.Tests.{decided, tells_ltb}
use Rattle.indexed.specs.Trees.{Arrays}
use Rattle.indexed.specs.Partitions.{Labelled, Share}
use Rattle.base.specs.Bits.{bit}
use Rattle.base.proofs.Bits.{bit-zero, bit-power_same, bit-of_both, bit-of_either, bit_below, bit_shifted, bit-fallen}
use Rattle.contexts.specs.Sweeps.{Linked, AllLeave}
use Rattle.contexts.specs.Ahead.{low_of, LowNames, pair_bit, LeadsOn, LeadOnBelow, Telling}
use Rattle.contexts.proofs.ClimbLaws.{below_suc}
use Rattle.contexts.proofs.LinkLaws.{bits_grow}

-- ---- the names of a set by their low two bits

-- one of h bits, each fourth from bit r on
abbrev OneOf : ℕ → ℕ → ℕ → Type 0
OneOf h r x = (q : ℕ) × (q < h) × (bit (4 * q + r) x ≡ 1)

-- the bits from s on laid over the others
abbrev folded : ℕ → ℕ → ℕ
folded s x = bit_or x (x / 2 ^ s)

fold_half : (h r x : ℕ) → OneOf (h + h) r x → OneOf h r (folded (4 * h) x)
fold_half h r x some = go some.0 some.1 some.2 (decided (tells_ltb some.0 h))
  where
    go : (q : ℕ) → q < h + h → bit (4 * q + r) x ≡ 1 → (q < h) ⊎ (q < h → ⊥) → OneOf h r (folded (4 * h) x)
    go q low one (inl below) = (q, below, bit-of_either (4 * q + r) x (x / 2 ^ (4 * h)) (inl one))
    go q low one (inr above) =
        let place : 4 * q + r ≡ 4 * h + (4 * (q - h) + r) = omega arith in (
          q - h,
          omega arith,
          bit-of_either (4 * (q - h) + r) x (x / 2 ^ (4 * h))
              (inr (bit-fallen (4 * h) (4 * (q - h) + r) x ∙ subst (λ (i : ℕ). bit i x ≡ 1) place one)),
        )

only_one : (r x : ℕ) → OneOf 1 r x → bit r x ≡ 1
only_one r x some =
    let place : 4 * some.0 + r ≡ r = omega (arith, some.1) in
    subst (λ (i : ℕ). bit i x ≡ 1) place some.2

abbrev pub folded_all : ℕ → ℕ
folded_all names = folded 4 (folded 8 (folded 16 (folded 32 names)))

pub low_names : (names : ℕ) → LowNames names (bit_and (folded_all names) 15)
low_names names a low one =
    let whole : a ≡ 4 * (a / 4) + a % 4 = omega arith in
    let first : OneOf 16 (a % 4) names = (a / 4, omega arith, subst (λ (i : ℕ). bit i names ≡ 1) whole one) in
    let last : OneOf 1 (a % 4) (folded_all names) =
    fold_half 1 (a % 4) (folded 8 (folded 16 (folded 32 names)))
    (fold_half 2 (a % 4) (folded 16 (folded 32 names))
    (fold_half 4 (a % 4) (folded 32 names) (fold_half 8 (a % 4) names first))) in
    subst₂ (λ (i l : ℕ). bit i l ≡ 1) (sym (and_mask a 2)) (sym (and_mask (folded_all names) 4))
    (bit_below 4 (a % 4) (folded_all names) (omega arith) ∙ only_one (a % 4) (folded_all names) last)

-- ---- one arc more

module _ (i : ℕ) (parents names old next ahead : List ℕ) (from into on : ℕ) (from_is : from ≡ get_or old (get_or parents i 0) 0)
    (into-is : into ≡ get_or old i 0) (on-is : LowNames (get_or next into 0) on) (in-ahead : from < length ahead) where
  abbrev shift : ℕ
  shift = 4 * low_of (get_or names i 0)

  abbrev moved : ℕ
  moved = (on * 2 ^ shift) % 2 ^ 16

  abbrev ahead' : List ℕ
  ahead' = set ahead from (bit_or (get_or ahead from 0) moved)

  this-leads : LeadsOn parents names old next ahead' i
  this-leads b low one =
      let place = pair_bit (get_or names i 0) b in
      let room : shift + low_of b < 16 = omega (arith, and_le_r (get_or names i 0) 3, and_le_r b 3) in
      let was : bit b (get_or next into 0) ≡ 1 = subst (λ (g : ℕ). bit b (get_or next g 0) ≡ 1) (sym into-is) one in
      subst (λ (g : ℕ). bit place (get_or ahead' g 0) ≡ 1) from_is
      (ap (bit place) (get_or-set_same ahead from (bit_or (get_or ahead from 0) moved) 0 in-ahead)
      ∙ bit-of_either place (get_or ahead from 0) moved (inr (bit_shifted 16 shift (low_of b) on room (on-is b low was))))

  pub lead_more : LeadOnBelow i parents names old next ahead → LeadOnBelow (suc i) parents names old next ahead'
  lead_more so_far v pos low =
      below_suc (λ (u : ℕ). (0 < u) → LeadsOn parents names old next ahead' u) i
      (λ u before some b b-low one.
      bits_grow ahead from moved in-ahead (get_or old (get_or parents u 0) 0) (pair_bit (get_or names u 0) b)
      (so_far u some before b b-low one))
      (λ some. this-leads) v low pos

-- ---- what the sets tell

bits_meet : (i x y : ℕ) → bit i x ≡ 1 → bit i y ≡ 1 → bit_and x y ≡ 0 → ⊥
bits_meet i x y in-x in-y apart =
    let both : bit i (bit_and x y) ≡ 1 = (bit-of_both i x y).1 (in-x, in-y) in
    let none : bit i 0 ≡ 1 = subst (λ (z : ℕ). bit i z ≡ 1) apart both in
    omega (arith, bit-zero i)

-- the sets at first
pub all_ones : (n x : ℕ) → x < n → ◌≡◌ {A = ℕ} (get_or (replicate n 1) x 0) 1
all_ones zero x low = let z : ⊥ = omega arith in absurd z
all_ones (suc n) zero low = refl
all_ones (suc n) (suc x) low = all_ones n x (omega arith)

pub ones_tell :
    (n j : ℕ) (parents names old ahead : List ℕ) → Labelled n old → n ≤ state_limit →
    ((x : ℕ) → x < state_limit → get_or ahead x 0 ≡ 1) → Telling n j parents names old ahead
ones_tell n j parents names old ahead labelled few ones v w v_low w-low shared =
    bits_meet 0 (get_or ahead (get_or old v 0) 0) (get_or ahead (get_or old w 0) 0) (first v v_low) (first w w-low)
  where
    first : (u : ℕ) → u < n → bit 0 (get_or ahead (get_or old u 0) 0) ≡ 1
    first u low = ap (bit 0) (ones (get_or old u 0) (omega (arith, labelled.low u low))) ∙ bit-power_same 0

-- groups out of which a name leads in common have it in both sets
pub next_common :
    (n j : ℕ) (parents names old next : List ℕ) → AllLeave n parents names old next → (v w : ℕ) →
    Share n parents names old (suc j) v w → bit_and (get_or next (get_or old v 0) 0) (get_or next (get_or old w 0) 0) ≡ 0 → ⊥
next_common n j parents names old next leave v w s =
    bits_meet (get_or names s.0 0) (get_or next (get_or old v 0) 0) (get_or next (get_or old w 0) 0)
    (subst (λ (g : ℕ). bit (get_or names s.0 0) (get_or next g 0) ≡ 1) s.7 (leave s.0 s.2 s.4))
    (subst₂ (λ (a g : ℕ). bit a (get_or next g 0) ≡ 1) (sym s.6) s.8 (leave s.1 s.3 s.5))

module _ {n : ℕ} {parents names old next : List ℕ} (ahead : List ℕ) (arrays : Arrays n parents names)
    (linked : Linked n parents names old next) (leads : LeadOnBelow n parents names old next ahead) where
  -- two names in succession are a bit
  two-ahead :
      (u x y : ℕ) → 0 < x → x < n → 0 < y → y < n → get_or old (get_or parents x 0) 0 ≡ get_or old u 0 →
      get_or old (get_or parents y 0) 0 ≡ get_or old x 0 →
      bit (pair_bit (get_or names x 0) (get_or names y 0)) (get_or ahead (get_or old u 0) 0) ≡ 1
  two-ahead u x y x_pos x-low y-pos y-low out on =
      subst (λ (g : ℕ). bit (pair_bit (get_or names x 0) (get_or names y 0)) (get_or ahead g 0) ≡ 1) out
      (leads x x_pos x-low (get_or names y 0) (arrays.name_below y y-pos y-low)
      (subst (λ (g : ℕ). bit (get_or names y 0) (get_or next g 0) ≡ 1) on (linked.leaves y y-pos y-low)))

  pub two_names_tell : (j : ℕ) → 1 < j → Telling n j parents names old ahead
  two_names_tell zero some v w v_low w-low s = let z : ⊥ = omega arith in absurd z
  two_names_tell (suc zero) some v w v_low w-low s = let z : ⊥ = omega arith in absurd z
  two_names_tell (suc (suc j)) some v w v_low w-low s =
      let on = s.9 in
      bits_meet (pair_bit (get_or names s.0 0) (get_or names on.0 0)) (get_or ahead (get_or old v 0) 0)
      (get_or ahead (get_or old w 0) 0)
      (two-ahead v s.0 on.0 s.2 s.4 on.2 on.4 s.7 on.7)
      (subst₂ (λ (a b : ℕ). bit (pair_bit a b) (get_or ahead (get_or old w 0) 0) ≡ 1) (sym s.6) (sym on.6)
      (two-ahead w s.1 on.1 s.3 s.5 on.3 on.5 s.8 on.8))
