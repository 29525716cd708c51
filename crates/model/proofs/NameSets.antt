-- Sets of names in 64 bits: the set of ascending arcs has as many bits as there are arcs, its lowest bit is the first arc's name,
-- without that bit it is the set of the others, and a name has its bit in it exactly if an arc has that name. Assumes nothing.
use mathlib.Core.Path.{◌≡◌, refl, sym, ap, ◌∙◌}
use mathlib.Core.Logic.{inl, inr, ⊎_elim, ◌↔◌}
use mathlib.Core.List.Memᴰ.{head as here}
use mathlib.Core.List.Memᴰ.{tail as there}
use mathlib.Core.List.{List, [], ◌∷◌, Memᴰ as In}
use mathlib.Core.List.Memᴰ
use Prim.Native.Nat.{ℕ, zero, suc, ◌+◌, ◌*◌, ◌-◌, ◌/◌, ◌%◌, ◌^◌, ◌≤◌, ◌<◌}
use native.Mathlib.Nat.{add-zero, zero-mul, mul-one, one-mul, pow-suc, mul_assoc, add_comm}
use native.Mathlib.Omega.{arith}
use lib.Bits.{bit_or, or_shifted, shifted_even, shifted_half}
use lib.Count.{ones, ones_cat, count_trailing_zeros, under}
use lib.ListN.{length}
use lib.Pow.{pow_pos, pow-lt, pow-add}
use Rattle.base.specs.Bits.{bit}
use Rattle.base.proofs.Bits.{bit-zero, bit-of_set}
use Rattle.model.specs.Tables.{Arc, arc, name_set, Ascending}

-- a number is q times 2 ^ k
pub record Multiple (k n : ℕ) : Type 0 where
  pub times : ℕ
  pub is : n ≡ times * 2 ^ k

-- a multiple of a higher power is one of a lower
multiple_lower : (j k n : ℕ) → j ≤ k → Multiple k n → Multiple j n
multiple_lower j k n h m =
    let split : k ≡ (k - j) + j = omega arith in
    record {
      times = m.times * 2 ^ (k - j);
      is = m.is ∙ ap (λ (e : ℕ). m.times * 2 ^ e) split ∙ ap (λ (p : ℕ). m.times * p) (pow-add 2 (k - j) j)
          ∙ sym (mul_assoc m.times (2 ^ (k - j)) (2 ^ j));
    }

-- twice a multiple of 2 ^ k and 2 ^ k more
one_more : (q k : ℕ) → 2 ^ k + q * 2 ^ suc k ≡ (2 * q + 1) * 2 ^ k
one_more q k = rw pow-suc (ring (2 ^ k))
  where
    ring : (p : ℕ) → p + q * (p * 2) ≡ (2 * q + 1) * p
    ring p = omega arith

-- the set of arcs from `next` on
pub multiple_set : (next : ℕ) (arcs : List Arc) → Ascending next arcs → Multiple next (name_set arcs)
unfolding name_set
multiple_set next [] up = record { times = 0; is = sym (zero-mul (2 ^ next)) }
multiple_set next (a ∷ arcs) up =
    let rest = multiple_set (suc a.name) arcs up.1 in
    multiple_lower next a.name (2 ^ a.name + name_set arcs) up.0
    (record { times = 2 * rest.times + 1; is = ap (λ (n : ℕ). 2 ^ a.name + n) rest.is ∙ one_more rest.times a.name })

ones_shifted : (q k : ℕ) → ones (q * 2 ^ k) ≡ ones q
unfolding ones
ones_shifted q k = ap ones (sym (add-zero (q * 2 ^ k))) ∙ ones_cat k q 0 (pow_pos k) ∙ add-zero (ones q)

pub ones_one : (k : ℕ) → ones (2 ^ k) ≡ 1
unfolding ones
ones_one k = ap ones (sym (one-mul (2 ^ k))) ∙ ones_shifted 1 k

-- as many bits as arcs
pub ones_name_set : (next : ℕ) (arcs : List Arc) → Ascending next arcs → ones (name_set arcs) ≡ length arcs
unfolding name_set ones
ones_name_set next [] up = refl
ones_name_set next (a ∷ arcs) up =
    let rest = multiple_set (suc a.name) arcs up.1 in
    let k = a.name in
    let count : ones rest.times ≡ length arcs =
    sym (ones_shifted rest.times (suc k)) ∙ ap ones (sym rest.is) ∙ ones_name_set (suc k) arcs up.1 in
    ap (λ (n : ℕ). ones (2 ^ k + n)) rest.is
    ∙ ap ones (add_comm (2 ^ k) (rest.times * 2 ^ suc k))
    ∙ ones_cat (suc k) rest.times (2 ^ k) (pow-lt {i = k} {j = suc k} (omega arith))
    ∙ ap (λ (n : ℕ). ones rest.times + n) (ones_one k)
    ∙ omega (arith, count)

-- an odd number with i zeros after it
pub trailing_shifted : (d m i : ℕ) → m % 2 ≡ 1 → i < d → count_trailing_zeros d (m * 2 ^ i) ≡ i
unfolding count_trailing_zeros
trailing_shifted zero m i o h = let z : ⊥ = omega arith in absurd z
trailing_shifted (suc d) m zero o h =
    ap (λ (x : ℕ). under (x % 2) (count_trailing_zeros d (x / 2))) (mul-one m) ∙ ap (λ (r : ℕ). under r (count_trailing_zeros d (m / 2))) o
trailing_shifted (suc d) m (suc i) o h =
    ap (λ (r : ℕ). under r (count_trailing_zeros d (m * 2 ^ suc i / 2))) (shifted_even m i)
    ∙ ap (λ (x : ℕ). suc (count_trailing_zeros d x)) (shifted_half m i)
    ∙ ap suc (trailing_shifted d m i o (omega arith))

-- the lowest bit is the first arc's name
pub trailing_name_set : (next : ℕ) (a : Arc) (arcs : List Arc) → Ascending next (a ∷ arcs) → a.name < 64
    → count_trailing_zeros 64 (name_set (a ∷ arcs)) ≡ a.name
unfolding name_set
trailing_name_set next a arcs up h =
    let rest = multiple_set (suc a.name) arcs up.1 in
    let odd : (2 * rest.times + 1) % 2 ≡ 1 = omega arith in
    ap (λ (n : ℕ). count_trailing_zeros 64 (2 ^ a.name + n)) rest.is
    ∙ ap (count_trailing_zeros 64) (one_more rest.times a.name)
    ∙ trailing_shifted 64 (2 * rest.times + 1) a.name odd h

-- without the first arc's bit the set is that of the others
pub name_set-rest : (a : Arc) (arcs : List Arc) → name_set (a ∷ arcs) - 2 ^ a.name ≡ name_set arcs
unfolding name_set
name_set-rest a arcs = omega arith

-- the first arc's name put into the set of the others
set-with_first : (next : ℕ) (a : Arc) (arcs : List Arc) → Ascending next (a ∷ arcs) →
    name_set (a ∷ arcs) ≡ bit_or (name_set arcs) (2 ^ a.name)
unfolding name_set
set-with_first next a arcs up =
    let rest = multiple_set (suc a.name) arcs up.1 in
    let k = a.name in
    ap (λ (n : ℕ). 2 ^ k + n) rest.is
    ∙ add_comm (2 ^ k) (rest.times * 2 ^ suc k)
    ∙ sym (or_shifted rest.times (suc k) (2 ^ k) (pow-lt {i = k} {j = suc k} (omega arith)))
    ∙ ap (λ (n : ℕ). bit_or n (2 ^ k)) (sym rest.is)

-- a name has its bit in the set exactly if an arc has that name
pub bit-name_set : (next : ℕ) (arcs : List Arc) → Ascending next arcs → (n : ℕ) →
    (bit n (name_set arcs) ≡ 1) ↔ ((to : ℕ) × In (arc n to) arcs)
unfolding name_set
bit-name_set next [] up n =
    (λ h. let z : ⊥ = omega (arith, bit-zero n) in absurd z, λ r. absurd (Memᴰ.not-nil r.1))
bit-name_set next (a ∷ arcs) up n =
    let again = bit-name_set (suc a.name) arcs up.1 n in
    let set_is = set-with_first next a arcs up in
    let told = bit-of_set n (name_set arcs) a.name in (
      λ h. ⊎_elim (λ b. let r = again.0 b in (r.0, there r.1)) (λ e. (a.to, here (ap (λ (k : ℕ). arc k a.to) e)))
          (told.0 (sym (ap (bit n) set_is) ∙ h)),
      λ r. ap (bit n) set_is
          ∙ told.1
          (⊎_elim (λ e. inr (ap (λ (z : Arc). z.name) e)) (λ m. inl (again.1 (r.0, m))) (Memᴰ.cases_cons r.1)),
    )
