-- Laws of the keys of one arc: what its name adds to the seen set before it, and which keys that gives. Assumes nothing.
use mathlib.Core.Path.{◌≡◌, refl, sym, ap, ◌∙◌, subst}
use mathlib.Core.Logic.{◌⊎◌, inl, inr, ⊎_elim}
use mathlib.Core.Bool.{Bool, true, false, cond, beq}
use mathlib.Core.List.{List}
use Prim.Native.Nat.{ℕ, zero, suc, ◌+◌, ◌-◌, ◌*◌, ◌/◌, ◌%◌, ◌^◌, ◌<◌, ◌≤◌, min}
use native.Mathlib.Nat.{pow-suc}
use native.Mathlib.Omega.{arith}
use lib.Bits.{bit_and, bit_or, and_step, or_zero_l, or_disjoint}
use lib.Count.{ones, ones_step, count_trailing_zeros}
use lib.Dec.{eqb}
use lib.ListN.{get_or}
use lib.Pow.{pow_pos}
use borrow.Author.Tests.{eq-eqb, ne_eqb}
use Rattle.std.specs.Prelude.{Option, None, Some}
use Rattle.std.specs.Option.{unwrap_or, is_some}
use Rattle.base.specs.Limits.{name_limit}
use Rattle.base.proofs.Tests.{eq_dec}
use Rattle.model.proofs.NameSets.{trailing_shifted}
use Rattle.base.specs.Bits.{bit}
use Rattle.base.proofs.Bits.{bit-zero, bit-of_set, bit-of_both, bits_told, set-again}

-- 0 has no bit, a power of 2 has one
no_bit : (a : ℕ) → bit a 0 ≡ 1 → ⊥
no_bit a one = omega (arith, bit-zero a)

bit-power : (a b : ℕ) → bit a (2 ^ b) ≡ 1 → a ≡ b
bit-power a b one =
    ⊎_elim (λ set. absurd (no_bit a set)) (λ e. e) ((bit-of_set a 0 b).0 (ap (bit a) (or_zero_l (2 ^ b)) ∙ one))

-- a name that is not in a set has nothing in common with it
apart : (set name : ℕ) → (bit name set ≡ 1 → ⊥) → bit_and set (2 ^ name) ≡ 0
apart set name off = bits_told (bit_and set (2 ^ name)) 0 (λ a. (λ h. absurd (common a h), λ h. absurd (no_bit a h)))
  where
    common : (a : ℕ) → bit a (bit_and set (2 ^ name)) ≡ 1 → ⊥
    common a h =
        let both = (bit-of_both a set (2 ^ name)).0 h in
        off (subst (λ (b : ℕ). bit b set ≡ 1) (bit-power a name both.1) both.0)

-- and with it the set has one name more
ones_more : (name set : ℕ) → bit_and set (2 ^ name) ≡ 0 → ones (set + 2 ^ name) ≡ suc (ones set)
ones_more zero set none =
    let common : bit_and set 1 ≡ bit_and (set / 2) 0 * 2 + min (set % 2) 1 = and_step set 1 in
    let half : (set + 1) / 2 ≡ set / 2 = omega arith in
    omega (arith, ones_step (set + 1), ones_step set, ap ones half)
ones_more (suc name) set none =
    let double : 2 ^ suc name ≡ 2 ^ name * 2 = pow-suc 2 name in
    let lower : 2 ^ suc name / 2 ≡ 2 ^ name = omega arith in
    let half : (set + 2 ^ suc name) / 2 ≡ set / 2 + 2 ^ name = omega arith in
    let common = ones_more name (set / 2) (omega (arith, and_step set (2 ^ suc name), ap (bit_and (set / 2)) lower)) in
    omega (arith, ones_step (set + 2 ^ suc name), ones_step set, ap ones half, common)

-- a set, and the set with a name put into it: the same, or one name more
abbrev Grown : ℕ → ℕ → ℕ → Type 0
Grown name before after = (after ≡ before) ⊎ ((after ≡ before + 2 ^ name) × (ones after ≡ suc (ones before)))

grown : (name before after : ℕ) → after ≡ bit_or before (2 ^ name) → Grown name before after
grown name before after is = ⊎_elim (λ one. inl (is ∙ set-again before name one)) (λ off. inr (added off)) (eq_dec (bit name before) 1)
  where
    added : (bit name before ≡ 1 → ⊥) → (after ≡ before + 2 ^ name) × (ones after ≡ suc (ones before))
    added off =
        let none = apart before name off in
        let more : after ≡ before + 2 ^ name = is ∙ or_disjoint before (2 ^ name) none in
        (more, ap ones more ∙ ones_more name before none)

pub not_less : (name before after : ℕ) → after ≡ bit_or before (2 ^ name) → before ≤ after
not_less name before after is = ⊎_elim (λ same. omega arith) (λ more. omega (arith, more.0)) (grown name before after is)

-- where the set has more names after the arc, the lowest name added is the arc's
pub added_name :
    (before after name : ℕ) → ones before < ones after → name < name_limit → after ≡ bit_or before (2 ^ name) →
    Some (count_trailing_zeros 64 (after - before)) ≡ cond (eqb after before) None (Some name)
added_name before after name more below is = go (grown name before after is)
  where
    go : Grown name before after → Some (count_trailing_zeros 64 (after - before)) ≡ cond (eqb after before) None (Some name)
    go (inl same) = absurd (omega (arith, ap ones same))
    go (inr added) =
        let difference : after - before ≡ 1 * 2 ^ name = omega (arith, added.0) in
        ap (λ (n : ℕ). Some (count_trailing_zeros 64 n)) difference ∙ ap Some (trailing_shifted 64 1 name refl below)
        ∙ sym (ap (λ (b : Bool). cond b None (Some name)) (ne_eqb after before (λ e. omega (arith, added.0, pow_pos name))))

-- and where it has no more, none is added
pub added_none :
    (before after name : ℕ) → (ones before < ones after → ⊥) → after ≡ bit_or before (2 ^ name) →
    None ≡ cond (eqb after before) None (Some name)
added_none before after name no_more is =
    let same : after ≡ before = ⊎_elim (λ e. e) (λ added. absurd (no_more (omega (arith, added.1)))) (grown name before after is) in
    sym (ap (λ (b : Bool). cond b None (Some name)) (eq-eqb after before same))

-- the key of the arc to v: its name among the arcs that enlarge the seen set, or among those that do not
pub record KeyAt (enlarge : Bool) (parents names seen : List ℕ) (v answer : ℕ) : Type 0 where
  pub root : v ≡ 0 → answer ≡ name_limit
  pub arc :
      0 < v →
      answer ≡ cond (beq (eqb (get_or seen v 0) (get_or seen (get_or parents v 0) 0)) enlarge) name_limit (get_or names v 0)

-- a key told by the name added, and by whether there is one
key_added : (same : Bool) (name : ℕ) → unwrap_or (cond same None (Some name)) name_limit ≡ cond (beq same true) name_limit name
key_added true name = refl
key_added false name = refl

key_kept : (same : Bool) (name : ℕ) →
    cond (is_some (cond same None (Some name))) name_limit name ≡ cond (beq same false) name_limit name
key_kept true name = refl
key_kept false name = refl

-- the keys of an arc, by the sets at its ends
module _ (parents names seen : List ℕ) (v x : ℕ) (lowest : Option ℕ) (some : 0 < v)
    (is : lowest ≡ cond (eqb (get_or seen v 0) (get_or seen (get_or parents v 0) 0)) None (Some (get_or names v 0))) where
  same : Bool
  same = eqb (get_or seen v 0) (get_or seen (get_or parents v 0) 0)

  pub key_enlarging : x ≡ unwrap_or lowest name_limit → KeyAt true parents names seen v x
  unfolding same
  key_enlarging e =
      record {
        root = λ q. absurd (omega arith);
        arc = λ h. e ∙ ap (λ (o : Option ℕ). unwrap_or o name_limit) is ∙ key_added same (get_or names v 0);
      }

  pub key_other : x ≡ cond (is_some lowest) name_limit (get_or names v 0) → KeyAt false parents names seen v x
  unfolding same
  key_other e =
      record {
        root = λ q. absurd (omega arith);
        arc = λ h. e ∙ ap (λ (o : Option ℕ). cond (is_some o) name_limit (get_or names v 0)) is ∙ key_kept same (get_or names v 0);
      }
