-- The arcs out of the groups as sets of names: no arc yet, one more; and that names that lead out of two groups in common are told
-- by the groups. Assumes nothing.
use mathlib.Core.Path.{◌≡◌, refl, sym, ap, ◌∙◌, subst, subst₂}
use mathlib.Core.Logic.{◌⊎◌, inl, inr, ⊎_elim}
use mathlib.Core.List.{List}
use Prim.Native.Nat.{ℕ, suc, ◌^◌, ◌<◌}
use native.Mathlib.Omega.{arith}
use lib.Bits.{bit_or}
use lib.ListN.{length, get_or, set}
use lib.Seq.{get_or-set_same, get_or-set_other}
use Rattle.base.proofs.Tests.{eq_dec}
use Rattle.base.specs.Bits.{bit}
use Rattle.base.proofs.Bits.{bit-zero, bit-set, bit-of_set, bit-of_either, set-again}
use Rattle.contexts.specs.Sweeps.{FirstArc, ArcOf, Linked}
use Rattle.contexts.proofs.ClimbLaws.{below_suc}

pub linked_none :
    {parents names old next : List ℕ} → ((x : ℕ) → get_or next x 0 ≡ 0) → Linked 1 parents names old next
linked_none none =
    record {
      leaves = λ v pos low. let z : ⊥ = omega arith in absurd z;
      arc = λ x a set.
          let bare : bit a 0 ≡ 1 = subst (λ (s : ℕ). bit a s ≡ 1) (none x) set in
          let z : ⊥ = omega (arith, bit-zero a) in
          absurd z;
    }

-- an arc found before is found among one more
arc-kept :
    {i : ℕ} {parents names old : List ℕ} {x a : ℕ} → ArcOf i parents names old x a → ArcOf (suc i) parents names old x a
arc-kept was =
    record {
      target = was.target;
      no_root = was.no_root;
      below = omega (arith, was.below);
      name_is = was.name_is;
      from_x = was.from_x;
      first = was.first;
    }

-- one arc more, whose name leads out of its group already
pub linked_known :
    {i : ℕ} {parents names old next : List ℕ} → Linked i parents names old next →
    bit (get_or names i 0) (get_or next (get_or old (get_or parents i 0) 0) 0) ≡ 1 → Linked (suc i) parents names old next
linked_known {i} {parents} {names} {old} {next} linked known =
    record { leaves = λ v some low. leaves v low some; arc = λ x a set. arc-kept (linked.arc x a set) }
  where
    leaves : (v : ℕ) → v < suc i → 0 < v → bit (get_or names v 0) (get_or next (get_or old (get_or parents v 0) 0) 0) ≡ 1
    leaves =
        below_suc (λ (v : ℕ). (0 < v) → bit (get_or names v 0) (get_or next (get_or old (get_or parents v 0) 0) 0) ≡ 1) i
        (λ v low some. linked.leaves v some low) (λ some. known)

-- whether a name is in a set is told by putting it in
pub name_known : (x a : ℕ) → bit_or x (2 ^ a) ≡ x → bit a x ≡ 1
name_known x a same = subst (λ (y : ℕ). bit a y ≡ 1) same (bit-set a x a refl)

pub name_new : (x a : ℕ) → (bit_or x (2 ^ a) ≡ x → ⊥) → bit a x ≡ 1 → ⊥
name_new x a apart known = apart (set-again x a known)

pub first_arc :
    {i : ℕ} {parents names old next : List ℕ} → Linked i parents names old next →
    (bit (get_or names i 0) (get_or next (get_or old (get_or parents i 0) 0) 0) ≡ 1 → ⊥) → FirstArc parents names old i
first_arc {i} {parents} {names} {old} {next} linked new u some low same_name same_source =
    new (subst₂ (λ (a x : ℕ). bit a (get_or next x 0) ≡ 1) same_name same_source (linked.leaves u some low))

-- bits set besides in one number of a list leave all that were set
pub bits_grow :
    (l : List ℕ) (i more : ℕ) → i < length l → (x a : ℕ) → bit a (get_or l x 0) ≡ 1 →
    bit a (get_or (set l i (bit_or (get_or l i 0) more)) x 0) ≡ 1
bits_grow l i more inside x a one = go (eq_dec x i)
  where
    go : (x ≡ i) ⊎ (x ≡ i → ⊥) → bit a (get_or (set l i (bit_or (get_or l i 0) more)) x 0) ≡ 1
    go (inl e) =
        subst (λ (z : ℕ). bit a (get_or (set l i (bit_or (get_or l i 0) more)) z 0) ≡ 1) (sym e)
        (ap (bit a) (get_or-set_same l i (bit_or (get_or l i 0) more) 0 inside)
        ∙ bit-of_either a (get_or l i 0) more (inl (subst (λ (z : ℕ). bit a (get_or l z 0) ≡ 1) e one)))
    go (inr apart) = ap (bit a) (get_or-set_other l i x (bit_or (get_or l i 0) more) 0 apart) ∙ one

-- one arc more, the first of its name out of its group: its name is put into a set
module _ {i : ℕ} {parents names old next : List ℕ} (pos : 0 < i) (linked : Linked i parents names old next) (from name : ℕ)
    (from_is : from ≡ get_or old (get_or parents i 0) 0) (name_is : name ≡ get_or names i 0) (in-next : from < length next)
    {next' : List ℕ} (next-is : next' ≡ set next from (bit_or (get_or next from 0) (2 ^ name)))
    (new : bit (get_or names i 0) (get_or next (get_or old (get_or parents i 0) 0) 0) ≡ 1 → ⊥) where
  at_from : (x : ℕ) → x ≡ from → get_or next' x 0 ≡ bit_or (get_or next x 0) (2 ^ name)
  at_from x e =
      subst (λ (z : ℕ). get_or next' z 0 ≡ bit_or (get_or next z 0) (2 ^ name)) (sym e)
      (ap (λ (l : List ℕ). get_or l from 0) next-is ∙ get_or-set_same next from (bit_or (get_or next from 0) (2 ^ name)) 0 in-next)

  elsewhere : (x : ℕ) → (x ≡ from → ⊥) → get_or next' x 0 ≡ get_or next x 0
  elsewhere x apart =
      ap (λ (l : List ℕ). get_or l x 0) next-is ∙ get_or-set_other next from x (bit_or (get_or next from 0) (2 ^ name)) 0 apart

  -- the name is in its set, and what was in a set still is
  this-leaves : bit (get_or names i 0) (get_or next' (get_or old (get_or parents i 0) 0) 0) ≡ 1
  this-leaves =
      subst₂ (λ (a x : ℕ). bit a (get_or next' x 0) ≡ 1) name_is from_is
      (ap (bit name) (at_from from refl) ∙ bit-set name (get_or next from 0) name refl)

  grows : (x a : ℕ) → bit a (get_or next x 0) ≡ 1 → bit a (get_or next' x 0) ≡ 1
  grows x a set =
      subst (λ (l : List ℕ). bit a (get_or l x 0) ≡ 1) (sym next-is) (bits_grow next from (2 ^ name) in-next x a set)

  more-leaves : (v : ℕ) → v < suc i → 0 < v → bit (get_or names v 0) (get_or next' (get_or old (get_or parents v 0) 0) 0) ≡ 1
  more-leaves =
      below_suc (λ (v : ℕ). (0 < v) → bit (get_or names v 0) (get_or next' (get_or old (get_or parents v 0) 0) 0) ≡ 1) i
      (λ v low some. grows (get_or old (get_or parents v 0) 0) (get_or names v 0) (linked.leaves v some low))
      (λ some. this-leaves)

  -- the arc into i
  this-arc : (x a : ℕ) → x ≡ from → a ≡ name → ArcOf (suc i) parents names old x a
  this-arc x a e f =
      record {
        target = i;
        no_root = pos;
        below = omega arith;
        name_is = sym (f ∙ name_is);
        from_x = sym (e ∙ from_is);
        first = first_arc linked new;
      }

  more-arc : (x a : ℕ) → bit a (get_or next' x 0) ≡ 1 → ArcOf (suc i) parents names old x a
  more-arc x a set = go (eq_dec x from) (eq_dec a name)
    where
      go : (x ≡ from) ⊎ (x ≡ from → ⊥) → (a ≡ name) ⊎ (a ≡ name → ⊥) → ArcOf (suc i) parents names old x a
      go (inl e) (inl f) = this-arc x a e f
      go (inl e) (inr other) =
          arc-kept
          (linked.arc x a
          (⊎_elim (λ was. was) (λ f. absurd (other f))
          ((bit-of_set a (get_or next x 0) name).0 (sym (ap (bit a) (at_from x e)) ∙ set))))
      go (inr other) f = arc-kept (linked.arc x a (sym (ap (bit a) (elsewhere x other)) ∙ set))

  pub linked_more : Linked (suc i) parents names old next'
  linked_more = record { leaves = λ v some low. more-leaves v low some; arc = more-arc }
