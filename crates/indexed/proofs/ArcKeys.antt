-- Arcs and the seen sets at their ends: which arcs have keys, sets after one name, and sets before it. Assumes nothing.
use mathlib.Core.Path.{◌≡◌, refl, sym, ap, ap₂, ◌∙◌}
use mathlib.Core.Bool.{Bool, true, false, cond, beq, true≢false}
use mathlib.Core.List.{List}
use Prim.Native.Nat.{ℕ, zero, suc, ◌^◌, ◌<◌}
use native.Mathlib.Omega.{arith}
use lib.Bits.{bit_or}
use lib.Dec.{eqb}
use lib.ListN.{get_or}
use borrow.Author.Tests.{eqb-true, eqb-false}
use Rattle.base.specs.Limits.{name_limit}
use Rattle.indexed.specs.Passes.{SeenSets, KeysWhere}
use Rattle.base.specs.Bits.{bit}
use Rattle.base.proofs.Bits.{set-again, set-cancel}

-- equal sets and one name lead to equal sets
pub seen_forward :
    (n : ℕ) (parents names seen : List ℕ) → SeenSets n parents names seen → (v w : ℕ) → 0 < v → 0 < w → v < n → w < n →
    get_or names v 0 ≡ get_or names w 0 → get_or seen (get_or parents v 0) 0 ≡ get_or seen (get_or parents w 0) 0 →
    get_or seen v 0 ≡ get_or seen w 0
seen_forward n parents names seen sets v w pv pw hv hw same_name one =
    sets.arc_seen v pv hv ∙ ap₂ (λ (s b : ℕ). bit_or s (2 ^ b)) one same_name ∙ sym (sets.arc_seen w pw hw)

-- the key of an arc that the keys are of is its name
pub key_is :
    (n : ℕ) (enlarge b : Bool) (parents names seen keys : List ℕ) → KeysWhere n enlarge parents names seen keys → (v : ℕ) →
    0 < v → v < n → eqb (get_or seen v 0) (get_or seen (get_or parents v 0) 0) ≡ b → beq b enlarge ≡ false →
    get_or keys v 0 ≡ get_or names v 0
key_is n enlarge b parents names seen keys where-keys v pv hv e d =
    where-keys.key v pv hv ∙ ap (λ (x : Bool). cond (beq x enlarge) name_limit (get_or names v 0)) e
    ∙ ap (λ (x : Bool). cond x name_limit (get_or names v 0)) d

-- an arc that has a key, and whether it enlarges the set
pub record Keyed (enlarge : Bool) (parents names seen keys : List ℕ) (v : ℕ) : Type 0 where
  pub not_root : 0 < v
  pub of_kind : beq (eqb (get_or seen v 0) (get_or seen (get_or parents v 0) 0)) enlarge ≡ false
  pub named : get_or keys v 0 ≡ get_or names v 0

pub keyed :
    (n : ℕ) (enlarge : Bool) (parents names seen keys : List ℕ) → KeysWhere n enlarge parents names seen keys → (v : ℕ) →
    v < n → get_or keys v 0 < name_limit → Keyed enlarge parents names seen keys v
keyed n enlarge parents names seen keys where-keys zero h below =
    let root : get_or keys 0 0 ≡ name_limit = where-keys.root_key in
    let z : ⊥ = omega arith in
    absurd z
keyed n enlarge parents names seen keys where-keys (suc v) h below =
    go (beq (eqb (get_or seen (suc v) 0) (get_or seen (get_or parents (suc v) 0) 0)) enlarge) refl
  where
    go :
        (b : Bool) → beq (eqb (get_or seen (suc v) 0) (get_or seen (get_or parents (suc v) 0) 0)) enlarge ≡ b →
        Keyed enlarge parents names seen keys (suc v)
    go true e =
        let none : get_or keys (suc v) 0 ≡ name_limit =
        where-keys.key (suc v) (omega arith) h
        ∙ ap (λ (x : Bool). cond x name_limit (get_or names (suc v) 0)) e in
        let z : ⊥ = omega arith in
        absurd z
    go false e =
        record {
          not_root = omega arith;
          of_kind = e;
          named = where-keys.key (suc v) (omega arith) h ∙ ap (λ (x : Bool). cond x name_limit (get_or names (suc v) 0)) e;
        }

beq_false : (b : Bool) → beq b false ≡ false → b ≡ true
beq_false true e = refl
beq_false false e = absurd (true≢false e)

beq_true : (b : Bool) → beq b true ≡ false → b ≡ false
beq_true true e = absurd (true≢false e)
beq_true false e = refl

-- equal sets, reached by one name both with it new, or both with it seen already, were equal before
pub seen_before :
    (n : ℕ) (enlarge : Bool) (parents names seen keys : List ℕ) → SeenSets n parents names seen → (v w : ℕ) → v < n →
    w < n → Keyed enlarge parents names seen keys v → Keyed enlarge parents names seen keys w →
    get_or names v 0 ≡ get_or names w 0 → get_or seen v 0 ≡ get_or seen w 0 →
    get_or seen (get_or parents v 0) 0 ≡ get_or seen (get_or parents w 0) 0
seen_before n false parents names seen keys sets v w hv hw at-v at-w same_name sets_same =
    sym (kept v at-v.of_kind) ∙ sets_same ∙ kept w at-w.of_kind
  where
    kept :
        (x : ℕ) → beq (eqb (get_or seen x 0) (get_or seen (get_or parents x 0) 0)) false ≡ false →
        get_or seen x 0 ≡ get_or seen (get_or parents x 0) 0
    kept x e =
        eqb-true (get_or seen x 0) (get_or seen (get_or parents x 0) 0)
        (beq_false (eqb (get_or seen x 0) (get_or seen (get_or parents x 0) 0)) e)
seen_before n true parents names seen keys sets v w hv hw at-v at-w same_name sets_same =
    let arc-v = sets.arc_seen v at-v.not_root hv in
    let arc-w = sets.arc_seen w at-w.not_root hw in
    let joined : bit_or (get_or seen (get_or parents v 0) 0) (2 ^ get_or names v 0)
    ≡ bit_or (get_or seen (get_or parents w 0) 0) (2 ^ get_or names v 0) =
    sym arc-v ∙ sets_same ∙ arc-w
    ∙ ap (λ (b : ℕ). bit_or (get_or seen (get_or parents w 0) 0) (2 ^ b)) (sym same_name) in
    set-cancel (get_or seen (get_or parents v 0) 0) (get_or seen (get_or parents w 0) 0) (get_or names v 0)
    (new v (get_or names v 0) at-v.of_kind arc-v)
    (new w (get_or names v 0) at-w.of_kind
    (arc-w ∙ ap (λ (b : ℕ). bit_or (get_or seen (get_or parents w 0) 0) (2 ^ b)) (sym same_name)))
    joined
  where
    new :
        (x b : ℕ) → beq (eqb (get_or seen x 0) (get_or seen (get_or parents x 0) 0)) true ≡ false →
        get_or seen x 0 ≡ bit_or (get_or seen (get_or parents x 0) 0) (2 ^ b) →
        bit b (get_or seen (get_or parents x 0) 0) ≡ 1 → ⊥
    new x b e arc one =
        eqb-false (get_or seen x 0) (get_or seen (get_or parents x 0) 0)
        (beq_true (eqb (get_or seen x 0) (get_or seen (get_or parents x 0) 0)) e)
        (arc ∙ set-again (get_or seen (get_or parents x 0) 0) b one)
