-- Laws of partitions by number that the passes share: forks as keys, labels, and what a join of two groups does to refinement
-- and to the sum. Assumes nothing.
use mathlib.Core.Path.{◌≡◌, refl, sym, ap, ◌∙◌, subst}
use mathlib.Core.Bool.{Bool, true, false, cond}
use mathlib.Core.List.{List, [], ◌∷◌}
use Prim.Native.Nat.{ℕ, zero, suc, ◌<◌, ◌≤◌}
use native.Mathlib.Nat.{not-suc-le-zero}
use native.Mathlib.Omega.{arith}
use lib.Dec.{eqb}
use lib.ListN.{length, get_or, length-map}
use borrow.Author.Tests.{eqb-true, eqb-false}
use Rattle.base.specs.Limits.{name_limit}
use Rattle.base.specs.Lists.{numbers_from}
use Rattle.indexed.specs.Trees.{Arrays}
use Rattle.base.proofs.Places.{number_at}
use Rattle.indexed.specs.Partitions.{Refines, Labelled, KeyClosed, ForkClosed, sum}
use Rattle.indexed.specs.Passes.{relabelled}

-- a state whose name is one is not the root
pub named-not_root :
    (n : ℕ) (parents names : List ℕ) → Arrays n parents names → (v : ℕ) → get_or names v 0 < name_limit → 0 < v
named-not_root n parents names arrays zero h =
    let root : get_or names 0 0 ≡ name_limit = arrays.root_name in
    omega arith
named-not_root n parents names arrays (suc v) h = omega arith

pub forks-keys :
    (n : ℕ) (parents names groups : List ℕ) → Arrays n parents names → ForkClosed n parents names groups →
    KeyClosed n parents (numbers_from n 0) names groups
forks-keys n parents names groups arrays closed v w hv hw below same_name one =
    let at-v : get_or (numbers_from n 0) v 0 ≡ v = number_at n v hv in
    let at-w : get_or (numbers_from n 0) w 0 ≡ w = number_at n w hw in
    let below-w : get_or names w 0 < name_limit = omega arith in
    let not_root : (x : ℕ) → get_or names x 0 < name_limit → 0 < x = named-not_root n parents names arrays in
    rw (at-v, at-w) (closed v w (not_root v below) (not_root w below-w) hv hw same_name one)

pub keys_forks :
    (n : ℕ) (parents names groups : List ℕ) → Arrays n parents names → KeyClosed n parents (numbers_from n 0) names groups →
    ForkClosed n parents names groups
keys_forks n parents names groups arrays closed v w pv pw hv hw same_name one =
    let at-v : get_or (numbers_from n 0) v 0 ≡ v = number_at n v hv in
    let at-w : get_or (numbers_from n 0) w 0 ≡ w = number_at n w hw in
    rw (at-v, at-w) at (closed v w hv hw (arrays.name_below v pv hv) same_name one)

pub relabelled-length : (x y : ℕ) (groups : List ℕ) → length (relabelled x y groups) ≡ length groups
unfolding relabelled
relabelled-length x y groups = length-map groups (λ (g : ℕ). cond (eqb g y) x g)

pub relabelled-at :
    (x y v : ℕ) (groups : List ℕ) → v < length groups →
    get_or (relabelled x y groups) v 0 ≡ cond (eqb (get_or groups v 0) y) x (get_or groups v 0)
unfolding relabelled
relabelled-at x y v [] h = absurd (not-suc-le-zero h)
relabelled-at x y zero (g ∷ groups) h = refl
relabelled-at x y (suc v) (g ∷ groups) h = relabelled-at x y v groups (omega arith)

-- a state's label after the join: x where it was y, as it was otherwise
pub data Relabel (x y g g' : ℕ) : Type 0 where
  moved : g ≡ y → g' ≡ x → Relabel x y g g'
  kept : (g ≡ y → ⊥) → g' ≡ g → Relabel x y g g'

relabel_of : (x y g : ℕ) → Relabel x y g (cond (eqb g y) x g)
relabel_of x y g = go (eqb g y) refl
  where
    go : (b : Bool) → eqb g y ≡ b → Relabel x y g (cond b x g)
    go true e = moved (eqb-true g y e) refl
    go false e = kept (eqb-false g y e) refl

pub relabelled-cases :
    (x y v : ℕ) (groups : List ℕ) → v < length groups → Relabel x y (get_or groups v 0) (get_or (relabelled x y groups) v 0)
relabelled-cases x y v groups h =
    subst (λ (g : ℕ). Relabel x y (get_or groups v 0) g) (sym (relabelled-at x y v groups h)) (relabel_of x y (get_or groups v 0))

-- a join of two labels to the lower keeps labels, coarsens, and lowers the sum
pub relabelled-labelled :
    (n x y : ℕ) (groups : List ℕ) → Labelled n groups → x < y → y < n → get_or groups x 0 ≡ x → get_or groups y 0 ≡ y →
    Labelled n (relabelled x y groups)
relabelled-labelled n x y groups labelled lower inside own_x own-y =
    record {
      size = relabelled-length x y groups ∙ labelled.size;
      low = λ v h. low-at v (labelled.low v h) (cases v h);
      own = λ v h. own_at v h (cases v h);
    }
  where
    new : ℕ → ℕ
    new v = get_or (relabelled x y groups) v 0

    cases : (v : ℕ) → v < n → Relabel x y (get_or groups v 0) (new v)
    cases v h = relabelled-cases x y v groups (subst (λ (m : ℕ). v < m) (sym labelled.size) h)

    low-at : (v : ℕ) → get_or groups v 0 ≤ v → Relabel x y (get_or groups v 0) (new v) → new v ≤ v
    low-at v h (moved e f) = omega arith
    low-at v h (kept d f) = omega arith

    -- a label other than y keeps its own
    stays : (g : ℕ) → (g ≡ y → ⊥) → get_or groups g 0 ≡ g → Relabel x y (get_or groups g 0) (new g) → new g ≡ g
    stays g d own (moved e f) = absurd (d (sym own ∙ e))
    stays g d own (kept e f) = f ∙ own

    own_at : (v : ℕ) → v < n → Relabel x y (get_or groups v 0) (new v) → new (new v) ≡ new v
    own_at v h (moved e f) =
        let d : x ≡ y → ⊥ = λ q. omega arith in
        let below : x < n = omega arith in
        rw f (stays x d own_x (cases x below))
    own_at v h (kept d f) =
        let low : get_or groups v 0 ≤ v = labelled.low v h in
        let below : get_or groups v 0 < n = omega arith in
        rw f (stays (get_or groups v 0) d (labelled.own v h) (cases (get_or groups v 0) below))

pub relabelled-coarser : (n x y : ℕ) (groups : List ℕ) → length groups ≡ n → Refines n groups (relabelled x y groups)
relabelled-coarser n x y groups size v w hv hw one =
    let in-v : v < length groups = omega arith in
    let in-w : w < length groups = omega arith in
    relabelled-at x y v groups in-v ∙ ap (λ (g : ℕ). cond (eqb g y) x g) one ∙ sym (relabelled-at x y w groups in-w)

-- no label rises
relabel_le : (x y g g' : ℕ) → x < y → Relabel x y g g' → g' ≤ g
relabel_le x y g g' lower (moved e f) = omega arith
relabel_le x y g g' lower (kept d f) = omega arith

relabel_lt : (x y g g' : ℕ) → x < y → g ≡ y → Relabel x y g g' → g' < g
relabel_lt x y g g' lower here (moved e f) = omega arith
relabel_lt x y g g' lower here (kept d f) = absurd (d here)

relabelled-sum_le : (x y : ℕ) (groups : List ℕ) → x < y → sum (relabelled x y groups) ≤ sum groups
unfolding relabelled sum
relabelled-sum_le x y [] lower = omega arith
relabelled-sum_le x y (g ∷ groups) lower =
    let rest : sum (relabelled x y groups) ≤ sum groups = relabelled-sum_le x y groups lower in
    let first : cond (eqb g y) x g ≤ g = relabel_le x y g (cond (eqb g y) x g) lower (relabel_of x y g) in
    omega arith

pub relabelled-sum :
    (x y v : ℕ) (groups : List ℕ) → x < y → v < length groups → get_or groups v 0 ≡ y → sum (relabelled x y groups) < sum groups
unfolding relabelled sum
relabelled-sum x y v [] lower inside here = absurd (not-suc-le-zero inside)
relabelled-sum x y zero (g ∷ groups) lower inside here =
    let rest : sum (relabelled x y groups) ≤ sum groups = relabelled-sum_le x y groups lower in
    let first : cond (eqb g y) x g < g = relabel_lt x y g (cond (eqb g y) x g) lower here (relabel_of x y g) in
    omega arith
relabelled-sum x y (suc v) (g ∷ groups) lower inside here =
    let rest : sum (relabelled x y groups) < sum groups = relabelled-sum x y v groups lower (omega arith) here in
    let first : cond (eqb g y) x g ≤ g = relabel_le x y g (cond (eqb g y) x g) lower (relabel_of x y g) in
    omega arith

-- a join of the groups of two states that another partition has in one group stays inside that partition
pub relabelled-refines :
    (n v w : ℕ) (groups others : List ℕ) → length groups ≡ n → v < n → w < n → Refines n groups others →
    get_or others v 0 ≡ get_or others w 0 → Refines n (relabelled (get_or groups v 0) (get_or groups w 0) groups) others
relabelled-refines n v w groups others size hv hw refines one a b ha hb e =
    go (cases a ha) (cases b hb)
  where
    new : ℕ → ℕ
    new u = get_or (relabelled (get_or groups v 0) (get_or groups w 0) groups) u 0

    cases : (u : ℕ) → u < n → Relabel (get_or groups v 0) (get_or groups w 0) (get_or groups u 0) (new u)
    cases u h = relabelled-cases (get_or groups v 0) (get_or groups w 0) u groups (subst (λ (m : ℕ). u < m) (sym size) h)

    go :
        Relabel (get_or groups v 0) (get_or groups w 0) (get_or groups a 0) (new a) →
        Relabel (get_or groups v 0) (get_or groups w 0) (get_or groups b 0) (new b) → get_or others a 0 ≡ get_or others b 0
    go (moved p q) (moved r s) = refines a w ha hw p ∙ sym (refines b w hb hw r)
    go (moved p q) (kept r s) = refines a w ha hw p ∙ sym one ∙ refines v b hv hb (sym q ∙ e ∙ s)
    go (kept p q) (moved r s) = refines a v ha hv (sym q ∙ e ∙ s) ∙ one ∙ sym (refines b w hb hw r)
    go (kept p q) (kept r s) = refines a b ha hb (sym q ∙ e ∙ s)

-- and makes them one
pub relabelled-joins :
    (n v w : ℕ) (groups : List ℕ) → length groups ≡ n → v < n → w < n →
    get_or (relabelled (get_or groups v 0) (get_or groups w 0) groups) v 0
    ≡ get_or (relabelled (get_or groups v 0) (get_or groups w 0) groups) w 0
relabelled-joins n v w groups size hv hw = go (cases v hv) (cases w hw)
  where
    new : ℕ → ℕ
    new u = get_or (relabelled (get_or groups v 0) (get_or groups w 0) groups) u 0

    cases : (u : ℕ) → u < n → Relabel (get_or groups v 0) (get_or groups w 0) (get_or groups u 0) (new u)
    cases u h = relabelled-cases (get_or groups v 0) (get_or groups w 0) u groups (subst (λ (m : ℕ). u < m) (sym size) h)

    go :
        Relabel (get_or groups v 0) (get_or groups w 0) (get_or groups v 0) (new v) →
        Relabel (get_or groups v 0) (get_or groups w 0) (get_or groups w 0) (new w) → new v ≡ new w
    go (moved p q) (moved r s) = q ∙ sym s
    go (moved p q) (kept r s) = absurd (r refl)
    go (kept p q) (moved r s) = q ∙ sym s
    go (kept p q) (kept r s) = absurd (r refl)
