-- Laws of a partition kept as a forest: the root of a state by one step up; what a change of the forest must leave so that the
-- roots stay; a root put below another; a way to the root made shorter step by step; all states put right below their roots.
-- Assumes nothing.
use mathlib.Core.Path.{◌≡◌, refl, sym, ap, ◌∙◌, subst}
use mathlib.Core.Logic.{⊎_elim}
use mathlib.Core.Bool.{cond}
use mathlib.Core.List.{List}
use Prim.Native.Nat.{ℕ, zero, suc, ◌+◌, ◌<◌, ◌≤◌}
use native.Mathlib.Omega.{arith}
use lib.Dec.{eqb}
use lib.ListN.{length, get_or, set, length-map, length-set, get_or-map}
use lib.Seq.{get_or-set_same, get_or-set_other, ext_get_or}
use Rattle.base.specs.Lists.{numbers_from}
use Rattle.base.proofs.Tests.{eq_dec}
use Rattle.indexed.specs.Trees.{up}
use Rattle.indexed.specs.Partitions.{Labelled}
use Rattle.indexed.specs.Passes.{relabelled}
use Rattle.base.proofs.Fills.{Filled, filled_more, rest_kept}
use Rattle.base.proofs.Places.{number_at, length-numbers_from}
use Rattle.indexed.proofs.Keys.{relabelled-length, relabelled-at}
use Rattle.partition.specs.Forests.{Forest, root_of, roots_of, FoundRoot, United}
use Rattle.partition.proofs.JoinLaws.{label_moved, label_kept}

-- no step leads away from a state that is above itself
up-own : (above : List ℕ) (i v : ℕ) → get_or above v 0 ≡ v → up above i v ≡ v
unfolding up
up-own above zero v own = refl
up-own above (suc i) v own = ap (up above i) own ∙ up-own above i v own

pub root_own : (above : List ℕ) (v : ℕ) → get_or above v 0 ≡ v → root_of above v ≡ v
unfolding root_of
root_own above v own = up-own above v v own

pub roots_length : (above : List ℕ) → length (roots_of above) ≡ length above
unfolding roots_of
roots_length above = length-map (numbers_from (length above) 0) (root_of above) ∙ length-numbers_from (length above) 0

module _ (n : ℕ) (above : List ℕ) (forest : Forest n above) where
  -- any two numbers of steps that are enough come to one state
  up-enough : (i j v : ℕ) → v ≤ i → v ≤ j → v < n → up above i v ≡ up above j v
  unfolding up
  up-enough zero j v hi hj h =
      let own : get_or above v 0 ≡ v = omega (arith, forest.low v h) in
      sym (up-own above j v own)
  up-enough (suc i) zero v hi hj h =
      let own : get_or above v 0 ≡ v = omega (arith, forest.low v h) in
      up-own above (suc i) v own
  up-enough (suc i) (suc j) v hi hj h =
      let low : get_or above v 0 ≤ v = forest.low v h in
      ⊎_elim (λ own. up-own above (suc i) v own ∙ sym (up-own above (suc j) v own))
      (λ other. up-enough i j (get_or above v 0) (omega arith) (omega arith) (omega arith)) (eq_dec (get_or above v 0) v)

  pub root_up : (v : ℕ) → v < n → root_of above v ≡ root_of above (get_or above v 0)
  unfolding root_of up
  root_up v h =
      let low : get_or above v 0 ≤ v = forest.low v h in
      up-enough v (suc v) v (omega arith) (omega arith) h
      ∙ up-enough v (get_or above v 0) (get_or above v 0) (omega arith) (omega arith) (omega arith)

  -- what is so of roots, and of a state where it is so of the state above it, is so of all: up to k by induction
  by_ways :
      (P : ℕ → Type 0) → ((v : ℕ) → v < n → get_or above v 0 ≡ v → P v) →
      ((v : ℕ) → v < n → get_or above v 0 < v → P (get_or above v 0) → P v) → (k v : ℕ) → v < k → v < n → P v
  by_ways P own step zero v hk h = absurd (omega arith)
  by_ways P own step (suc k) v hk h =
      let low : get_or above v 0 ≤ v = forest.low v h in
      ⊎_elim (own v h)
      (λ other. step v h (omega arith) (by_ways P own step k (get_or above v 0) (omega arith) (omega arith)))
      (eq_dec (get_or above v 0) v)

  -- a function that is the same on a state and on the one above it, and a root's own number on a root, gives the roots
  pub root_is :
      (f : ℕ → ℕ) → ((v : ℕ) → v < n → get_or above v 0 ≡ v → f v ≡ v) → ((v : ℕ) → v < n → f (get_or above v 0) ≡ f v) →
      (v : ℕ) → v < n → root_of above v ≡ f v
  root_is f own same v h =
      by_ways (λ (w : ℕ). root_of above w ≡ f w) (λ w hw e. root_own above w e ∙ sym (own w hw e))
      (λ w hw lower rest. root_up w hw ∙ rest ∙ same w hw) (suc v) v (omega arith) h

  -- a root is above itself
  pub root_root : (v : ℕ) → v < n → get_or above (root_of above v) 0 ≡ root_of above v
  root_root v h =
      by_ways (λ (w : ℕ). get_or above (root_of above w) 0 ≡ root_of above w)
      (λ w hw e. ap (λ (r : ℕ). get_or above r 0) (root_own above w e) ∙ e ∙ sym (root_own above w e))
      (λ w hw lower rest. subst (λ (r : ℕ). get_or above r 0 ≡ r) (sym (root_up w hw)) rest) (suc v) v (omega arith) h

  pub roots_at : (v : ℕ) → v < n → get_or (roots_of above) v 0 ≡ root_of above v
  unfolding roots_of root_of up
  roots_at v h =
      let inside : v < length above = omega (arith, forest.size) in
      get_or-map (root_of above) (numbers_from (length above) 0) v 0 ∙ ap (root_of above) (number_at (length above) v inside)

  -- a root is no higher than its states
  root_low : (v : ℕ) → v < n → root_of above v ≤ v
  root_low v h =
      by_ways (λ (w : ℕ). root_of above w ≤ w) (λ w hw e. omega (arith, root_own above w e))
      (λ w hw lower rest. omega (arith, root_up w hw)) (suc v) v (omega arith) h

  -- the roots are labels
  pub roots_labelled : Labelled n (roots_of above)
  roots_labelled =
      record {
        size = roots_length above ∙ forest.size;
        low = λ v h. omega (arith, roots_at v h, root_low v h);
        own = λ v h.
            let inside : root_of above v < n = omega (arith, root_low v h) in
            ap (λ (r : ℕ). get_or (roots_of above) r 0) (roots_at v h) ∙ roots_at (root_of above v) inside
            ∙ root_own above (root_of above v) (root_root v h) ∙ sym (roots_at v h);
      }

  -- the roots as a list, by the root of each state
  pub roots_are :
      (list : List ℕ) → length list ≡ n → ((v : ℕ) → v < n → root_of above v ≡ get_or list v 0) → roots_of above ≡ list
  roots_are list size each =
      let same : length (roots_of above) ≡ n = roots_length above ∙ forest.size in
      ext_get_or 0 (roots_of above) list (same ∙ sym size)
      (λ v h. let inside : v < n = omega arith in
      roots_at v inside ∙ each v inside)

-- another forest in which each state stands below a state of the same root, and no state is a root that was none
pub same-roots :
    (n : ℕ) (above above' : List ℕ) → Forest n above → Forest n above' →
    ((v : ℕ) → v < n → root_of above (get_or above' v 0) ≡ root_of above v) →
    ((v : ℕ) → v < n → get_or above' v 0 ≡ v → get_or above v 0 ≡ v) → roots_of above' ≡ roots_of above
same-roots n above above' forest forest' same root =
    roots_are n above' forest' (roots_of above) (roots_length above ∙ forest.size)
    (λ v h. root_is n above' forest' (root_of above) (λ w hw e. root_own above w (root w hw e)) same v h
    ∙ sym (roots_at n above forest v h))

-- forests with the same list of roots have the same root of each state
pub root_kept :
    (n : ℕ) (above above' : List ℕ) → Forest n above → Forest n above' → roots_of above' ≡ roots_of above →
    (v : ℕ) → v < n → root_of above' v ≡ root_of above v
root_kept n above above' forest forest' same v h =
    sym (roots_at n above' forest' v h) ∙ ap (λ (l : List ℕ). get_or l v 0) same ∙ roots_at n above forest v h

-- a partition is a forest in which each state stands right below its root
pub flat_forest : (n : ℕ) (groups : List ℕ) → Labelled n groups → Forest n groups
flat_forest n groups labelled = record { size = labelled.size; low = labelled.low }

pub flat_roots : (n : ℕ) (groups : List ℕ) → Labelled n groups → roots_of groups ≡ groups
flat_roots n groups labelled =
    roots_are n groups (flat_forest n groups labelled) groups labelled.size
    (root_is n groups (flat_forest n groups labelled) (λ (v : ℕ). get_or groups v 0) (λ v h e. e) labelled.own)

-- one state put below another
module _ (n : ℕ) (above : List ℕ) (forest : Forest n above) (at value : ℕ) (inside : at < n) where
  at_same : get_or (set above at value) at 0 ≡ value
  at_same = get_or-set_same above at value 0 (omega (arith, forest.size))

  -- what is so of the state below its new one, and of each other below its old, is so of each below what it has now
  set_cases :
      (P : ℕ → ℕ → Type 0) → P at value → ((v : ℕ) → (v ≡ at → ⊥) → P v (get_or above v 0)) →
      (v : ℕ) → P v (get_or (set above at value) v 0)
  set_cases P here others v =
      ⊎_elim (λ e. subst (λ (w : ℕ). P w (get_or (set above at value) w 0)) (sym e) (subst (P at) (sym at_same) here))
      (λ apart. subst (P v) (sym (get_or-set_other above at v value 0 apart)) (others v apart)) (eq_dec v at)

  set-forest : value ≤ at → Forest n (set above at value)
  set-forest low =
      record {
        size = length-set above at value ∙ forest.size;
        low = set_cases (λ (v a : ℕ). v < n → a ≤ v) (λ h. low) (λ v apart. forest.low v);
      }

  -- below a lower one of the same root: the roots stay
  shorter_roots : value < at → root_of above value ≡ root_of above at → roots_of (set above at value) ≡ roots_of above
  shorter_roots low same =
      same-roots n above (set above at value) forest (set-forest (omega arith))
      (set_cases (λ (v a : ℕ). v < n → root_of above a ≡ root_of above v) (λ h. same)
      (λ v apart h. sym (root_up n above forest v h)))
      (set_cases (λ (v a : ℕ). v < n → a ≡ v → get_or above v 0 ≡ v) (λ h e. absurd (omega arith)) (λ v apart h e. e))

-- the way up from v has come to `at`, and `up` is above that; states on the way have been put higher, and every root is as it was
pub record Finding (n : ℕ) (above₀ above : List ℕ) (v at up : ℕ) : Type 0 where
  pub forest : Forest n above
  pub kept : roots_of above ≡ roots_of above₀
  pub inside : at < n
  pub up_is : up ≡ get_or above at 0
  pub same_root : root_of above₀ at ≡ root_of above₀ v

module _ (n : ℕ) (above₀ above : List ℕ) (v at up : ℕ) (finding : Finding n above₀ above v at up) where
  -- no step leads out of the forest
  pub up-inside : up < n
  up-inside = omega (arith, finding.up_is, finding.inside, finding.forest.low at finding.inside)

  -- every root is as it was
  was : Forest n above₀ → (w : ℕ) → w < n → root_of above w ≡ root_of above₀ w
  was forest₀ = root_kept n above₀ above forest₀ finding.forest finding.kept

  module _ (next : ℕ) (apart : up ≡ at → ⊥) (next-is : next ≡ get_or above up 0) where
    pub next_lower : next < at
    next_lower =
        let up-low : get_or above at 0 ≤ at = finding.forest.low at finding.inside in
        let next_low : get_or above up 0 ≤ up = finding.forest.low up up-inside in
        omega (arith, finding.up_is)

    next-root : root_of above next ≡ root_of above at
    next-root =
        ap (root_of above) next-is ∙ sym (root_up n above finding.forest up up-inside) ∙ ap (root_of above) finding.up_is
        ∙ sym (root_up n above finding.forest at finding.inside)

    -- the state is put below the second above it, and the way goes on from that one
    pub finding-next :
        (at' up' : ℕ) → Forest n above₀ → at' ≡ next → up' ≡ get_or (set above at next) at' 0 →
        Finding n above₀ (set above at next) v at' up'
    finding-next at' up' forest₀ at_is up_is =
        record {
          forest = set-forest n above finding.forest at next finding.inside (omega (arith, next_lower));
          kept = shorter_roots n above finding.forest at next finding.inside next_lower next-root ∙ finding.kept;
          inside = omega (arith, next-inside);
          up_is = up_is;
          same_root = ap (root_of above₀) at_is ∙ same;
        }
      where
        next-inside : next < n
        next-inside = omega (arith, next_lower, finding.inside)

        same : root_of above₀ next ≡ root_of above₀ v
        same = sym (was forest₀ next next-inside) ∙ next-root ∙ was forest₀ at finding.inside ∙ finding.same_root

  -- the way goes on from the state above, with nothing put higher
  pub finding_up : (up' : ℕ) → Forest n above₀ → up' ≡ get_or above up 0 → Finding n above₀ above v up up'
  finding_up up' forest₀ up_is =
      record {
        forest = finding.forest;
        kept = finding.kept;
        inside = up-inside;
        up_is = up_is;
        same_root =
            sym (was forest₀ up up-inside) ∙ ap (root_of above) finding.up_is
            ∙ sym (root_up n above finding.forest at finding.inside) ∙ was forest₀ at finding.inside ∙ finding.same_root;
      }

  -- a state above itself is the root
  pub finding_end : Forest n above₀ → v < n → up ≡ at → FoundRoot n above₀ above v at
  finding_end forest₀ inside here =
      record { forest = finding.forest; kept = finding.kept; is_root = is_root; own = own; inside = finding.inside }
    where
      own : get_or above at 0 ≡ at
      own = sym finding.up_is ∙ here

      is_root : at ≡ get_or (roots_of above₀) v 0
      is_root =
          sym (root_own above at own) ∙ was forest₀ at finding.inside ∙ finding.same_root
          ∙ sym (roots_at n above₀ forest₀ v inside)

-- root y put below root x
pub put_below :
    (n : ℕ) (above : List ℕ) (x y : ℕ) → Forest n above → y < n → x < y → get_or above x 0 ≡ x → get_or above y 0 ≡ y →
    United n x y above (set above y x)
put_below n above x y forest inside lower own_x own-y = record { forest = forest'; joined = joined }
  where
    forest' : Forest n (set above y x)
    forest' = set-forest n above forest y x inside (omega arith)

    -- a state's root after
    new-root : ℕ → ℕ
    new-root v = cond (eqb (root_of above v) y) x (root_of above v)

    x-apart : root_of above x ≡ y → ⊥
    x-apart e = omega (arith, root_own above x own_x)

    x-root : new-root x ≡ x
    x-root = sym (label_kept (root_of above x) x y x-apart) ∙ root_own above x own_x

    y-root : new-root y ≡ x
    y-root = sym (label_moved (root_of above y) x y (root_own above y own-y))

    same : (v : ℕ) → v < n → new-root (get_or (set above y x) v 0) ≡ new-root v
    same =
        set_cases n above forest y x inside (λ (v a : ℕ). v < n → new-root a ≡ new-root v) (λ h. x-root ∙ sym y-root)
        (λ v apart h. ap (λ (g : ℕ). cond (eqb g y) x g) (sym (root_up n above forest v h)))

    own : (v : ℕ) → v < n → get_or (set above y x) v 0 ≡ v → new-root v ≡ v
    own =
        set_cases n above forest y x inside (λ (v a : ℕ). v < n → a ≡ v → new-root v ≡ v) (λ h e. absurd (omega arith))
        (λ v apart h e. let root : root_of above v ≡ v = root_own above v e in
        sym (label_kept (root_of above v) x y (λ q. apart (sym root ∙ q))) ∙ root)

    joined : roots_of (set above y x) ≡ relabelled x y (roots_of above)
    joined =
        let size : length (roots_of above) ≡ n = roots_length above ∙ forest.size in
        roots_are n (set above y x) forest' (relabelled x y (roots_of above)) (relabelled-length x y (roots_of above) ∙ size)
        (λ v h. root_is n (set above y x) forest' new-root own same v h
        ∙ ap (λ (g : ℕ). cond (eqb g y) x g) (sym (roots_at n above forest v h))
        ∙ sym (relabelled-at x y v (roots_of above) (omega arith)))

-- a state's root
abbrev pub IsRoot : List ℕ → ℕ → ℕ → Type 0
IsRoot above k x = x ≡ root_of above k

-- the first v states stand right below their roots, the others as they stood
pub record Flattening (v : ℕ) (above₀ above : List ℕ) : Type 0 where
  pub filled : Filled (IsRoot above₀) v above₀ above
  pub rest : (k : ℕ) → v ≤ k → get_or above k 0 ≡ get_or above₀ k 0

module _
    (above₀ : List ℕ) (forest : Forest (length above₀) above₀) (v : ℕ) (above : List ℕ) (so_far : Flattening v above₀ above) where
  module _ (up : ℕ) (inside : v < length above₀) (up_is : up ≡ get_or above v 0) where
    -- no step leads out of the forest
    pub flattening-inside : up ≤ v
    flattening-inside = omega (arith, so_far.rest v (omega arith), forest.low v inside)

    -- what is above the state above is the root: that state had its turn, or is the root itself
    second-root : get_or above up 0 ≡ root_of above₀ v
    second-root =
        let was : up ≡ get_or above₀ v 0 = up_is ∙ so_far.rest v (omega arith) in
        ⊎_elim
        (λ e. ap (λ (k : ℕ). get_or above k 0) e ∙ sym up_is ∙ e ∙ sym (root_own above₀ v (sym was ∙ e)))
        (λ apart. so_far.filled.done up (omega (arith, flattening-inside)) ∙ ap (root_of above₀) was
        ∙ sym (root_up (length above₀) above₀ forest v inside))
        (eq_dec up v)

    pub flattening-more : (new : ℕ) → new ≡ get_or above up 0 → Flattening (v + 1) above₀ (set above v new)
    flattening-more new is =
        record {
          filled = filled_more (IsRoot above₀) v new above₀ above inside (is ∙ second-root) so_far.filled;
          rest = rest_kept above₀ above v new so_far.rest;
        }

  pub flattening_all : length above₀ ≤ v → above ≡ roots_of above₀
  flattening_all all =
      sym
      (roots_are (length above₀) above₀ forest above so_far.filled.size
      (λ k h. sym (so_far.filled.done k (omega arith))))
