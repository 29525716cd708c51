-- Laws of forks joined: what is closed along the arcs by the states' own numbers has no forks; and where a coarser partition has made
-- two groups one its sum is lower. Assumes nothing.
use mathlib.Core.Path.{◌≡◌, sym, ◌∙◌, subst}
use mathlib.Core.Logic.{⊎_elim}
use mathlib.Core.List.{List, [], ◌∷◌}
use Prim.Native.Nat.{ℕ, zero, suc, ◌<◌, ◌≤◌}
use native.Mathlib.Omega.{arith}
use lib.ListN.{length, get_or}
use Rattle.base.specs.Lists.{numbers_from}
use Rattle.base.proofs.Tests.{eq_dec}
use Rattle.indexed.specs.Trees.{Arrays}
use Rattle.indexed.specs.Partitions.{Refines, Labelled, KeyClosed, ForkClosed, sum}
use Rattle.indexed.proofs.Keys.{forks-keys, keys_forks}
use Rattle.indexed.proofs.Suffixes.{parent_below}
use Rattle.worklist.specs.Settling.{JoinedUntil}
use Rattle.worklist.specs.Forks.{ForksReady, Kept}
use Rattle.worklist.proofs.KindLaws.{kind_closed}
use Rattle.contexts.specs.Rounds.{ForksJoined}

-- numbers that are each no higher have no higher sum
sum_low :
    (xs ys : List ℕ) → length xs ≡ length ys → ((v : ℕ) → v < length ys → get_or xs v 0 ≤ get_or ys v 0) → sum xs ≤ sum ys
unfolding sum
sum_low [] ys size low = omega arith
sum_low (x ∷ xs) [] size low = let z : ⊥ = omega arith in absurd z
sum_low (x ∷ xs) (y ∷ ys) size low =
    let rest : sum xs ≤ sum ys = sum_low xs ys (omega arith) (λ v h. low (suc v) (omega arith)) in
    omega (arith, low 0 (omega arith))

-- and a lower sum where one of them is lower
sum_less :
    (xs ys : List ℕ) → length xs ≡ length ys → ((v : ℕ) → v < length ys → get_or xs v 0 ≤ get_or ys v 0) → (u : ℕ) → u < length ys →
    get_or xs u 0 < get_or ys u 0 → sum xs < sum ys
unfolding sum
sum_less [] ys size low u hu less = let z : ⊥ = omega arith in absurd z
sum_less (x ∷ xs) [] size low u hu less = let z : ⊥ = omega arith in absurd z
sum_less (x ∷ xs) (y ∷ ys) size low zero hu less =
    let rest : sum xs ≤ sum ys = sum_low xs ys (omega arith) (λ v h. low (suc v) (omega arith)) in
    omega arith
sum_less (x ∷ xs) (y ∷ ys) size low (suc u) hu less =
    let rest : sum xs < sum ys = sum_less xs ys (omega arith) (λ v h. low (suc v) (omega arith)) u (omega arith) less in
    omega (arith, low 0 (omega arith))

-- the labels of a coarser partition are no higher, for a label is the first state of its group
label_low :
    (n : ℕ) (groups groups' : List ℕ) → Labelled n groups → Labelled n groups' → Refines n groups groups' → (v : ℕ) → v < n →
    get_or groups' v 0 ≤ get_or groups v 0
label_low n groups groups' labelled labelled' coarser v hv =
    let hg : get_or groups v 0 < n = omega (arith, labelled.low v hv) in
    let same : get_or groups' (get_or groups v 0) 0 ≡ get_or groups' v 0 = coarser (get_or groups v 0) v hg hv (labelled.own v hv) in
    omega (arith, labelled'.low (get_or groups v 0) hg)

-- so where two groups have become one the sum is lower
pub coarser_less :
    (n : ℕ) (groups groups' : List ℕ) → Labelled n groups → Labelled n groups' → Refines n groups groups' → (x y : ℕ) → x < n →
    y < n → (get_or groups x 0 ≡ get_or groups y 0 → ⊥) → get_or groups' x 0 ≡ get_or groups' y 0 → sum groups' < sum groups
coarser_less n groups groups' labelled labelled' coarser x y hx hy apart one =
    ⊎_elim (λ same-x. less y hy (lower y hy (λ same-y. apart (sym same-x ∙ one ∙ same-y)))) (λ other-x. less x hx (lower x hx other-x))
    (eq_dec (get_or groups' x 0) (get_or groups x 0))
  where
    low : (v : ℕ) → v < n → get_or groups' v 0 ≤ get_or groups v 0
    low = label_low n groups groups' labelled labelled' coarser

    lower : (v : ℕ) → v < n → (get_or groups' v 0 ≡ get_or groups v 0 → ⊥) → get_or groups' v 0 < get_or groups v 0
    lower v hv other = omega (arith, low v hv)

    less : (v : ℕ) → v < n → get_or groups' v 0 < get_or groups v 0 → sum groups' < sum groups
    less v hv strict =
        sum_less groups' groups (labelled'.size ∙ sym labelled.size) (λ u hu. low u (omega (arith, labelled.size))) v
        (omega (arith, labelled.size)) strict

module _ (n : ℕ) (parents names numbers : List ℕ) (arrays : Arrays n parents names) (own : numbers ≡ numbers_from n 0) where
  -- what closing forks needs
  pub forks-ready : ForksReady n parents names numbers
  forks-ready =
      record {
        few = arrays.few_states;
        parents_size = arrays.parents_size;
        names_size = arrays.names_size;
        parents_below = parent_below n parents names arrays;
        own = own;
      }

  -- a partition without forks is closed along the arcs
  pub forks-closed : (others : List ℕ) → ForkClosed n parents names others → KeyClosed n parents numbers names others
  forks-closed others closed =
      subst (λ (l : List ℕ). KeyClosed n parents l names others) (sym own) (forks-keys n parents names others arrays closed)

  -- what is joined until closed is forks joined
  pub forks-joined :
      (groups groups' : List ℕ) → JoinedUntil (KeyClosed n parents numbers names) n groups groups' →
      ForksJoined n parents names groups groups'
  forks-joined groups groups' joined =
      record {
        labelled = joined.labelled;
        coarser = joined.coarser;
        sound = λ others closed refines. joined.sound others (forks-closed others closed) refines;
        closed =
            keys_forks n parents names groups' arrays
            (subst (λ (l : List ℕ). KeyClosed n parents l names groups') own joined.closed);
      }

  -- kept lists are of a partition without forks
  pub kept-forks :
      (groups links heads firsts seconds : List ℕ) (tail : ℕ) →
      Kept n parents names numbers groups links heads firsts seconds tail → ForkClosed n parents names groups
  kept-forks groups links heads firsts seconds tail kept =
      keys_forks n parents names groups arrays
      (subst (λ (l : List ℕ). KeyClosed n parents l names groups) own
      (kind_closed kept.kind tt kept.labelled (parent_below n parents names arrays) arrays.few_states))
