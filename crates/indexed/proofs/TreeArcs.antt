-- The arcs between groups by state number: each comes from a tree arc, each tree arc gives one, and no group has two of one name. Assumes
-- nothing.
use mathlib.Core.Path.{◌≡◌, sym, ap, ap₂, ◌∙◌}
use mathlib.Core.List.Memᴰ
use mathlib.Core.List.{List, [], Memᴰ as In}
use Prim.Native.Nat.{ℕ, ◌<◌, ◌≤◌}
use native.Mathlib.Omega.{arith}
use lib.ListN.{length, get_or}
use Rattle.base.specs.Limits.{name_limit, state_limit}
use Rattle.model.specs.Classes.{Word}
use Rattle.model.specs.Joinings.{transition, tree_of, transitions_of, group_at, Deterministic}
use Rattle.model.proofs.Notions.{Fits}
use Rattle.model.proofs.Transitions.{in_transitions, arc-node}
use Rattle.model.proofs.Trees.{tree_of-tree}
use Rattle.indexed.specs.Trees.{word_at}
use Rattle.indexed.specs.Partitions.{Labelled, Joined}
use Rattle.indexed.proofs.Words.{number_of, root_word, group_at-number}
use Rattle.indexed.proofs.Kernels.{arc-into, arc-number, parent_below}

-- a tree arc, by the number of the state that it leads to, from group x by name a to group y
pub record TreeArc (n : ℕ) (parents names groups : List ℕ) (x a y : ℕ) : Type 0 where
  pub number : ℕ
  pub not_root : 0 < number
  pub low : number < n
  pub from_is : get_or groups (get_or parents number 0) 0 ≡ x
  pub name_is : get_or names number 0 ≡ a
  pub to_is : get_or groups number 0 ≡ y

pub labels_fit : (rows : List Word) (groups : List ℕ) → Labelled (length (tree_of rows)) groups → Fits (tree_of rows) groups
labels_fit rows groups labels = record { lengths = labels.size }

-- a label is below the number of states
pub label_low : {n : ℕ} {groups : List ℕ} → Labelled n groups → (v : ℕ) → v < n → get_or groups v 0 < n
label_low labels v h = omega (arith, labels.low v h)

-- the root's group
pub root_group :
    (rows : List Word) (groups : List ℕ) → Labelled (length (tree_of rows)) groups → 0 < length (tree_of rows) →
    group_at (tree_of rows) groups [] ≡ get_or groups 0 0
root_group rows groups labels some =
    ap (group_at (tree_of rows) groups) (sym (root_word rows)) ∙ group_at-number rows groups 0 (labels_fit rows groups labels) some

pub tree_some : (rows : List Word) → 0 < length (tree_of rows)
tree_some rows = let r = number_of rows [] (tree_of-tree rows).root in omega (arith, r.1)

-- what a pass reads at the arc to v stands in the arrays, and is in range
pub record ArcHere (parents names groups : List ℕ) (v : ℕ) : Type 0 where
  pub few : length groups ≤ state_limit
  pub inside : v < length groups
  pub in_parents : v < length parents
  pub in_names : v < length names
  pub parent_below : get_or parents v 0 < length groups
  pub from_below : get_or groups (get_or parents v 0) 0 < length groups
  pub into_below : get_or groups v 0 < length groups
  pub name_below : get_or names v 0 < name_limit

module _ (rows : List Word) (parents names groups : List ℕ) (joined : Joined rows parents names groups) where
  fits : Fits (tree_of rows) groups
  fits = labels_fit rows groups joined.labels

  pub transition-number :
      (x a y : ℕ) → In (transition x a y) (transitions_of (tree_of rows) groups) →
      TreeArc (length (tree_of rows)) parents names groups x a y
  transition-number x a y m =
      let node = arc-node (tree_of rows) groups (tree_of-tree rows) x a y m in
      let r = arc-number rows parents names joined.tree node.0 a node.2 in
      record {
        number = r.number;
        not_root = r.not_root;
        low = r.low;
        from_is =
            sym (group_at-number rows groups (get_or parents r.number 0) fits r.parent_low)
            ∙ ap (group_at (tree_of rows) groups) r.from_word ∙ node.3;
        name_is = r.by_name;
        to_is =
            sym (group_at-number rows groups r.number fits r.low) ∙ ap (group_at (tree_of rows) groups) r.is_word ∙ node.4;
      }

  pub number-transition :
      (v : ℕ) → 0 < v → v < length (tree_of rows) →
      In (transition (get_or groups (get_or parents v 0) 0) (get_or names v 0) (get_or groups v 0)) (transitions_of (tree_of rows) groups)
  number-transition v pos low =
      let p = get_or parents v 0 in
      let a = get_or names v 0 in
      let below = parent_below rows parents names joined.tree v pos low in
      Memᴰ.cast
      (ap₂ (λ (x y : ℕ). transition x a y)
      (sym (group_at-number rows groups p fits below))
      (sym (group_at-number rows groups v fits low) ∙ ap (group_at (tree_of rows) groups) (joined.tree.word v pos low)))
      (in_transitions (tree_of rows) groups (word_at rows p) a (arc-into rows parents names joined.tree v pos low))

  pub one_target : Deterministic (transitions_of (tree_of rows) groups)
  one_target x a y z m k =
      let r = transition-number x a y m in
      let s = transition-number x a z k in
      sym r.to_is
      ∙ joined.forks r.number s.number r.not_root s.not_root r.low s.low
      (r.name_is ∙ sym s.name_is) (r.from_is ∙ sym s.from_is)
      ∙ s.to_is

  -- where the arc into a state goes from, and what its name is, fits
  pub from_low : (v : ℕ) → 0 < v → v < length groups → get_or groups (get_or parents v 0) 0 < length groups
  from_low v pos h =
      let size : length groups ≡ length (tree_of rows) = joined.labels.size in
      let below : get_or parents v 0 < v = joined.tree.parent_before v pos (omega arith) in
      omega (arith, label_low joined.labels (get_or parents v 0) (omega arith))

  pub name_low : (v : ℕ) → 0 < v → v < length groups → get_or names v 0 < name_limit
  name_low v pos h =
      let size : length groups ≡ length (tree_of rows) = joined.labels.size in
      joined.tree.name_below v pos (omega arith)

  pub arc-here : (v : ℕ) → 0 < v → v < length groups → ArcHere parents names groups v
  arc-here v pos h =
      let size = joined.labels.size in
      record {
        few = omega (arith, joined.few);
        inside = h;
        in_parents = omega (arith, joined.tree.parents_size);
        in_names = omega (arith, joined.tree.names_size);
        parent_below = omega (arith, joined.tree.parent_before v pos (omega arith));
        from_below = from_low v pos h;
        into_below = omega (arith, label_low joined.labels v (omega arith));
        name_below = name_low v pos h;
      }
