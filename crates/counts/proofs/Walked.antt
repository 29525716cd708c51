-- The counts by the prefix tree are those by walking: where a row's walk over a partition's table ends, and which arcs it passes. Assumes
-- nothing.
use mathlib.Core.Path.{◌≡◌, refl, sym, ap, ap₂, ◌∙◌}
use mathlib.Core.Bool.{Bool, ◌&&◌}
use mathlib.Core.List.Memᴰ
use mathlib.Core.List.{List, [], ◌∷◌, ◌++◌, append-nil, append_assoc, Memᴰ as In}
use Prim.Native.Nat.{ℕ, suc, ◌+◌}
use native.Mathlib.Omega.{arith}
use lib.Dec.{eqb}
use lib.ListN.{length, get_or}
use Rattle.base.specs.Limits.{when}
use Rattle.base.specs.Lists.{total, how_many, index_in}
use Rattle.base.proofs.Tests.{tells_eqb, same_tests}
use Rattle.base.proofs.Places.{nth_of_index}
use Rattle.base.proofs.Totals.{total-same, total-flat_map}
use Rattle.model.specs.Classes.{Word}
use Rattle.model.specs.Tables.{State, empty_state, target_in, Walk, walk_at, walk, walk_from}
use Rattle.model.specs.Joinings.{Transition, tree_of, group_at, transitions_of, Deterministic}
use Rattle.model.specs.Quotients.{met_groups, states_of}
use Rattle.model.specs.Sources.{Reaches}
use Rattle.model.proofs.Notions.{Fits, Walks, ◌▸◌}
use Rattle.model.proofs.Groups.{group_in}
use Rattle.model.proofs.Trees.{row_node, tree_of-tree}
use Rattle.model.proofs.Transitions.{beginning_in, walks_down, walks_unique}
use Rattle.model.proofs.FirstMet.{met-root, all-met}
use Rattle.model.proofs.Admits.{Walked, all_taken, stopped, walked}
use Rattle.model.proofs.TableWalks.{reaches_steps}
use Rattle.indexed.specs.Trees.{TreeArrays}
use Rattle.indexed.specs.Partitions.{Labelled}
use Rattle.indexed.proofs.Words.{group_at-number}
use Rattle.indexed.proofs.Kernels.{parent_below}
use Rattle.indexed.proofs.TreeArcs.{labels_fit}
use Rattle.counts.specs.Counts.{steps_from, trail, ends_at, passes_of}
use Rattle.counts.specs.TreeCounts.{group_ends, arc_passes_below, arc_passes}
use Rattle.counts.proofs.Beginnings.{passing, passing-same, arcs_sum}
use Rattle.counts.proofs.Steps.{steps_go}
use Rattle.counts.proofs.GroupSums.{ends-by_rows}

-- different elements have different places
same_index : (xs : List ℕ) (x y : ℕ) → In x xs → In y xs → eqb (index_in x xs) (index_in y xs) ≡ eqb x y
same_index xs x y m n =
    same_tests (tells_eqb (index_in x xs) (index_in y xs)) (tells_eqb x y)
    (λ e. sym (nth_of_index xs x m).1 ∙ ap (λ (i : ℕ). get_or xs i 0) e ∙ (nth_of_index xs y n).1)
    (λ e. ap (λ (z : ℕ). index_in z xs) e)

module _
    (rows : List Word) (groups : List ℕ) (labels : Labelled (length (tree_of rows)) groups)
    (det : Deterministic (transitions_of (tree_of rows) groups)) where
  -- the partition has a group for each state
  fits : Fits (tree_of rows) groups
  fits = labels_fit rows groups labels

  -- the states of its table
  abbrev states : List State
  states = states_of rows (tree_of rows) groups

  -- the groups in the order in which they are met
  abbrev met : List ℕ
  met = met_groups (tree_of rows) groups

  -- the group of a word
  abbrev group_of : Word → ℕ
  group_of w = group_at (tree_of rows) groups w

  -- a state's group is met
  group_met : (w : Word) → In w (tree_of rows) → In (group_of w) met
  group_met w m =
      all-met (tree_of rows) groups (tree_of-tree rows) fits det (group_of w) (group_in (tree_of rows) groups w fits m)

  -- the walk from a node's state by the names to a further node takes them all and ends in the state of its group
  walked-down :
      (u p : Word) → In u (tree_of rows) → In (u ++ p) (tree_of rows) →
      Reaches states (index_in (group_of u) met) p (index_in (group_of (u ++ p)) met)
  walked-down u p m n = go (walked rows (tree_of rows) groups (tree_of-tree rows) fits det p (group_of u) 0 (group_met u m))
    where
      ts : List Transition
      ts = transitions_of (tree_of rows) groups

      down : Walks ts (group_of u) p (group_of (u ++ p))
      down = walks_down (tree_of rows) groups (tree_of-tree rows) u p n

      go : Walked ts states met (group_of u) 0 p → Reaches states (index_in (group_of u) met) p (index_in (group_of (u ++ p)) met)
      go (all_taken y way k e) =
          let all : 0 + length p ≡ length p = omega arith in
          let there = walks_unique ts det (group_of u) y (group_of (u ++ p)) p way down in
          record { walked = e ∙ ap₂ (λ (g n : ℕ). walk_at (index_in g met) n) there all }
      go (stopped none few) = absurd (none (group_of (u ++ p)) down)

  -- the walk of a state's word ends in the state of its group
  walk_ends :
      (w : Word) → In w (tree_of rows) → (walk states w).at_state ≡ index_in (group_of w) met
  unfolding walk
  walk_ends w m =
      ap (λ (q : ℕ). (walk_from states q 0 w).at_state)
      (sym (met-root (tree_of rows) groups (tree_of-tree rows) fits))
      ∙ ap (λ (v : Walk). v.at_state) (walked-down [] w (tree_of-tree rows).root m).walked

  -- the rows that end in a group's state
  pub group_ends_lem :
      (g : ℕ) → In g (met_groups (tree_of rows) groups) →
      ends_at (states_of rows (tree_of rows) groups) rows (index_in g (met_groups (tree_of rows) groups)) ≡ group_ends rows groups g
  unfolding ends_at
  group_ends_lem g m =
      total-same (λ (row : Word). when (eqb (walk states row).at_state (index_in g met)) 1)
      (λ (row : Word). when (eqb (group_of row) g) 1) rows
      (λ row k.
      let node = row_node rows row k in
      ap (λ (b : Bool). when b 1)
      (ap (λ (q : ℕ). eqb q (index_in g met)) (walk_ends row node) ∙ same_index met (group_of row) g (group_met row node) m))
      ∙ sym (ends-by_rows rows groups labels g)

  -- the arc from a node's state by a name to a further node
  arc-down :
      (u : Word) (x : ℕ) → In (u ▸ x) (tree_of rows) →
      target_in x (get_or states (index_in (group_of u) met) empty_state).arcs
      ≡ suc (index_in (group_of (u ▸ x)) met)
  arc-down u x m =
      let s = reaches_steps states (index_in (group_of u) met) (index_in (group_of (u ▸ x)) met) (x ∷ [])
      (walked-down u (x ∷ []) ((tree_of-tree rows).parent u x m) m) in
      s.1 ∙ ap suc s.2

  -- the arc leaves the group's state by the name
  leaves : ℕ → ℕ → Transition → Bool
  leaves g a s = eqb s.from (index_in g met) && eqb s.name a

  -- the arcs that a row passes from a node on are those of the tree, between the groups of their ends
  row_passes :
      (g a : ℕ) → In g met → (u r : Word) → In (u ++ r) (tree_of rows) →
      how_many (leaves g a) (steps_from states (index_in (group_of u) met) r)
      ≡ passing (λ (w : Word) (b : ℕ). eqb (group_of (u ++ w)) g && eqb b a) r
  unfolding steps_from passing total leaves
  row_passes g a m u [] n = refl
  row_passes g a m u (x ∷ r) n =
      let further : In ((u ▸ x) ++ r) (tree_of rows) = Memᴰ.cast (append_assoc u (x ∷ []) r) n in
      let next = beginning_in (tree_of rows) (tree_of-tree rows) (u ▸ x) r further in
      let start = group_met u ((tree_of-tree rows).parent u x next) in
      ap (how_many (leaves g a))
      (steps_go states (index_in (group_of u) met) x r (index_in (group_of (u ▸ x)) met) (arc-down u x next))
      ∙ ap₂ (λ (b : Bool) (k : ℕ). when (b && eqb x a) 1 + k)
      (same_index met (group_of u) g start m ∙ ap (λ (w : Word). eqb (group_of w) g) (sym (append-nil u)))
      (row_passes g a m (u ▸ x) r further
      ∙ passing-same (λ (w : Word) (b : ℕ). eqb (group_of ((u ▸ x) ++ w)) g && eqb b a)
      (λ (w : Word) (b : ℕ). eqb (group_of (u ++ (x ∷ w))) g && eqb b a)
      (λ w b. ap (λ (v : Word). eqb (group_of v) g && eqb b a) (append_assoc u (x ∷ []) w)) r)

  -- the passes of an arc out of a group's state
  pub arc-passes :
      (parents names : List ℕ) → TreeArrays rows parents names → (g a : ℕ) → In g (met_groups (tree_of rows) groups) →
      passes_of (states_of rows (tree_of rows) groups) rows (index_in g (met_groups (tree_of rows) groups)) a
      ≡ arc_passes rows parents names groups g a
  unfolding passes_of trail arc_passes_below leaves
  arc-passes parents names tree g a m =
      total-flat_map (λ (s : Transition). when (leaves g a s) 1) (steps_from states 0) rows
      ∙ total-same (λ (row : Word). how_many (leaves g a) (steps_from states 0 row)) (passing out) rows
      (λ row k.
      ap (λ (q : ℕ). how_many (leaves g a) (steps_from states q row)) (sym (met-root (tree_of rows) groups (tree_of-tree rows) fits))
      ∙ row_passes g a m [] row (row_node rows row k))
      ∙ sym (arcs_sum rows parents names tree numbered out
      (λ v pos h. ap (λ (k : ℕ). eqb k g && eqb (get_or names v 0) a)
      (sym (group_at-number rows groups (get_or parents v 0) fits (parent_below rows parents names tree v pos h)))))
    where
      out : Word → ℕ → Bool
      out w b = eqb (group_of w) g && eqb b a

      numbered : ℕ → Bool
      numbered v = eqb (get_or groups (get_or parents v 0) 0) g && eqb (get_or names v 0) a
