-- What the words of the prefix tree do in the table of a full joining: each reaches the state of its group, and each state is reached by
-- one of them. Assumes nothing.
use mathlib.Core.Path.{◌≡◌, sym, ap, ◌∙◌, subst}
use mathlib.Core.List.{List, [], Memᴰ as In}
use Prim.Native.Nat.{ℕ, ◌+◌, ◌<◌}
use native.Mathlib.Omega.{arith}
use lib.ListN.{length, get_or}
use Rattle.base.specs.Lists.{index_in}
use Rattle.base.proofs.Places.{nth_in, index_of_nth}
use Rattle.model.specs.Fields.{Class}
use Rattle.model.specs.Classes.{Word}
use Rattle.model.specs.Tables.{State, walk_at, walk_from}
use Rattle.model.specs.Joinings.{Transition, tree_of, group_at, member_of, transitions_of, Deterministic}
use Rattle.model.specs.Quotients.{met_groups, states_of}
use Rattle.model.specs.Sources.{Reaches}
use Rattle.model.proofs.Groups.{member_of_lem}
use Rattle.model.proofs.Transitions.{walks_unique, walks_down}
use Rattle.model.proofs.Trees.{tree_of-tree}
use Rattle.model.proofs.FirstMet.{met-distinct, root_met, met-root, met-in, states-length}
use Rattle.model.proofs.Admits.{Walked, all_taken, stopped, walked}
use Rattle.model.proofs.Joined.{Joined, joined_deterministic}

module _ (c : Class) (rows : List Word) (groups : List ℕ) (joined : Joined c rows groups) where
  -- the prefix tree, the groups met, the arcs and the states
  abbrev nodes : List Word
  nodes = tree_of rows

  abbrev met : List ℕ
  met = met_groups nodes groups

  abbrev ts : List Transition
  ts = transitions_of nodes groups

  abbrev states : List State
  states = states_of rows nodes groups

  -- its automaton is deterministic
  det : Deterministic ts
  det = joined_deterministic c rows groups joined

  -- a word of the tree reaches the state of its group
  pub node_reaches : (w : Word) → In w nodes → Reaches states 0 w (index_in (group_at nodes groups w) met)
  node_reaches w m = go (walked rows nodes groups (tree_of-tree rows) joined.fits det w root 0 root-is-met)
    where
      root : ℕ
      root = group_at nodes groups []

      root-is-met : In root met
      root-is-met = root_met nodes groups (tree_of-tree rows) joined.fits

      go : Walked ts states met root 0 w → Reaches states 0 w (index_in (group_at nodes groups w) met)
      go (all_taken y by_word_lem there e) =
          let group : y ≡ group_at nodes groups w =
          walks_unique ts det root y (group_at nodes groups w) w by_word_lem (walks_down nodes groups (tree_of-tree rows) [] w m) in
          let all : 0 + length w ≡ length w = omega arith in
          record {
            walked =
                ap (λ (q : ℕ). walk_from states q 0 w) (sym (met-root nodes groups (tree_of-tree rows) joined.fits))
                ∙ e ∙ ap (λ (g : ℕ). walk_at (index_in g met) (0 + length w)) group
                ∙ ap (walk_at (index_in (group_at nodes groups w) met)) all;
          }
      go (stopped none few) = absurd (none (group_at nodes groups w) (walks_down nodes groups (tree_of-tree rows) [] w m))

  -- a state is that of a group met, and a member of this group reaches it
  pub state-node : (q : ℕ) → q < length states → (w : Word) × In w nodes × Reaches states 0 w q
  state-node q low =
      let size : length states ≡ length met = states-length nodes groups (tree_of-tree rows) joined.fits rows in
      let below : q < length met = omega arith in
      let g : ℕ = get_or met q 0 in
      let place : index_in g met ≡ q = index_of_nth met q (met-distinct nodes groups (tree_of-tree rows) joined.fits) below in
      let group : In g groups = met-in nodes groups (tree_of-tree rows) joined.fits g (nth_in 0 met q below) in
      let member = member_of_lem nodes groups g (tree_of-tree rows).distinct joined.fits group in
      let w : Word = member_of nodes groups g in (
        w,
        member.0,
        subst (λ (k : ℕ). Reaches states 0 w k) (ap (λ (k : ℕ). index_in k met) member.1 ∙ place)
            (node_reaches w member.0),
      )
