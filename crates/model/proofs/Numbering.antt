-- The numbering law: the table depends on the set of nodes, the set of rows and the kernel of the partition alone, not on the
-- order of the nodes or on the groups' own numbers. Groups of the two descriptions correspond where they hold a common node;
-- arcs, first-met order, numbers and acceptance of corresponding groups agree. Assumes nothing.
use mathlib.Core.Path.{◌≡◌, refl, sym, ap₂, ◌∙◌, subst}
use mathlib.Core.Logic.{◌↔◌}
use mathlib.Core.List.Forall₂.{cons as pair}
use mathlib.Core.List.Forall₂.{nil as none}
use mathlib.Core.List.{List, [], ◌∷◌, Memᴰ as In, Forall₂ as Paired}
use Prim.Native.Nat.{ℕ}
use lib.Dec.{eqb}
use lib.ListN.{length}
use Rattle.model.specs.Classes.{Word}
use Rattle.model.specs.Tables.{Arc, arc, state}
use Rattle.model.specs.Joinings.{transition, transitions_of, group_at, Deterministic}
use Rattle.model.specs.Quotients.{arcs_out_of, met_from, met_groups, state_of, states_of}
use Rattle.base.proofs.Tests.{tells_eqb, same_tests}
use Rattle.base.proofs.Lists.{same_length}
use Rattle.model.proofs.Notions.{Tree, Fits, Inside, Ker, ◌▸◌}
use Rattle.model.proofs.Groups.{tells_accepts}
use Rattle.model.proofs.Transitions.{in_transitions, arc-node}
use Rattle.model.proofs.Arcs.{arcs_out_of-ascending, arcs_out_of-in, in_arcs_out_of}
use Rattle.model.proofs.Paired.{ArcsAgree, ascending_paired, met_from-paired, renumbered-paired, paired_map}

-- two descriptions of one partition of one tree
pub record SamePartition (rows rows' nodes nodes' : List Word) (groups groups' : List ℕ) : Type 0 where
  pub tree : Tree nodes
  pub tree' : Tree nodes'
  pub fits : Fits nodes groups
  pub fits' : Fits nodes' groups'
  pub det : Deterministic (transitions_of nodes groups)
  pub det' : Deterministic (transitions_of nodes' groups')
  pub same_nodes : (w : Word) → In w nodes ↔ In w nodes'
  pub same_rows : (r : Word) → In r rows ↔ In r rows'
  pub inside : Inside nodes groups (Ker nodes' groups')
  pub inside' : Inside nodes' groups' (Ker nodes groups)

-- the descriptions the other way round
swapped :
    {rows rows' nodes nodes' : List Word} {groups groups' : List ℕ} → SamePartition rows rows' nodes nodes' groups groups' →
    SamePartition rows' rows nodes' nodes groups' groups
swapped same =
    record {
      tree = same.tree';
      tree' = same.tree;
      fits = same.fits';
      fits' = same.fits;
      det = same.det';
      det' = same.det;
      same_nodes = λ w. ((same.same_nodes w).1, (same.same_nodes w).0);
      same_rows = λ r. ((same.same_rows r).1, (same.same_rows r).0);
      inside = same.inside';
      inside' = same.inside;
    }

-- a group of the one description and a group of the other hold a common node
record Corresponds (nodes nodes' : List Word) (groups groups' : List ℕ) (g g' : ℕ) : Type 0 where
  node : Word
  is_node : In node nodes
  is_node' : In node nodes'
  group : group_at nodes groups node ≡ g
  group' : group_at nodes' groups' node ≡ g'

-- and their groups the other way round
turned :
    {nodes nodes' : List Word} {groups groups' : List ℕ} {g g' : ℕ} → Corresponds nodes nodes' groups groups' g g' →
    Corresponds nodes' nodes groups' groups g' g
turned r = record { node = r.node; is_node = r.is_node'; is_node' = r.is_node; group = r.group'; group' = r.group }

module _
    {rows rows' nodes nodes' : List Word} {groups groups' : List ℕ} (same : SamePartition rows rows' nodes nodes' groups groups')
  where
    -- the groups of a common node correspond
    at-node :
        (w : Word) → In w nodes →
        Corresponds nodes nodes' groups groups' (group_at nodes groups w) (group_at nodes' groups' w)
    at-node w m = record { node = w; is_node = m; is_node' = (same.same_nodes w).0 m; group = refl; group' = refl }

    -- corresponding groups are one where the others are
    one_group :
        (g g' h h' : ℕ) → Corresponds nodes nodes' groups groups' g g' → Corresponds nodes nodes' groups groups' h h' →
        g ≡ h → g' ≡ h'
    one_group g g' h h' r s e =
        let k : Ker nodes' groups' r.node s.node =
        same.inside.related r.node s.node r.is_node s.is_node (r.group ∙ e ∙ sym s.group) in
        sym r.group' ∙ k.one_group ∙ s.group'

    -- an arc out of a group has one that agrees, out of the corresponding group
    arc-there :
        (g g' : ℕ) → Corresponds nodes nodes' groups groups' g g' → (a : Arc) → In a (arcs_out_of g (transitions_of nodes groups)) →
        (b : Arc) × In b (arcs_out_of g' (transitions_of nodes' groups')) × ArcsAgree (Corresponds nodes nodes' groups groups') a b
    arc-there g g' r a m =
        let x : ℕ = a.name in
        let t = arc-node nodes groups same.tree g x a.to (arcs_out_of-in g x a.to (transitions_of nodes groups) m) in
        let w : Word = t.0 in
        let end : In (w ▸ x) nodes = t.2 in
        let from' : group_at nodes' groups' w ≡ g' =
        one_group (group_at nodes groups w) (group_at nodes' groups' w) g g' (at-node w t.1) r t.3 in
        let y : ℕ = group_at nodes' groups' (w ▸ x) in
        let goes : In (transition g' x y) (transitions_of nodes' groups') =
        subst (λ (z : ℕ). In (transition z x y) (transitions_of nodes' groups')) from'
        (in_transitions nodes' groups' w x ((same.same_nodes (w ▸ x)).0 end)) in (
          arc x y,
          in_arcs_out_of g' x y (transitions_of nodes' groups') same.det' goes,
          record {
            names = refl;
            targets = subst (λ (z : ℕ). Corresponds nodes nodes' groups groups' z y) t.4 (at-node (w ▸ x) end);
          },
        )

    -- a corresponding group accepts where a group does
    accepts-there :
        (g g' : ℕ) → Corresponds nodes nodes' groups groups' g g' →
        ((w : Word) × In w nodes × (group_at nodes groups w ≡ g) × In w rows) →
        (w : Word) × In w nodes' × (group_at nodes' groups' w ≡ g') × In w rows'
    accepts-there g g' r h = (
      h.0,
      (same.same_nodes h.0).0 h.1,
      one_group (group_at nodes groups h.0) (group_at nodes' groups' h.0) g g' (at-node h.0 h.1) r h.2,
      (same.same_rows h.0).0 h.3,
    )

module _
    {rows rows' nodes nodes' : List Word} {groups groups' : List ℕ} (same : SamePartition rows rows' nodes nodes' groups groups')
  where
    -- so the tests for one group agree
    one-to-one :
        (g g' h h' : ℕ) → Corresponds nodes nodes' groups groups' g g' → Corresponds nodes nodes' groups groups' h h' →
        eqb g h ≡ eqb g' h'
    one-to-one g g' h h' r s =
        same_tests (tells_eqb g h) (tells_eqb g' h') (one_group same g g' h h' r s)
        (one_group (swapped same) g' g h' h (turned r) (turned s))

    -- the arcs of corresponding groups agree one by one
    arcs-paired :
        (g g' : ℕ) → Corresponds nodes nodes' groups groups' g g' →
        Paired (ArcsAgree (Corresponds nodes nodes' groups groups'))
        (arcs_out_of g (transitions_of nodes groups)) (arcs_out_of g' (transitions_of nodes' groups'))
    arcs-paired g g' r =
        ascending_paired 0 (arcs_out_of g (transitions_of nodes groups)) (arcs_out_of g' (transitions_of nodes' groups'))
        (arcs_out_of-ascending g (transitions_of nodes groups)) (arcs_out_of-ascending g' (transitions_of nodes' groups'))
        (arc-there same g g' r)
        (λ b m.
        let f = arc-there (swapped same) g' g (turned r) b m in
        (f.0, f.1, record { names = sym f.2.names; targets = turned f.2.targets }))

    -- corresponding groups are met in the same order
    met-paired : Paired (Corresponds nodes nodes' groups groups') (met_groups nodes groups) (met_groups nodes' groups')
    unfolding met_groups
    met-paired =
        let ts = transitions_of nodes groups in
        let ts' = transitions_of nodes' groups' in
        let start = group_at nodes groups [] ∷ [] in
        let start' = group_at nodes' groups' [] ∷ [] in
        let lengths : length nodes ≡ length nodes' =
        same_length nodes nodes' same.tree.distinct same.tree'.distinct (λ w. (same.same_nodes w).0)
        (λ w. (same.same_nodes w).1) in
        let first = met_from (length nodes) 0 ts start in
        subst (λ (n : ℕ). Paired (Corresponds nodes nodes' groups groups') first (met_from n 0 ts' start'))
        lengths
        (met_from-paired one-to-one ts ts' arcs-paired (length nodes) 0 (pair (at-node same [] same.tree.root) none))

    -- and become the same state
    state-same :
        (g g' : ℕ) → Corresponds nodes nodes' groups groups' g g' →
        state_of rows nodes groups (met_groups nodes groups) g ≡ state_of rows' nodes' groups' (met_groups nodes' groups') g'
    unfolding state_of
    state-same g g' r =
        ap₂ state
        (same_tests (tells_accepts rows nodes groups g) (tells_accepts rows' nodes' groups' g') (accepts-there same g g' r)
        (accepts-there (swapped same) g' g (turned r)))
        (renumbered-paired one-to-one met-paired (arcs-paired g g' r))

-- so the states are the same
pub numbering_law :
    (rows rows' nodes nodes' : List Word) (groups groups' : List ℕ) → SamePartition rows rows' nodes nodes' groups groups' →
    states_of rows nodes groups ≡ states_of rows' nodes' groups'
unfolding states_of
numbering_law rows rows' nodes nodes' groups groups' same =
    paired_map (state_of rows nodes groups (met_groups nodes groups)) (state_of rows' nodes' groups' (met_groups nodes' groups'))
    (state-same same) (met-paired same)
