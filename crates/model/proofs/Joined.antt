-- Full joinings of a book's prefix tree, in any order and from any book with the same set of rows: they lie inside one another,
-- so they have one table. And the joining law, by which a program may join in batches and in any order. Assumes nothing.
use mathlib.Core.Path.{◌≡◌, sym, ◌∙◌, subst}
use mathlib.Core.Logic.{◌↔◌}
use mathlib.Core.Bool.{true, false, and-eq-true_iff}
use mathlib.Core.List.{List, [], ◌∷◌, Memᴰ as In}
use Prim.Native.Nat.{ℕ}
use lib.Dec.{eqb}
use Rattle.model.specs.Fields.{Class}
use Rattle.model.specs.Classes.{Word}
use Rattle.model.specs.Joinings.{transitions_of, tree_of, apart, Step, is_full, Deterministic}
use Rattle.model.specs.Joinings.{after_steps, all_open, is_full_joining, joined_groups}
use Rattle.model.specs.Quotients.{states_of}
use Rattle.model.proofs.Notions.{Tree, Fits, Ways, OneContext, Closed, Inside, Ker, SameF, ◌▸◌}
use Rattle.model.proofs.Groups.{apart_fits}
use Rattle.model.proofs.Transitions.{arc-node}
use Rattle.model.proofs.Sound.{sound, after-fits, apart-inside}
use Rattle.model.proofs.Complete.{ker_closed, full_deterministic}
use Rattle.model.proofs.Functions.{same_f_closed}
use Rattle.model.proofs.Trees.{tree_of-tree, same_nodes}
use Rattle.model.proofs.Ends.{joined_is_full_joining}
use Rattle.model.proofs.Numbering.{numbering_law}

-- ---- closed relations do not see the order of nodes and rows

module _ (R : Word → Word → Type 0) (nodes nodes' : List Word) (there' : (w : Word) → In w nodes → In w nodes') where
  -- ways, contexts and closure hold with any nodes that hold these
  pub ways_there : (p u w : Word) → Ways nodes R u p w → Ways nodes' R u p w
  ways_there [] u w f = f
  ways_there (a ∷ p) u w f =
      (f.0, there' f.0 f.1, f.2, there' (f.0 ▸ a) f.3, ways_there p (f.0 ▸ a) w f.4)

  pub context_there : (c : Class) (u w : Word) → OneContext c nodes R u w → OneContext c nodes' R u w
  context_there c u w x =
      record {
        p = x.p;
        q = x.q;
        low = x.low;
        size = x.size;
        from_u = x.from_u;
        from_w = x.from_w;
        to_u = x.to_u;
        to_w = x.to_w;
        from_u_node = there' x.from_u x.from_u_node;
        from_w_node = there' x.from_w x.from_w_node;
        u_node = there' u x.u_node;
        w_node = there' w x.w_node;
        to_u_node = there' x.to_u x.to_u_node;
        to_w_node = there' x.to_w x.to_w_node;
        into_u = ways_there x.p x.from_u u x.into_u;
        into_w = ways_there x.p x.from_w w x.into_w;
        out_of_u = ways_there x.q u x.to_u x.out_of_u;
        out_of_w = ways_there x.q w x.to_w x.out_of_w;
      }

-- a relation closed for more nodes and rows is closed for these
pub closed_there :
    (c : Class) (rows rows' nodes nodes' : List Word) (R : Word → Word → Type 0) → ((w : Word) → In w nodes → In w nodes') →
    ((r : Word) → In r rows → In r rows') → Closed c rows' nodes' R → Closed c rows nodes R
closed_there c rows rows' nodes nodes' R n r closed =
    record {
      reflexive = λ u m. closed.reflexive u (n u m);
      symmetric = closed.symmetric;
      transitive = closed.transitive;
      fork = λ u w a e m m'. closed.fork u w a e (n (u ▸ a) m) (n (w ▸ a) m');
      context = λ k u w x. closed.context k u w (context_there R nodes nodes' n c u w x);
      ends = λ k u w x y e mu mw mx my p q rx ry.
          closed.ends k u w x y e (n u mu) (n w mw) (n x mx) (n y my) p q (r x rx) (r y ry);
      back = λ k u w x y a e mu mw mx my p q ma mb z.
          closed.back k u w x y a e (n u mu) (n w mw) (n x mx) (n y my) p q (n (x ▸ a) ma) (n (y ▸ a) mb) z;
    }

-- ---- full joinings

-- what a full joining of the prefix tree of the rows leaves
pub record Joined (c : Class) (rows : List Word) (groups : List ℕ) : Type 1 where
  pub fits : Fits (tree_of rows) groups
  pub full : is_full c rows (tree_of rows) groups ≡ true
  pub inside : (R : Word → Word → Type 0) → Closed c rows (tree_of rows) R → Inside (tree_of rows) groups R

-- every full joining leaves such groups
pub joining_joined :
    (c : Class) (rows : List Word) (steps : List Step) → is_full_joining c rows steps ≡ true →
    Joined c rows (after_steps (apart (tree_of rows)) steps)
unfolding is_full_joining
joining_joined c rows steps e =
    let nodes = tree_of rows in
    let start : Fits nodes (apart nodes) = apart_fits nodes in
    let parts =
    (and-eq-true_iff (all_open c rows nodes (apart nodes) steps) (is_full c rows nodes (after_steps (apart nodes) steps))).0 e in
    record {
      fits = after-fits nodes (apart nodes) steps start;
      full = parts.1;
      inside = λ R closed.
          sound c rows nodes R (tree_of-tree rows) closed (apart nodes) steps start parts.0
          (apart-inside c rows nodes R closed);
    }

-- and so does the one that defines the table
pub joined_groups-joined : (c : Class) (rows : List Word) → Joined c rows (joined_groups c rows)
joined_groups-joined c rows =
    let j = joined_is_full_joining c rows in
    subst (λ (gs : List ℕ). Joined c rows gs) j.2 (joining_joined c rows j.0 j.1)

module _ (c : Class) (rows : List Word) (groups : List ℕ) (joined : Joined c rows groups) where
  -- members of a group have the same f
  pub members_agree : eqb c.kind 0 ≡ false → Inside (tree_of rows) groups (SameF c)
  members_agree kind = joined.inside (SameF c) (same_f_closed c rows (tree_of rows) kind)

  -- its kernel is closed
  pub joined_closed : Closed c rows (tree_of rows) (Ker (tree_of rows) groups)
  joined_closed = ker_closed c rows (tree_of rows) groups (tree_of-tree rows) joined.fits joined.full members_agree

  -- its automaton is deterministic
  pub joined_deterministic : Deterministic (transitions_of (tree_of rows) groups)
  joined_deterministic = full_deterministic c rows (tree_of rows) groups (tree_of-tree rows) joined.fits joined.full

-- two full joinings, of books with the same set of rows, have the same states
pub joined_states :
    (c : Class) (rows rows' : List Word) (groups groups' : List ℕ) → ((r : Word) → In r rows ↔ In r rows') →
    Joined c rows groups → Joined c rows' groups' →
    states_of rows (tree_of rows) groups ≡ states_of rows' (tree_of rows') groups'
joined_states c rows rows' groups groups' same j j' =
    let nodes = tree_of rows in
    let nodes' = tree_of rows' in
    let go : (w : Word) → In w nodes → In w nodes' = same_nodes rows rows' (λ r. (same r).0) in
    let back : (w : Word) → In w nodes' → In w nodes = same_nodes rows' rows (λ r. (same r).1) in
    numbering_law rows rows' nodes nodes' groups groups'
    (record {
      tree = tree_of-tree rows;
      tree' = tree_of-tree rows';
      fits = j.fits;
      fits' = j'.fits;
      det = joined_deterministic c rows groups j;
      det' = joined_deterministic c rows' groups' j';
      same_nodes = λ w. (go w, back w);
      same_rows = same;
      inside =
          j.inside (Ker nodes' groups')
          (closed_there c rows rows' nodes nodes' (Ker nodes' groups') go (λ r. (same r).0) (joined_closed c rows' groups' j'));
      inside' =
          j'.inside (Ker nodes groups)
          (closed_there c rows' rows nodes' nodes (Ker nodes groups) back (λ r. (same r).1) (joined_closed c rows groups j));
    })

-- ---- the joining law

-- a partition whose kernel is closed has a deterministic automaton
pub closed_deterministic :
    (c : Class) (rows nodes : List Word) (groups : List ℕ) → Tree nodes → Closed c rows nodes (Ker nodes groups) →
    Deterministic (transitions_of nodes groups)
closed_deterministic c rows nodes groups tree closed x a y z m n =
    let s = arc-node nodes groups tree x a y m in
    let t = arc-node nodes groups tree x a z n in
    let one : Ker nodes groups s.0 t.0 =
    record { left_node = s.1; right_node = t.1; one_group = s.3 ∙ sym t.3 } in
    sym s.4 ∙ (closed.fork s.0 t.0 a one s.2 t.2).one_group ∙ t.4

-- a partition that lies inside the joined one, and is itself closed, has the joined one's states: whatever order its joins
-- were found in, and however its nodes are listed
pub joining_law :
    (c : Class) (rows nodes : List Word) (groups : List ℕ) → Tree nodes → Fits nodes groups →
    ((w : Word) → In w nodes ↔ In w (tree_of rows)) → Inside nodes groups (Ker (tree_of rows) (joined_groups c rows)) →
    Closed c rows nodes (Ker nodes groups) →
    states_of rows nodes groups ≡ states_of rows (tree_of rows) (joined_groups c rows)
joining_law c rows nodes groups tree fits same inside closed =
    let j = joined_groups-joined c rows in
    numbering_law rows rows nodes (tree_of rows) groups (joined_groups c rows)
    (record {
      tree = tree;
      tree' = tree_of-tree rows;
      fits = fits;
      fits' = j.fits;
      det = closed_deterministic c rows nodes groups tree closed;
      det' = joined_deterministic c rows (joined_groups c rows) j;
      same_nodes = same;
      same_rows = λ r. (λ m. m, λ m. m);
      inside = inside;
      inside' =
          j.inside (Ker nodes groups)
          (closed_there c rows rows (tree_of rows) nodes (Ker nodes groups) (λ w. (same w).1) (λ r m. m) closed);
    })
