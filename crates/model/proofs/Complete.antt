-- The kernel of a full joining is closed under the class's rules, and its automaton is deterministic: ways modulo the kernel
-- as walks between groups, f of a group, then each rule. Assumes nothing.
use mathlib.Core.Path.{◌≡◌, refl, sym, ◌∙◌, subst}
use mathlib.Core.Bool.{true, false}
use mathlib.Core.List.{List, [], ◌∷◌, Memᴰ as In}
use Prim.Native.Nat.{ℕ}
use lib.Dec.{eqb}
use Rattle.model.specs.Fields.{Class}
use Rattle.model.specs.Classes.{Word, f_of}
use Rattle.model.specs.Joinings.{transition, transitions_of, group_at, member_of, f_of_group, is_full, Deterministic}
use Rattle.model.proofs.Notions.{Tree, Fits, Walks, Ways, OneContext, Closed, Inside, Ker, SameF, ◌▸◌}
use Rattle.model.proofs.Groups.{group_in, member_of_lem, tells_accepts}
use Rattle.model.proofs.Transitions.{in_transitions, target_in_lem}
use Rattle.model.proofs.Rules.{Ruled, forked, by_context_fact, by_ends, by_back, TwoPaths, full_equal}

-- an arc of a related node leaves the node's own group
arc-from :
    (nodes : List Word) (groups : List ℕ) (u v : Word) (a : ℕ) →
    group_at nodes groups u ≡ group_at nodes groups v → In (v ▸ a) nodes →
    In (transition (group_at nodes groups u) a (group_at nodes groups (v ▸ a))) (transitions_of nodes groups)
arc-from nodes groups u v a e m =
    subst (λ (g : ℕ). In (transition g a (group_at nodes groups (v ▸ a))) (transitions_of nodes groups)) (sym e)
    (in_transitions nodes groups v a m)

-- a way modulo one group is a walk between the groups
pub ways_walks :
    (nodes : List Word) (groups : List ℕ) (p u w : Word) → Ways nodes (Ker nodes groups) u p w →
    Walks (transitions_of nodes groups) (group_at nodes groups u) p (group_at nodes groups w)
ways_walks nodes groups [] u w f = f.one_group
ways_walks nodes groups (a ∷ p) u w f =
    let v = f.0 in
    let first = arc-from nodes groups u v a f.2.one_group f.3 in
    (group_at nodes groups (v ▸ a), first, ways_walks nodes groups p (v ▸ a) w f.4)

-- members of a group agree with its f
pub group_f :
    (c : Class) (nodes : List Word) (groups : List ℕ) → Tree nodes → Fits nodes groups → Inside nodes groups (SameF c) →
    (u : Word) → In u nodes → f_of_group c nodes groups (group_at nodes groups u) ≡ f_of c u
unfolding f_of_group
group_f c nodes groups tree fits agree u m =
    let g = group_at nodes groups u in
    let r = member_of_lem nodes groups g tree.distinct fits (group_in nodes groups u fits m) in
    (agree.related (member_of nodes groups g) u r.0 m r.1).same_f

-- in a full joining no two arcs of one name leave one group
pub full_deterministic :
    (c : Class) (rows nodes : List Word) (groups : List ℕ) → Tree nodes → Fits nodes groups →
    is_full c rows nodes groups ≡ true → Deterministic (transitions_of nodes groups)
full_deterministic c rows nodes groups tree fits full x a y z m n =
    full_equal c rows nodes groups full y z (target_in_lem nodes groups fits x a y m) (target_in_lem nodes groups fits x a z n)
    (forked x a m n)

module _ (c : Class) (rows nodes : List Word) (groups : List ℕ) (fits : Fits nodes groups)
    (full : is_full c rows nodes groups ≡ true) where
  -- nodes whose groups a rule joins are of one group already
  ruled-ker :
      (u w : Word) → In u nodes → In w nodes → Ruled c rows nodes groups (group_at nodes groups u) (group_at nodes groups w) →
      Ker nodes groups u w
  ruled-ker u w m n r =
      record {
        left_node = m;
        right_node = n;
        one_group =
            full_equal c rows nodes groups full (group_at nodes groups u) (group_at nodes groups w) (group_in nodes groups u fits m)
            (group_in nodes groups w fits n) r;
      }

  -- the rules one by one: forks, contexts, and by f ends and ways back
  ker_fork :
      (u w : Word) (a : ℕ) → Ker nodes groups u w → In (u ▸ a) nodes → In (w ▸ a) nodes → Ker nodes groups (u ▸ a) (w ▸ a)
  ker_fork u w a k m n =
      ruled-ker (u ▸ a) (w ▸ a) m n
      (forked (group_at nodes groups u) a (in_transitions nodes groups u a m) (arc-from nodes groups u w a k.one_group n))

  ker_context : eqb c.kind 0 ≡ true → (u w : Word) → OneContext c nodes (Ker nodes groups) u w → Ker nodes groups u w
  ker_context kind u w one =
      let x = group_at nodes groups u in
      let y = group_at nodes groups w in
      let two : TwoPaths c.first c.second (transitions_of nodes groups) groups x y =
      record {
        p = one.p;
        q = one.q;
        low = one.low;
        size = one.size;
        from_x = group_at nodes groups one.from_u;
        from_y = group_at nodes groups one.from_w;
        to_x = group_at nodes groups one.to_u;
        to_y = group_at nodes groups one.to_w;
        from_x_in = group_in nodes groups one.from_u fits one.from_u_node;
        from_y_in = group_in nodes groups one.from_w fits one.from_w_node;
        into_x = ways_walks nodes groups one.p one.from_u u one.into_u;
        into_y = ways_walks nodes groups one.p one.from_w w one.into_w;
        out_of_x = ways_walks nodes groups one.q u one.to_u one.out_of_u;
        out_of_y = ways_walks nodes groups one.q w one.to_w one.out_of_w;
      } in
      ruled-ker u w one.u_node one.w_node (by_context_fact kind two)

  module _ (tree : Tree nodes) (kind : eqb c.kind 0 ≡ false) (agree : Inside nodes groups (SameF c)) (u w r s : Word)
      (same_f : f_of c u ≡ f_of c w) (m : In u nodes) (n : In w nodes) (ur : Ker nodes groups u r) (ws : Ker nodes groups w s) where
    groups-f : f_of_group c nodes groups (group_at nodes groups u) ≡ f_of_group c nodes groups (group_at nodes groups w)
    groups-f = group_f c nodes groups tree fits agree u m ∙ same_f ∙ sym (group_f c nodes groups tree fits agree w n)

    ker_ends : In r rows → In s rows → Ker nodes groups u w
    ker_ends k l =
        ruled-ker u w m n
        (by_ends kind groups-f
        ((tells_accepts rows nodes groups (group_at nodes groups u)).test (r, ur.right_node, sym ur.one_group, k))
        ((tells_accepts rows nodes groups (group_at nodes groups w)).test (s, ws.right_node, sym ws.one_group, l)))

    ker_back : (a : ℕ) → In (r ▸ a) nodes → In (s ▸ a) nodes → Ker nodes groups (r ▸ a) (s ▸ a) → Ker nodes groups u w
    ker_back a k l after =
        let arc-w : In (transition (group_at nodes groups w) a (group_at nodes groups (r ▸ a))) (transitions_of nodes groups) =
        subst (λ (g : ℕ). In (transition (group_at nodes groups w) a g) (transitions_of nodes groups)) (sym after.one_group)
        (arc-from nodes groups w s a ws.one_group l) in
        ruled-ker u w m n
        (by_back kind groups-f a (group_at nodes groups (r ▸ a)) (arc-from nodes groups u r a ur.one_group k) arc-w)

-- so the kernel of a full joining is closed
pub ker_closed :
    (c : Class) (rows nodes : List Word) (groups : List ℕ) → Tree nodes → Fits nodes groups →
    is_full c rows nodes groups ≡ true → (eqb c.kind 0 ≡ false → Inside nodes groups (SameF c)) →
    Closed c rows nodes (Ker nodes groups)
ker_closed c rows nodes groups tree fits full agree =
    record {
      reflexive = λ u m. record { left_node = m; right_node = m; one_group = refl };
      symmetric = λ u w k. record { left_node = k.right_node; right_node = k.left_node; one_group = sym k.one_group };
      transitive = λ u v w k l.
          record { left_node = k.left_node; right_node = l.right_node; one_group = k.one_group ∙ l.one_group };
      fork = ker_fork c rows nodes groups fits full;
      context = ker_context c rows nodes groups fits full;
      ends = λ kind u w r s same_f m n k l ur ws.
          ker_ends c rows nodes groups fits full tree kind (agree kind) u w r s same_f m n ur ws;
      back = λ kind u w r s a same_f m n k l ur ws.
          ker_back c rows nodes groups fits full tree kind (agree kind) u w r s same_f m n ur ws a;
    }
