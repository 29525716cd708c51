-- Every joining stays inside every closed relation that its start lies in: arcs and walks between groups as arcs and ways
-- between their nodes, then what each rule joins, then one merge, then all the steps. Assumes nothing.
use mathlib.Core.Path.{◌≡◌, sym, ◌∙◌, subst, subst₂}
use mathlib.Core.Logic.{◌⊎◌, inl, inr}
use mathlib.Core.Bool.{true, false, and-eq-true_iff}
use mathlib.Core.List.{List, [], ◌∷◌, Memᴰ as In}
use Prim.Native.Nat.{ℕ}
use lib.Dec.{eqb}
use Rattle.model.specs.Fields.{Class}
use Rattle.model.specs.Classes.{Word}
use Rattle.model.specs.Joinings.{transition, transitions_of, apart, group_at, merged, member_of, group_accepts, f_of_group}
use Rattle.model.specs.Joinings.{Step, is_open, after_steps, all_open}
use Rattle.model.proofs.Notions.{Tree, Fits, Walks, Ways, OneContext, Closed, Inside, ◌▸◌}
use Rattle.model.proofs.Groups.{apart-single, merged-fits, group_at-merged, merged_to-cases, member_of_lem, tells_accepts}
use Rattle.model.proofs.Transitions.{arc-node}
use Rattle.model.proofs.Rules.{Ruled, forked, by_context_fact, by_ends, by_back, TwoPaths, tells_open}

-- a node of the group
pub record Member (nodes : List Word) (groups : List ℕ) (g : ℕ) : Type 0 where
  pub node : Word
  pub is_node : In node nodes
  pub its_group : group_at nodes groups node ≡ g

-- every group has a node
group_member :
    (nodes : List Word) (groups : List ℕ) → Tree nodes → Fits nodes groups → (g : ℕ) → In g groups →
    Member nodes groups g
group_member nodes groups tree fits g m =
    let r = member_of_lem nodes groups g tree.distinct fits m in
    record { node = member_of nodes groups g; is_node = r.0; its_group = r.1 }

-- a walk from the group of a node ends at the group of a node
walk-member :
    (nodes : List Word) (groups : List ℕ) → Tree nodes → (p : Word) (x y : ℕ) → Member nodes groups x →
    Walks (transitions_of nodes groups) x p y → Member nodes groups y
walk-member nodes groups tree [] x y u f = subst (λ (g : ℕ). Member nodes groups g) f u
walk-member nodes groups tree (a ∷ p) x y u f =
    let r = arc-node nodes groups tree x a f.0 f.1 in
    walk-member nodes groups tree p f.0 y (record { node = r.0 ▸ a; is_node = r.2; its_group = r.4 }) f.2

-- a walk between the groups of two nodes is a way between the nodes
pub walks_ways :
    (nodes : List Word) (groups : List ℕ) (R : Word → Word → Type 0) → Tree nodes → Inside nodes groups R →
    (p u w : Word) → In u nodes → In w nodes →
    Walks (transitions_of nodes groups) (group_at nodes groups u) p (group_at nodes groups w) → Ways nodes R u p w
walks_ways nodes groups R tree inside [] u w m n f = inside.related u w m n f
walks_ways nodes groups R tree inside (a ∷ p) u w m n f =
    let r = arc-node nodes groups tree (group_at nodes groups u) a f.0 f.1 in
    let rest : Walks (transitions_of nodes groups) (group_at nodes groups (r.0 ▸ a)) p (group_at nodes groups w) =
    subst (λ (z : ℕ). Walks (transitions_of nodes groups) z p (group_at nodes groups w)) (sym r.4) f.2 in
    let first : R u r.0 = inside.related u r.0 m r.1 (sym r.3) in
    (r.0, r.1, first, r.2, walks_ways nodes groups R tree inside p (r.0 ▸ a) w r.2 n rest)

-- the same with the ends' groups named
ways_between :
    (nodes : List Word) (groups : List ℕ) (R : Word → Word → Type 0) → Tree nodes → Inside nodes groups R →
    (p : Word) (x y : ℕ) (u : Member nodes groups x) (w : Member nodes groups y) →
    Walks (transitions_of nodes groups) x p y → Ways nodes R u.node p w.node
ways_between nodes groups R tree inside p x y u w f =
    walks_ways nodes groups R tree inside p u.node w.node u.is_node w.is_node
    (subst₂ (λ (i j : ℕ). Walks (transitions_of nodes groups) i p j) (sym u.its_group) (sym w.its_group) f)

-- what is shown of two groups that a rule joins: they have related members
abbrev pub Related : List Word → List ℕ → (Word → Word → Type 0) → ℕ → ℕ → Type 0
Related nodes groups R x y =
    (u w : Word) × In u nodes × In w nodes × (group_at nodes groups u ≡ x) × (group_at nodes groups w ≡ y) × R u w

module _ (c : Class) (rows nodes : List Word) (groups : List ℕ) (R : Word → Word → Type 0) (tree : Tree nodes)
    (fits : Fits nodes groups) (closed : Closed c rows nodes R) (inside : Inside nodes groups R) (x y : ℕ) where
  -- joined by arcs of one name from one group
  forked-related :
      (g a : ℕ) → In (transition g a x) (transitions_of nodes groups) → In (transition g a y) (transitions_of nodes groups) →
      Related nodes groups R x y
  forked-related g a s t =
      let u = arc-node nodes groups tree g a x s in
      let w = arc-node nodes groups tree g a y t in
      let from : R u.0 w.0 = inside.related u.0 w.0 u.1 w.1 (u.3 ∙ sym w.3) in
      (u.0 ▸ a, w.0 ▸ a, u.2, w.2, u.4, w.4, closed.fork u.0 w.0 a from u.2 w.2)

  -- joined by paths of one context
  context_related :
      eqb c.kind 0 ≡ true → In x groups → In y groups →
      TwoPaths c.first c.second (transitions_of nodes groups) groups x y → Related nodes groups R x y
  context_related kind m n two =
      let u = group_member nodes groups tree fits x m in
      let w = group_member nodes groups tree fits y n in
      let from_u = group_member nodes groups tree fits two.from_x two.from_x_in in
      let from_w = group_member nodes groups tree fits two.from_y two.from_y_in in
      let to_u = walk-member nodes groups tree two.q x two.to_x u two.out_of_x in
      let to_w = walk-member nodes groups tree two.q y two.to_y w two.out_of_y in
      let one : OneContext c nodes R u.node w.node =
      record {
        p = two.p;
        q = two.q;
        low = two.low;
        size = two.size;
        from_u = from_u.node;
        from_w = from_w.node;
        to_u = to_u.node;
        to_w = to_w.node;
        from_u_node = from_u.is_node;
        from_w_node = from_w.is_node;
        u_node = u.is_node;
        w_node = w.is_node;
        to_u_node = to_u.is_node;
        to_w_node = to_w.is_node;
        into_u = ways_between nodes groups R tree inside two.p two.from_x x from_u u two.into_x;
        into_w = ways_between nodes groups R tree inside two.p two.from_y y from_w w two.into_y;
        out_of_u = ways_between nodes groups R tree inside two.q x two.to_x u to_u two.out_of_x;
        out_of_w = ways_between nodes groups R tree inside two.q y two.to_y w to_w two.out_of_y;
      } in
      (u.node, w.node, u.is_node, w.is_node, u.its_group, w.its_group, closed.context kind u.node w.node one)

  -- joined by equal f, where both accept
  ends-related :
      eqb c.kind 0 ≡ false → In x groups → In y groups → f_of_group c nodes groups x ≡ f_of_group c nodes groups y →
      group_accepts rows nodes groups x ≡ true → group_accepts rows nodes groups y ≡ true → Related nodes groups R x y
  unfolding f_of_group
  ends-related kind m n same_f s t =
      let u = member_of_lem nodes groups x tree.distinct fits m in
      let w = member_of_lem nodes groups y tree.distinct fits n in
      let first = member_of nodes groups x in
      let other = member_of nodes groups y in
      let r = (tells_accepts rows nodes groups x).fact s in
      let q = (tells_accepts rows nodes groups y).fact t in
      let near : R first r.0 = inside.related first r.0 u.0 r.1 (u.1 ∙ sym r.2) in
      let far : R other q.0 = inside.related other q.0 w.0 q.1 (w.1 ∙ sym q.2) in (
        first,
        other,
        u.0,
        w.0,
        u.1,
        w.1,
        closed.ends kind first other r.0 q.0 same_f u.0 w.0 r.1 q.1 near far r.3 q.3,
      )

  -- joined by equal f, where one name leads from both into one group
  back-related :
      eqb c.kind 0 ≡ false → In x groups → In y groups → f_of_group c nodes groups x ≡ f_of_group c nodes groups y →
      (a g : ℕ) → In (transition x a g) (transitions_of nodes groups) → In (transition y a g) (transitions_of nodes groups) →
      Related nodes groups R x y
  unfolding f_of_group
  back-related kind m n same_f a g s t =
      let u = member_of_lem nodes groups x tree.distinct fits m in
      let w = member_of_lem nodes groups y tree.distinct fits n in
      let first = member_of nodes groups x in
      let other = member_of nodes groups y in
      let r = arc-node nodes groups tree x a g s in
      let q = arc-node nodes groups tree y a g t in
      let near : R first r.0 = inside.related first r.0 u.0 r.1 (u.1 ∙ sym r.3) in
      let far : R other q.0 = inside.related other q.0 w.0 q.1 (w.1 ∙ sym q.3) in
      let after : R (r.0 ▸ a) (q.0 ▸ a) = inside.related (r.0 ▸ a) (q.0 ▸ a) r.2 q.2 (r.4 ∙ sym q.4) in (
        first,
        other,
        u.0,
        w.0,
        u.1,
        w.1,
        closed.back kind first other r.0 q.0 a same_f u.0 w.0 r.1 q.1 near far r.2 q.2 after,
      )

-- two groups that a rule joins have related members
pub ruled_related :
    (c : Class) (rows nodes : List Word) (groups : List ℕ) (R : Word → Word → Type 0) → Tree nodes → Fits nodes groups →
    Closed c rows nodes R → Inside nodes groups R → (x y : ℕ) → In x groups → In y groups → Ruled c rows nodes groups x y →
    Related nodes groups R x y
ruled_related c rows nodes groups R tree fits closed inside x y m n (forked g a s t) =
    forked-related c rows nodes groups R tree fits closed inside x y g a s t
ruled_related c rows nodes groups R tree fits closed inside x y m n (by_context_fact kind two) =
    context_related c rows nodes groups R tree fits closed inside x y kind m n two
ruled_related c rows nodes groups R tree fits closed inside x y m n (by_ends kind same_f s t) =
    ends-related c rows nodes groups R tree fits closed inside x y kind m n same_f s t
ruled_related c rows nodes groups R tree fits closed inside x y m n (by_back kind same_f a g s t) =
    back-related c rows nodes groups R tree fits closed inside x y kind m n same_f a g s t

-- two groups with related members made one
pub merged-inside :
    (c : Class) (rows nodes : List Word) (groups : List ℕ) (R : Word → Word → Type 0) → Fits nodes groups →
    Closed c rows nodes R → Inside nodes groups R → (x y : ℕ) (u w : Word) → In u nodes → In w nodes →
    group_at nodes groups u ≡ x → group_at nodes groups w ≡ y → R u w → Inside nodes (merged x y groups) R
merged-inside c rows nodes groups R fits closed inside x y u w m n gu gw ruw = record { related = kept }
  where
    OfTwo : Word → Type 0
    OfTwo s = (group_at nodes groups s ≡ x) ⊎ (group_at nodes groups s ≡ y)

    -- the members of both are related to u
    to_u : (s : Word) → In s nodes → OfTwo s → R s u
    to_u s k (inl e) = inside.related s u k m (e ∙ sym gu)
    to_u s k (inr e) = closed.transitive s w u (inside.related s w k n (e ∙ sym gw)) (closed.symmetric u w ruw)

    by_cases :
        (s t : Word) → In s nodes → In t nodes →
        (group_at nodes groups s ≡ group_at nodes groups t)
        ⊎ (OfTwo s × OfTwo t) → R s t
    by_cases s t k l (inl e) = inside.related s t k l e
    by_cases s t k l (inr b) = closed.transitive s u t (to_u s k b.0) (closed.symmetric t u (to_u t l b.1))

    kept :
        (s t : Word) → In s nodes → In t nodes →
        group_at nodes (merged x y groups) s ≡ group_at nodes (merged x y groups) t → R s t
    kept s t k l e =
        by_cases s t k l
        (merged_to-cases x y (group_at nodes groups s) (group_at nodes groups t)
        (sym (group_at-merged nodes groups x y s fits k) ∙ e ∙ group_at-merged nodes groups x y t fits l))

-- the groups after the steps are still one for each node
pub after-fits :
    (nodes : List Word) (groups : List ℕ) (steps : List Step) → Fits nodes groups → Fits nodes (after_steps groups steps)
unfolding after_steps
after-fits nodes groups [] fits = fits
after-fits nodes groups (s ∷ steps) fits =
    after-fits nodes (merged s.left s.right groups) steps (merged-fits nodes groups s.left s.right fits)

-- what the steps make one is related
pub sound :
    (c : Class) (rows nodes : List Word) (R : Word → Word → Type 0) → Tree nodes → Closed c rows nodes R →
    (groups : List ℕ) (steps : List Step) → Fits nodes groups → all_open c rows nodes groups steps ≡ true →
    Inside nodes groups R → Inside nodes (after_steps groups steps) R
unfolding after_steps all_open
sound c rows nodes R tree closed groups [] fits opened inside = inside
sound c rows nodes R tree closed groups (s ∷ steps) fits opened inside =
    let next = merged s.left s.right groups in
    let both = (and-eq-true_iff (is_open c rows nodes groups s) (all_open c rows nodes next steps)).0 opened in
    let o = (tells_open c rows nodes groups s.left s.right).fact both.0 in
    let r =
    ruled_related c rows nodes groups R tree fits closed inside s.left s.right o.left_in o.right_in o.ruled in
    sound c rows nodes R tree closed next steps (merged-fits nodes groups s.left s.right fits) both.1
    (merged-inside c rows nodes groups R fits closed inside s.left s.right r.0 r.1 r.2 r.3 r.4 r.5 r.6)

-- the start lies inside every closed relation
pub apart-inside :
    (c : Class) (rows nodes : List Word) (R : Word → Word → Type 0) → Closed c rows nodes R → Inside nodes (apart nodes) R
apart-inside c rows nodes R closed =
    record { related = λ u w m n e. subst (λ (v : Word). R u v) (apart-single nodes u w m n e) (closed.reflexive u m) }
