-- Laws of the search on two lists of arcs: both are followed by ascending name, and every pair of arcs of one name after which
-- enough names can be walked is still to come; at the end of a list there is none. Assumes nothing.
use mathlib.Core.Path.{◌≡◌, refl, sym, ap, ◌∙◌, subst, subst₂}
use mathlib.Core.Logic.{◌⊎◌, ⊎_elim}
use mathlib.Core.List.{List}
use Prim.Native.Nat.{ℕ, zero, suc, ◌+◌, ◌<◌, ◌≤◌}
use native.Mathlib.Omega.{arith}
use lib.ListN.{get_or}
use Rattle.base.specs.Limits.{state_limit}
use Rattle.base.proofs.Tests.{le_or_lt}
use Rattle.indexed.specs.Trees.{Arrays}
use Rattle.indexed.specs.Partitions.{Share}
use Rattle.base.proofs.Places.{number_at}
use Rattle.worklist.specs.Lists.{Next, Sorted}
use Rattle.worklist.specs.Forks.{ForkLists}
use Rattle.worklist.specs.Searches.{Past, ShareAfter}
use Rattle.worklist.proofs.ListLaws.{same_at, left, next_after, follow_less}

-- only the groups of two states tell whether names can be walked in common
pub share_groups :
    (n : ℕ) (parents names groups : List ℕ) (j v w v' w' : ℕ) → get_or groups v 0 ≡ get_or groups v' 0 →
    get_or groups w 0 ≡ get_or groups w' 0 → Share n parents names groups j v w → Share n parents names groups j v' w'
share_groups n parents names groups zero v w v' w' e f share = tt
share_groups n parents names groups (suc j) v w v' w' e f (x, y, hx, hy, ix, iy, name, from_x, from_y, share) =
    (x, y, hx, hy, ix, iy, name, from_x ∙ e, from_y ∙ f, share)

-- no name can be walked in any case
pub share_none : (n : ℕ) (parents names groups : List ℕ) (j v w : ℕ) → j ≡ 0 → Share n parents names groups j v w
share_none n parents names groups zero v w none = tt
share_none n parents names groups (suc j) v w none = absurd (omega arith)

-- the next arc from k on is the next from a higher name on that it reaches
next_later :
    (n : ℕ) (keys rows : List ℕ) (g k k' at : ℕ) → k ≤ k' → ((u : ℕ) → at ≡ suc u → k' ≤ get_or keys u 0) →
    Next n keys rows g k at → Next n keys rows g k' at
next_later n keys rows g k k' at higher reached next =
    record {
      none = λ e u inside listed from. next.none e u inside listed (omega arith);
      inside = next.inside;
      listed = next.listed;
      reached = reached;
      least = λ u w is inside listed from. next.least u w is inside listed (omega arith);
    }

-- one list followed past a name
module _
    {n : ℕ} {names rows links heads : List ℕ} {g : ℕ} (sorted : Sorted n names rows links heads) (low : g < state_limit)
    {k u name at : ℕ} (next : Next n names rows g k (suc u)) (past : Past names links u name at) where
  -- its next arc above m, where m is the name of the arc passed, or lower than that of the arc not passed
  past_next :
      (m : ℕ) → k ≤ m → (get_or names u 0 ≤ name → get_or names u 0 ≡ m) → (name < get_or names u 0 → m < get_or names u 0) →
      Next n names rows g (suc m) at
  past_next m above here later =
      ⊎_elim
      (λ (lower : get_or names u 0 ≤ name).
      subst (λ (i : ℕ). Next n names rows g (suc i) at) (here lower)
      (next_after sorted low u at (next.inside u refl) (next.listed u refl) (past.passed lower)))
      (λ (higher : name < get_or names u 0). subst (Next n names rows g (suc m)) (sym (past.stays higher))
      (next_later n names rows g k (suc m) (suc u) (omega arith)
      (λ v is. omega (arith, same_at names u v (omega arith), later higher)) next))
      (le_or_lt (get_or names u 0) name)

  -- the end is no farther, and nearer past the arc
  past_less : get_or names u 0 ≤ name → left names at < left names (suc u)
  past_less lower = follow_less sorted low u (suc u) at refl (next.inside u refl) (next.listed u refl) (past.passed lower)

  past_left : left names at ≤ left names (suc u)
  past_left =
      ⊎_elim (λ (lower : get_or names u 0 ≤ name). omega (arith, past_less lower))
      (λ (higher : name < get_or names u 0). omega (arith, ap (left names) (past.stays higher))) (le_or_lt (get_or names u 0) name)

-- lists x and y followed up to one name: each pair of arcs of theirs that has one name, after which i names can be walked, is still to
-- come
pub record Walking (n : ℕ) (parents names groups rows : List ℕ) (i x y p q : ℕ) : Type 0 where
  pub from : ℕ
  pub first : Next n names rows x from p
  pub second : Next n names rows y from q
  pub rest :
      (c d : ℕ) → c < n → d < n → get_or rows c 0 ≡ x → get_or rows d 0 ≡ y → ShareAfter n parents names groups i c d →
      from ≤ get_or names c 0

-- an arc of list g that stands for arc v: it has its name, and leads into its group
record StandsFor (n : ℕ) (names groups rows : List ℕ) (g v : ℕ) : Type 0 where
  arc : ℕ
  inside : arc < n
  listed : get_or rows arc 0 ≡ g
  named : get_or names arc 0 ≡ get_or names v 0
  one : get_or groups v 0 ≡ get_or groups arc 0

module _
    {n : ℕ} {parents names groups links heads : List ℕ} (lists : ForkLists n parents names groups links heads) (i : ℕ)
    {x y : ℕ} (x-low : x < state_limit) (y-low : y < state_limit) where
  module _
      {p q : ℕ} (walking : Walking n parents names groups lists.rows i x y p q) {u w : ℕ} (p-is : p ≡ suc u) (q-is : q ≡ suc w)
      {p' q' : ℕ} (past-u : Past names links u (get_or names w 0) p') (past-w : Past names links w (get_or names u 0) q') where
    at-u : Next n names lists.rows x walking.from (suc u)
    at-u = subst (Next n names lists.rows x walking.from) p-is walking.first

    at-w : Next n names lists.rows y walking.from (suc w)
    at-w = subst (Next n names lists.rows y walking.from) q-is walking.second

    -- a pair of a name no higher than both is these two arcs
    only-pair :
        (c d : ℕ) → c < n → d < n → get_or lists.rows c 0 ≡ x → get_or lists.rows d 0 ≡ y →
        get_or names c 0 ≤ get_or names u 0 → get_or names d 0 ≤ get_or names w 0 → ShareAfter n parents names groups i c d →
        ShareAfter n parents names groups i u w
    only-pair c d hc hd in-x in-y low-c low-d after =
        subst₂ (ShareAfter n parents names groups i)
        (lists.kind.sorted.single c u hc (at-u.inside u refl) (omega arith) (in-x ∙ sym (at-u.listed u refl))
        (omega (arith, at-u.least u c refl hc in-x due)))
        (lists.kind.sorted.single d w hd (at-w.inside w refl) (omega arith) (in-y ∙ sym (at-w.listed w refl))
        (omega (arith, at-w.least w d refl hd in-y (omega (arith, due, after.alike))))) after
      where
        due : walking.from ≤ get_or names c 0
        due = walking.rest c d hc hd in-x in-y after

    -- past the lower of both names, where the two arcs are no such pair
    walking-past :
        (ShareAfter n parents names groups i u w → ⊥) → (m : ℕ) → walking.from ≤ m → m ≤ get_or names u 0 → m ≤ get_or names w 0 →
        (get_or names u 0 ≤ get_or names w 0 → get_or names u 0 ≡ m) → (get_or names w 0 ≤ get_or names u 0 → get_or names w 0 ≡ m) →
        Walking n parents names groups lists.rows i x y p' q'
    walking-past apart m above low-u low-w is-u is-w =
        record {
          from = suc m;
          first = past_next sorted x-low at-u past-u m above is-u (λ higher. omega (arith, is-w (omega arith)));
          second = past_next sorted y-low at-w past-w m above is-w (λ higher. omega (arith, is-u (omega arith)));
          rest = λ c d hc hd in-x in-y after.
              ⊎_elim
              (λ (passed : get_or names c 0 ≤ m).
              absurd (apart (only-pair c d hc hd in-x in-y (omega arith) (omega (arith, after.alike)) after)))
              (λ (later : m < get_or names c 0). omega arith) (le_or_lt (get_or names c 0) m);
        }
      where
        sorted : Sorted n names lists.rows links heads
        sorted = lists.kind.sorted

    pub walking_on :
        (ShareAfter n parents names groups i u w → ⊥) → Walking n parents names groups lists.rows i x y p' q'
    walking_on apart =
        ⊎_elim
        (λ (le : get_or names u 0 ≤ get_or names w 0).
        walking-past apart (get_or names u 0) (at-u.reached u refl) (omega arith) le (λ h. refl) (λ h. omega arith))
        (λ (gt : get_or names w 0 < get_or names u 0).
        walking-past apart (get_or names w 0) (at-w.reached w refl) (omega arith) (omega arith) (λ h. absurd (omega arith))
        (λ h. refl))
        (le_or_lt (get_or names u 0) (get_or names w 0))

    pub walking-less : left names p' + left names q' < left names p + left names q
    walking-less =
        ⊎_elim
        (λ (le : get_or names u 0 ≤ get_or names w 0).
        omega (arith, past_less sorted x-low at-u past-u le, past_left sorted y-low at-w past-w, same-p, same-q))
        (λ (gt : get_or names w 0 < get_or names u 0).
        omega (arith, past_left sorted x-low at-u past-u, past_less sorted y-low at-w past-w (omega arith), same-p, same-q))
        (le_or_lt (get_or names u 0) (get_or names w 0))
      where
        sorted : Sorted n names lists.rows links heads
        sorted = lists.kind.sorted

        same-p : left names p ≡ left names (suc u)
        same-p = ap (left names) p-is

        same-q : left names q ≡ left names (suc w)
        same-q = ap (left names) q-is

  module _
      (arrays : Arrays n parents names) (x-root : get_or groups x 0 ≡ x) (y-root : get_or groups y 0 ≡ y) {p q : ℕ}
      (walking : Walking n parents names groups lists.rows i x y p q) where
    -- a listed arc is not the state 0, and leads out of the group of its list
    arc-of : (g u : ℕ) → g < state_limit → get_or groups g 0 ≡ g → u < n → get_or lists.rows u 0 ≡ g →
        (0 < u) × (get_or groups (get_or parents u 0) 0 ≡ get_or groups g 0)
    arc-of g zero low root inside listed =
        absurd (omega (arith, arrays.root_name, lists.kind.sorted.keyed 0 inside (omega arith)))
    arc-of g (suc u) low root inside listed =
        (omega arith, sym (lists.kind.placed (suc u) inside (omega arith)) ∙ listed ∙ sym root)

    -- two arcs that the walk has come to
    pub walking-found :
        (u w : ℕ) → p ≡ suc u → q ≡ suc w → ShareAfter n parents names groups i u w → Share n parents names groups (suc i) x y
    walking-found u w p-is q-is after =
        let hu = walking.first.inside u p-is in
        let hw = walking.second.inside w q-is in
        let from_x = arc-of x u x-low x-root hu (walking.first.listed u p-is) in
        let from_y = arc-of y w y-low y-root hw (walking.second.listed w q-is) in
        (u, w, from_x.0, from_y.0, hu, hw, after.alike, from_x.1, from_y.1, after.share)

    -- the listed arc that stands for an arc out of a group
    stands :
        (g v : ℕ) → get_or groups g 0 ≡ g → 0 < v → v < n → get_or groups (get_or parents v 0) 0 ≡ get_or groups g 0 →
        StandsFor n names groups lists.rows g v
    stands g v root above inside from =
        let covered = lists.kind.covers v inside (arrays.name_below v above inside) in
        record {
          arc = covered.arc;
          inside = covered.inside;
          listed = covered.listed ∙ from ∙ root;
          named = covered.keyed;
          one =
              sym (same_at groups _ _ (number_at n v inside)) ∙ sym (covered.one groups (λ c d hc hd e. e) tt)
              ∙ same_at groups _ _ (number_at n covered.arc covered.inside);
        }

    -- at the end of either list there is no pair left
    pub walking-none : (p ≡ 0) ⊎ (q ≡ 0) → Share n parents names groups (suc i) x y → ⊥
    walking-none end (v, z, v_above, z-above, hv, hz, alike, from_x, from_y, share) =
        let for-v : StandsFor n names groups lists.rows x v = stands x v x-root v_above hv from_x in
        let for-z : StandsFor n names groups lists.rows y z = stands y z y-root z-above hz from_y in
        let c = for-v.arc in
        let d = for-z.arc in
        let same : get_or names c 0 ≡ get_or names d 0 = for-v.named ∙ alike ∙ sym for-z.named in
        let due : walking.from ≤ get_or names c 0 =
        walking.rest c d for-v.inside for-z.inside for-v.listed for-z.listed
        (record { alike = same; share = share_groups n parents names groups i v z c d for-v.one for-z.one share }) in
        ⊎_elim (λ (none : p ≡ 0). walking.first.none none c for-v.inside for-v.listed due)
        (λ (none : q ≡ 0). walking.second.none none d for-z.inside for-z.listed (omega (arith, due, same))) end
