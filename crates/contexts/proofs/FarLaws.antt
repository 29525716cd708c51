-- Laws of what a sweep can leave out: names in common that lead through groups which have not grown since an earlier partition
-- could be walked in that one already; what was compared by it stays joined; and what the climbs join is what states by themselves would
-- have compared. Assumes nothing.
use mathlib.Core.Path.{◌≡◌, refl, sym, ap, ◌∙◌, subst, subst₂}
use mathlib.Core.Logic.{inl, inr}
use mathlib.Core.List.{List}
use Prim.Native.Nat.{ℕ, zero, suc, ◌+◌, ◌<◌, ◌≤◌}
use native.Mathlib.Omega.{arith}
use lib.ListN.{get_or}
use Rattle.base.specs.Lists.{numbers_from}
use Rattle.indexed.specs.Trees.{Arrays, SameSuffix, up}
use Rattle.indexed.specs.Partitions.{Refines, Share, ContextClosed}
use Rattle.indexed.specs.Passes.{BySuffix}
use Rattle.base.proofs.Places.{number_at}
use Rattle.indexed.proofs.Suffixes.{parent_below, up-parent, suffix_cast}
use Rattle.contexts.specs.Climbs.{ClimbedBelow}
use Rattle.contexts.specs.Distances.{Tested, Spread, SpreadAt, distance_of}
use Rattle.contexts.proofs.ClimbLaws.{climbs-steps}

module _ {n j : ℕ} {parents before groups dist : List ℕ} (spread : Spread n j parents before groups dist) where
  -- states of a group that has not grown were in one group
  alike_before :
      (u v : ℕ) → u < n → v < n → get_or groups u 0 ≡ get_or groups v 0 → 0 < distance_of groups dist v →
      get_or before u 0 ≡ get_or before v 0
  alike_before u v hu hv one far =
      spread.unchanged u hu (subst (λ (g : ℕ). 0 < get_or dist g 0) (sym one) far)
      ∙ ap (λ (g : ℕ). get_or before g 0) one
      ∙ sym (spread.unchanged v hv far)

  -- the target of an arc is at most one nearer than its source, below j
  target_far :
      (i x v : ℕ) → suc i ≤ j → get_or groups (get_or parents x 0) 0 ≡ get_or groups v 0 → suc i ≤ distance_of groups dist v →
      SpreadAt j parents groups dist x → i ≤ distance_of groups dist x
  target_far i x v within from far (inl beyond) = omega arith
  target_far i x v within from far (inr near) =
      let same : distance_of groups dist (get_or parents x 0) ≡ distance_of groups dist v = ap (λ (g : ℕ). get_or dist g 0) from in
      omega arith

  module _ (names : List ℕ) (arrays : Arrays n parents names) where
    -- i names that can be walked from two groups, both at least i arcs from any that has grown, could be walked in the earlier partition
    pub far-share :
        (i v w : ℕ) → i ≤ j → v < n → w < n → Share n parents names groups i v w → i ≤ distance_of groups dist v →
        i ≤ distance_of groups dist w → Share n parents names before i v w
    far-share zero v w within hv hw shared far-v far-w = tt
    far-share (suc i) v w within hv hw (x, y, px, py, hx, hy, name, from_v, from_w, rest) far-v far-w = (
      x,
      y,
      px,
      py,
      hx,
      hy,
      name,
      alike_before (get_or parents x 0) v (parent_below n parents names arrays x hx) hv from_v (omega arith),
      alike_before (get_or parents y 0) w (parent_below n parents names arrays y hy) hw from_w (omega arith),
      far-share i x y (omega arith) hx hy rest
          (target_far i x v within from_v far-v (spread.spread x px hx))
          (target_far i y w within from_w far-w (spread.spread y py hy)),
    )

    -- two arcs of one name after which j names can be walked, both far: their sources are in one group
    pub tested-far :
        (h p q : ℕ) → Tested n h (suc j) parents names before groups → SameSuffix parents names (suc h) p q →
        Share n parents names groups j p q → j ≤ distance_of groups dist p → j ≤ distance_of groups dist q →
        0 < p → 0 < q → p < n → q < n → get_or groups (get_or parents p 0) 0 ≡ get_or groups (get_or parents q 0) 0
    tested-far h p q tested same shared far-p far-q pp pq hp hq =
        tested (get_or parents p 0) (get_or parents q 0) (parent_below n parents names arrays p hp)
        (parent_below n parents names arrays q hq) same.3
        (p, q, pp, pq, hp, hq, same.2, refl, refl, far-share j p q (omega arith) hp hq shared far-p far-q)

module _ (n h m : ℕ) (parents names before : List ℕ) where
  -- a coarser partition is as much tested
  pub tested_coarser :
      (groups groups' : List ℕ) → Tested n h m parents names before groups → Refines n groups groups' →
      Tested n h m parents names before groups'
  tested_coarser groups groups' tested coarser v w hv hw same shared = coarser v w hv hw (tested v w hv hw same shared)

-- a partition that is tested by itself is closed
pub tested_closed :
    (n h m : ℕ) (parents names groups : List ℕ) → Tested n h m parents names groups groups →
    ContextClosed n h m parents names groups
tested_closed n h m parents names groups tested = tested

-- m names lead from v and w down to states x and y, and these and those before v and w are their last names
pub record Below (n m h : ℕ) (parents names : List ℕ) (v w : ℕ) : Type 0 where
  pub x : ℕ
  pub y : ℕ
  pub x_inside : x < n
  pub y_inside : y < n
  pub from_v : up parents m x ≡ v
  pub from_w : up parents m y ≡ w
  pub same : SameSuffix parents names (m + h) x y

module _ (n : ℕ) (parents names : List ℕ) (arrays : Arrays n parents names) where
  -- states of one own number are one state
  own_same : (u v : ℕ) → u < n → v < n → get_or (numbers_from n 0) u 0 ≡ get_or (numbers_from n 0) v 0 → u ≡ v
  own_same u v hu hv e = sym (number_at n u hu) ∙ e ∙ number_at n v hv

  -- by the states' own numbers, names that can be walked in common are branches of the tree
  own_below :
      (m h v w : ℕ) → v < n → w < n → SameSuffix parents names h v w → Share n parents names (numbers_from n 0) m v w →
      Below n m h parents names v w
  unfolding up
  own_below zero h v w hv hw same shared =
      let none : h ≡ 0 + h = omega arith in
      record {
        x = v;
        y = w;
        x_inside = hv;
        y_inside = hw;
        from_v = refl;
        from_w = refl;
        same = suffix_cast n parents names arrays h (0 + h) v w none same;
      }
  own_below (suc m) h v w hv hw same (p, q, pp, pq, hp, hq, name, from_v, from_w, rest) =
      let at-v : get_or parents p 0 ≡ v = own_same (get_or parents p 0) v (parent_below n parents names arrays p hp) hv from_v in
      let at-w : get_or parents q 0 ≡ w = own_same (get_or parents q 0) w (parent_below n parents names arrays q hq) hw from_w in
      let before : SameSuffix parents names h (get_or parents p 0) (get_or parents q 0) =
      subst₂ (λ (a b : ℕ). SameSuffix parents names h a b) (sym at-v) (sym at-w) same in
      let sum_is : m + suc h ≡ suc m + h = omega arith in
      let deeper = own_below m (suc h) p q hp hq (pp, pq, name, before) rest in
      record {
        x = deeper.x;
        y = deeper.y;
        x_inside = deeper.x_inside;
        y_inside = deeper.y_inside;
        from_v = sym (up-parent parents m deeper.x) ∙ ap (λ (a : ℕ). get_or parents a 0) deeper.from_v ∙ at-v;
        from_w = sym (up-parent parents m deeper.y) ∙ ap (λ (a : ℕ). get_or parents a 0) deeper.from_w ∙ at-w;
        same = suffix_cast n parents names arrays (m + suc h) (suc m + h) deeper.x deeper.y sum_is deeper.same;
      }

  -- the climbs from states with the same last k names join what states by themselves would have compared
  pub tested_tree :
      (h m k : ℕ) (starts groups : List ℕ) → 0 < h → 0 < m → h + m ≡ k → BySuffix n k parents names starts →
      ClimbedBelow n n m parents starts starts groups → Tested n h m parents names (numbers_from n 0) groups
  tested_tree h m k starts groups some_names more_names sum_is by climbed v w hv hw same shared =
      let all : m + h ≡ k = omega arith in
      let below = own_below m h v w hv hw same shared in
      subst₂ (λ (a b : ℕ). get_or groups a 0 ≡ get_or groups b 0) below.from_v below.from_w
      (climbs-steps n h m k parents names starts groups arrays some_names sum_is by climbed below.x below.y
      below.x_inside below.y_inside (suffix_cast n parents names arrays (m + h) k below.x below.y all below.same) m
      more_names (omega arith))
