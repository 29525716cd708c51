-- Why comparing all pairs is a sweep as the context rule asks for. Assumes nothing.
use mathlib.Core.Path.{◌≡◌, refl, sym, ap, ◌∙◌, subst}
use mathlib.Core.Logic.{◌⊎◌, inl, inr}
use mathlib.Core.Bool.{Bool, false}
use mathlib.Core.List.{List}
use Prim.Native.Nat.{ℕ, zero, suc, ◌+◌, ◌<◌}
use native.Mathlib.Numerals.{add-one}
use native.Mathlib.Omega.{arith}
use lib.ListN.{get_or}
use Rattle.base.proofs.Tests.{eq_dec, decided, tells_ltb}
use Rattle.indexed.specs.Trees.{Arrays, SameSuffix}
use Rattle.indexed.specs.Partitions.{Labelled, Share, SuffixAgree, ContextClosed, ForkClosed}
use Rattle.indexed.specs.Passes.{SuffixClasses, Swept}
use Rattle.indexed.proofs.Suffixes.{parent_below, suffix_refl, suffix_sym, suffix_trans}
use Rattle.worklist.proofs.SearchLaws.{share_groups}
use Rattle.contexts.specs.Climbs.{ParentsJoined}
use Rattle.contexts.specs.Distances.{Tested, Spread, distance_of}
use Rattle.contexts.specs.Sweeps.{ArcOf, Listed, Near, Far, ArcsReady, OnChain}
use Rattle.contexts.specs.Joins.{PairsJoined, SweptBy}
use Rattle.contexts.proofs.ReadyLaws.{paired-listed, paired_near, link_on}
use Rattle.contexts.proofs.FarLaws.{tested-far, tested_closed}

-- names that lead out of two groups lead out of them the other way round
share_sym :
    (n : ℕ) (parents names groups : List ℕ) (j v w : ℕ) → Share n parents names groups j v w → Share n parents names groups j w v
share_sym n parents names groups zero v w s = tt
share_sym n parents names groups (suc j) v w s = (
  s.1,
  s.0,
  s.3,
  s.2,
  s.5,
  s.4,
  sym s.6,
  s.8,
  s.7,
  share_sym n parents names groups j s.0 s.1 s.9,
)

-- all pairs of arcs joined are a sweep, whatever number of last names the classes go by
module _ {n j : ℕ} {parents names classes groups dist next links heads : List ℕ} (arrays : Arrays n parents names)
    (labelled : Labelled n groups) (fork : ForkClosed n parents names groups)
    (arcs : ArcsReady n j parents names classes groups dist next links heads) where
  module _ {before groups' : List ℕ} {joined : Bool} (spread : Spread n j parents before groups dist)
      (all : PairsJoined n n j parents names groups links groups groups' joined) where
    module _ (h : ℕ) (by : SuffixClasses n (suc h) parents names classes) (agree : SuffixAgree n h parents names groups) where
      -- what is joined has the same last h names, and the arcs' name and j more in common after them
      pair-closed :
          (others : List ℕ) → ContextClosed n h (suc j) parents names others → (v w : ℕ) → v < n →
          OnChain links (get_or links v 0) w → Share n parents names others j v w → ParentsJoined parents others v w
      pair-closed others context v w hv on shared =
          let first = paired-listed arcs v w hv on in
          let found = paired_near arcs v w hv on in
          let second = found.1.listed in
          let hw = found.0 in
          let suffix : SameSuffix parents names (suc h) v w = (by.alike v w hv hw).0 (first.classed, sym second.class_is) in
          context (get_or parents v 0) (get_or parents w 0) (parent_below n parents names arrays v hv)
          (parent_below n parents names arrays w hw) suffix.3
          (v, w, first.no_root, second.no_root, hv, hw, suffix.2, refl, refl, shared)

      -- members of a group have the last h names of one that has so many
      like :
          (u v w : ℕ) → u < n → v < n → get_or groups u 0 ≡ get_or groups v 0 → SameSuffix parents names h v w →
          SameSuffix parents names h u v
      like u v w hu hv same s = go (agree u v hu hv same)
        where
          go : (u ≡ v) ⊎ SameSuffix parents names h u v → SameSuffix parents names h u v
          go (inl e) = subst (λ (x : ℕ). SameSuffix parents names h x v) (sym e) (suffix_refl n parents names arrays h v w s)
          go (inr t) = t

      -- the first arc of the group and the name of arc x
      first_of_lem : (x : ℕ) → 0 < x → x < n → ArcOf n parents names groups (get_or groups (get_or parents x 0) 0) (get_or names x 0)
      first_of_lem x some low =
          arcs.linked.arc (get_or groups (get_or parents x 0) 0) (get_or names x 0) (arcs.linked.leaves x some low)

      module _ (tested : Tested n h (suc j) parents names before groups) where
        -- two arcs of a class: one arc, or compared from the later or from the far one, or both far and compared before
        one-source :
            (b p q : ℕ) → p < n → q < n → Listed parents names classes groups b p → Listed parents names classes groups b q →
            SameSuffix parents names (suc h) p q → Share n parents names groups j p q → ParentsJoined parents groups' p q
        one-source b p q hp hq in_p in-q suffix shared =
            go (eq_dec p q) (decided (tells_ltb (distance_of groups dist p) j)) (decided (tells_ltb (distance_of groups dist q) j))
            (decided (tells_ltb p q))
          where
            -- from p down to q, and from q down to p
            down : Near j groups dist q → Far j groups dist p ⊎ (q < p) → ParentsJoined parents groups' p q
            down near which =
                all.complete p q hp (link_on arcs b p q hp hq in_p (record { listed = in-q; near = near }) which) shared

            back : Near j groups dist p → Far j groups dist q ⊎ (p < q) → ParentsJoined parents groups' p q
            back near which =
                sym
                (all.complete q p hq (link_on arcs b q p hq hp in-q (record { listed = in_p; near = near }) which)
                (share_sym n parents names groups j p q shared))

            go :
                (p ≡ q) ⊎ (p ≡ q → ⊥) → Near j groups dist p ⊎ (Near j groups dist p → ⊥) →
                Near j groups dist q ⊎ (Near j groups dist q → ⊥) → (p < q) ⊎ (p < q → ⊥) → ParentsJoined parents groups' p q
            go (inl e) near_p near-q order = ap (λ (x : ℕ). get_or groups' (get_or parents x 0) 0) e
            go (inr apart) (inl near_p) (inl near-q) (inl earlier) = back near_p (inr earlier)
            go (inr apart) (inl near_p) (inl near-q) (inr later) = down near-q (inr (omega arith))
            go (inr apart) (inl near_p) (inr far-q) order = back near_p (inl (omega arith))
            go (inr apart) (inr far-p) (inl near-q) order = down near-q (inl (omega arith))
            go (inr apart) (inr far-p) (inr far-q) order =
                all.coarser (get_or parents p 0) (get_or parents q 0) (parent_below n parents names arrays p hp)
                (parent_below n parents names arrays q hq)
                (tested-far spread names arrays h p q tested suffix shared (omega arith) (omega arith) in_p.no_root
                in-q.no_root hp hq)

        -- the first arcs by which two states that the rule joins share their names have one source afterwards
        sources-one :
            (v w : ℕ) → v < n → w < n → SameSuffix parents names h v w → (s : Share n parents names groups (suc j) v w) →
            ParentsJoined parents groups' (first_of_lem s.0 s.2 s.4).target (first_of_lem s.1 s.3 s.5).target
        sources-one v w hv hw s shared =
            let x = shared.0 in
            let y = shared.1 in
            let at_x = first_of_lem x shared.2 shared.4 in
            let at_y = first_of_lem y shared.3 shared.5 in
            let p = at_x.target in
            let q = at_y.target in
            let pp = parent_below n parents names arrays p at_x.below in
            let pq = parent_below n parents names arrays q at_y.below in
            let back = suffix_sym n parents names arrays h v w s in
            let like-p = like (get_or parents p 0) v w pp hv (at_x.from_x ∙ shared.7) s in
            let like-q = like (get_or parents q 0) w v pq hw (at_y.from_x ∙ shared.8) back in
            let sources : SameSuffix parents names h (get_or parents p 0) (get_or parents q 0) =
            suffix_trans n parents names arrays h (get_or parents p 0) v (get_or parents q 0) like-p
            (suffix_trans n parents names arrays h v w (get_or parents q 0) s
            (suffix_sym n parents names arrays h (get_or parents q 0) w like-q)) in
            let one_name : get_or names p 0 ≡ get_or names q 0 = at_x.name_is ∙ shared.6 ∙ sym at_y.name_is in
            let suffix : SameSuffix parents names (suc h) p q = (at_x.no_root, at_y.no_root, one_name, sources) in
            let class = (by.alike p q at_x.below at_y.below).1 suffix in
            let to-p : get_or groups x 0 ≡ get_or groups p 0 =
            fork x p shared.2 at_x.no_root shared.4 at_x.below (sym at_x.name_is) (sym at_x.from_x) in
            let to-q : get_or groups y 0 ≡ get_or groups q 0 =
            fork y q shared.3 at_y.no_root shared.5 at_y.below (sym at_y.name_is) (sym at_y.from_x) in
            let after : Share n parents names groups j p q =
            share_groups n parents names groups j x y p q to-p to-q shared.9 in
            one-source (get_or classes p 0) p q at_x.below at_y.below
            (record { classed = class.0; class_is = refl; no_root = at_x.no_root; first = at_x.first })
            (record { classed = class.0; class_is = sym class.1; no_root = at_y.no_root; first = at_y.first }) suffix
            after

        -- so the groups afterwards have joined what those at first tell
        now-tested : Tested n h (suc j) parents names groups groups'
        now-tested v w hv hw s shared =
            let at_x = first_of_lem shared.0 shared.2 shared.4 in
            let at_y = first_of_lem shared.1 shared.3 shared.5 in
            let p = get_or parents at_x.target 0 in
            let q = get_or parents at_y.target 0 in
            let hp : p < n = parent_below n parents names arrays at_x.target at_x.below in
            let hq : q < n = parent_below n parents names arrays at_y.target at_y.below in
            all.coarser v p hv hp (sym (at_x.from_x ∙ shared.7))
            ∙ sources-one v w hv hw s shared
            ∙ all.coarser q w hq hw (at_y.from_x ∙ shared.8)

        closed : joined ≡ false → ContextClosed n h (suc j) parents names groups
        closed none =
            tested_closed n h (suc j) parents names groups
            (subst (λ (l : List ℕ). Tested n h (suc j) parents names groups l) (all.none none) now-tested)

        all-swept : Swept n h (suc j) parents names groups groups' joined
        all-swept =
            record {
              labelled = all.labelled;
              coarser = all.coarser;
              sound = λ others forks context refines. all.sound others forks (pair-closed others context) refines;
              none = λ none. (all.none none, closed none);
              some = all.some;
            }

    pub pairs-sweep :
        {m : ℕ} {before' : List ℕ} → suc j ≡ m → before' ≡ groups →
        SweptBy n m parents names classes before before' groups groups' joined
    pairs-sweep {m} {before'} m-is before_is =
        record {
          before_is = before_is;
          swept = λ h by agree tested.
              subst (λ (i : ℕ). Swept n h i parents names groups groups' joined) m-is
              (all-swept h (classes-of h by) agree (tested-of h tested));
          tested_after = λ h by agree tested.
              subst (λ (i : ℕ). Tested n h i parents names groups groups') m-is
              (now-tested h (classes-of h by) agree (tested-of h tested));
        }
      where
        classes-of : (h : ℕ) → SuffixClasses n (h + 1) parents names classes → SuffixClasses n (suc h) parents names classes
        classes-of h by = subst (λ (i : ℕ). SuffixClasses n i parents names classes) (add-one h) by

        tested-of : (h : ℕ) → Tested n h m parents names before groups → Tested n h (suc j) parents names before groups
        tested-of h tested = subst (λ (i : ℕ). Tested n h i parents names before groups) (sym m-is) tested
