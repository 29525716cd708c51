-- Laws of arcs of one kind while pairs are pending: what filling their lists, taking a pair, and merging the lists of two groups
-- keep, that every closed partition joins the pairs that are queued by it, and that nothing pending means closed. Assumes nothing.
use mathlib.Core.Path.{◌≡◌, sym, ap, ◌∙◌, subst}
use mathlib.Core.Logic.{◌⊎◌, inl, inr, ⊎_elim}
use mathlib.Core.List.{List}
use Prim.Native.Nat.{ℕ, suc, ◌<◌, ◌≤◌}
use native.Mathlib.Omega.{arith}
use lib.ListN.{length, get_or}
use Rattle.base.specs.Limits.{name_limit, state_limit}
use Rattle.base.proofs.Tests.{eq_dec}
use Rattle.indexed.specs.Partitions.{Refines, Labelled, KeyClosed}
use Rattle.indexed.proofs.Keys.{Relabel, moved, kept, relabelled-cases, relabelled-coarser}
use Rattle.partition.specs.Forests.{Forest, roots_of, JoinedRoots}
use Rattle.partition.proofs.ForestLaws.{roots_length}
use Rattle.worklist.specs.Lists.{Queued, Grew, StandsFor, Filled, Merged}
use Rattle.worklist.specs.Settling.{Joins, Covered, Kind, Reached}
use Rattle.worklist.proofs.QueueLaws.{grew_more}
use Rattle.worklist.proofs.FillLaws.{OfTwoArcs}
use Rattle.worklist.proofs.ReachLaws.{One, Added, each-shorter, each_first}

-- an arc that stands for another has its outs in one group with that one's
stands_one :
    {n : ℕ} {outs keys rows : List ℕ} {g u : ℕ} {firsts seconds : List ℕ} {from to : ℕ} (others : List ℕ) →
    (stands : StandsFor n outs keys rows g u firsts seconds from to) → Joins firsts seconds from to others →
    get_or others (get_or outs stands.arc 0) 0 ≡ get_or others (get_or outs u 0) 0
stands_one {outs = outs} {u = u} {firsts = firsts} {seconds = seconds} {from = from} {to = to} others stands joins =
    go stands.same
  where
    go :
        (stands.arc ≡ u) ⊎ Queued firsts seconds from to (get_or outs stands.arc 0) (get_or outs u 0) →
        get_or others (get_or outs stands.arc 0) 0 ≡ get_or others (get_or outs u 0) 0
    go (inl e) = ap (λ (x : ℕ). get_or others (get_or outs x 0) 0) e
    go (inr q) =
        ap (λ (x : ℕ). get_or others x 0) (sym q.first) ∙ joins q.place q.low q.high
        ∙ ap (λ (x : ℕ). get_or others x 0) q.second

-- pairs of outs of two arcs of one key into one group are joined by every coarser partition that is closed
matched_added :
    (ins outs keys : List ℕ) {Closed : List ℕ → Type 0} {n : ℕ} {groups firsts seconds : List ℕ} {tail tail' : ℕ} →
    ((v : ℕ) → v < n → get_or ins v 0 < n) → ((v : ℕ) → v < n → get_or outs v 0 < n) →
    ((closed : List ℕ) → Closed closed → KeyClosed n ins outs keys closed) →
    ((i : ℕ) → tail ≤ i → i < tail' → OfTwoArcs n ins outs keys groups firsts seconds i) →
    Added Closed n groups firsts seconds tail tail'
matched_added ins outs keys {n = n} ins-below outs-below by matched =
    record {
      inside = λ i low high.
          let pair = matched i low high in (
            subst (λ (x : ℕ). x < n) (sym pair.7) (outs-below pair.0 pair.2),
            subst (λ (x : ℕ). x < n) (sym pair.8) (outs-below pair.1 pair.3),
          );
      joined = λ closed is refines i low high.
          let pair = matched i low high in
          ap (λ (x : ℕ). get_or closed x 0) pair.7
          ∙ by closed is pair.0 pair.1 pair.2 pair.3 (omega (arith, pair.4, pair.5)) pair.5
          (refines (get_or ins pair.0 0) (get_or ins pair.1 0) (ins-below pair.0 pair.2) (ins-below pair.1 pair.3)
          pair.6)
          ∙ ap (λ (x : ℕ). get_or closed x 0) (sym pair.8);
    }

-- group `from` is put into group `to`
pub record PutInto (n to from : ℕ) (groups groups' : List ℕ) : Type 0 where
  pub low_to : to < state_limit
  pub low_from : from < state_limit
  pub each : (x : ℕ) → x < n → Relabel to from (get_or groups x 0) (get_or groups' x 0)
  pub coarser : Refines n groups groups'

-- so is the group of the higher root into that of the lower
pub put_roots :
    {n : ℕ} {above above' : List ℕ} {v w to from : ℕ} → Forest n above → n ≤ state_limit → to < from →
    JoinedRoots n above above' v w to from → PutInto n to from (roots_of above) (roots_of above')
put_roots {n} {above} {above'} {to = to} {from = from} forest few lower roots =
    record {
      low_to = omega (arith, roots.inside);
      low_from = omega (arith, roots.inside);
      each = λ x h.
          subst (λ (l : List ℕ). Relabel to from (get_or (roots_of above) x 0) (get_or l x 0)) (sym (roots.joined lower))
          (relabelled-cases to from x (roots_of above) (subst (λ (m : ℕ). x < m) (sym size) h));
      coarser =
          subst (λ (l : List ℕ). Refines n (roots_of above) l) (sym (roots.joined lower))
          (relabelled-coarser n to from (roots_of above) size);
    }
  where
    size : length (roots_of above) ≡ n
    size = roots_length above ∙ forest.size

module _ {n : ℕ} {ins outs keys : List ℕ} where
  -- more pairs pending, as far as coarser partitions can tell
  pub kind_more :
      {groups rows links heads : List ℕ} {Pending Pending' : List ℕ → Type 0} →
      ((others : List ℕ) → Refines n groups others → Pending' others → Pending others) →
      Kind n ins outs keys groups rows links heads Pending → Kind n ins outs keys groups rows links heads Pending'
  kind_more fewer kind =
      record {
        sorted = kind.sorted;
        placed = kind.placed;
        covers = λ v h k.
            let old = kind.covers v h k in
            record {
              arc = old.arc;
              inside = old.inside;
              listed = old.listed;
              keyed = old.keyed;
              one = λ others refines pending. old.one others refines (fewer others refines pending);
            };
      }

  -- what is pending is joined: closed
  pub kind_closed :
      {groups rows links heads : List ℕ} {Pending : List ℕ → Type 0} →
      Kind n ins outs keys groups rows links heads Pending → Pending groups → Labelled n groups →
      ((v : ℕ) → v < n → get_or ins v 0 < n) → n ≤ state_limit → KeyClosed n ins outs keys groups
  kind_closed {groups} {rows} kind joined labelled ins-below few v w hv hw below same_key one =
      let at-v = kind.covers v hv below in
      let at-w = kind.covers w hw (omega arith) in
      let listed : get_or rows at-v.arc 0 < state_limit =
      omega (arith, at-v.listed, ins-below v hv, labelled.low (get_or ins v 0) (ins-below v hv)) in
      sym (at-v.one groups (λ a b ha hb e. e) joined)
      ∙ ap (λ (x : ℕ). get_or groups (get_or outs x 0) 0)
      (kind.sorted.single at-v.arc at-w.arc at-v.inside at-w.inside listed
      (at-v.listed ∙ one ∙ sym at-w.listed) (at-v.keyed ∙ same_key ∙ sym at-w.keyed))
      ∙ at-w.one groups (λ a b ha hb e. e) joined

  -- the first pair is in one group: it is pending no more
  pub kind_next :
      {Closed : List ℕ → Type 0} {start groups rows links heads firsts seconds : List ℕ} {done tail : ℕ} →
      Reached Closed n start groups firsts seconds done tail → done < tail →
      One groups (get_or firsts done 0) (get_or seconds done 0) →
      Kind n ins outs keys groups rows links heads (Joins firsts seconds done tail) →
      Kind n ins outs keys groups rows links heads (Joins firsts seconds (suc done) tail)
  kind_next {firsts = firsts} {seconds} {done} {tail} reached due one kind =
      let here = reached.inside done (omega arith) due in
      kind_more
      (λ others refines joins.
      each_first (One others) firsts seconds done tail
      (refines (get_or firsts done 0) (get_or seconds done 0) here.0 here.1 one) joins)
      kind

  module _ {groups links' heads' firsts seconds firsts' seconds' : List ℕ} {tail tail' : ℕ}
      (filled : Filled n ins outs keys groups links' heads' firsts seconds firsts' seconds' tail tail') where
    -- after filling, with pairs pending from an earlier one to a later
    pub kind-filled :
        {firsts'' seconds'' : List ℕ} {tail'' : ℕ} (done : ℕ) → done ≤ tail →
        Grew firsts' seconds' firsts'' seconds'' tail' tail'' →
        Kind n ins outs keys groups filled.rows links' heads' (Joins firsts'' seconds'' done tail'')
    kind-filled done order grew =
        record {
          sorted = filled.sorted;
          placed = filled.placed;
          covers = λ v h k.
              let stands = filled.covered v h k in
              record {
                arc = stands.arc;
                inside = stands.inside;
                listed = stands.listed;
                keyed = stands.keyed;
                one = λ others refines joins.
                    stands_one others stands
                    (λ i low high. each-shorter grew (One others) done joins i (omega arith) high);
              };
        }

    -- the pairs that filling queues are joined by every coarser partition that is closed
    pub filled-added :
        {Closed : List ℕ → Type 0} → ((v : ℕ) → v < n → get_or ins v 0 < n) → ((v : ℕ) → v < n → get_or outs v 0 < n) →
        ((closed : List ℕ) → Closed closed → KeyClosed n ins outs keys closed) →
        Added Closed n groups firsts' seconds' tail tail'
    filled-added ins-below outs-below by = matched_added ins outs keys ins-below outs-below by filled.matched

  module _ {Closed : List ℕ → Type 0} {start groups rows links heads firsts seconds : List ℕ} {done tail : ℕ}
      (reached : Reached Closed n start groups firsts seconds done tail)
      (kind : Kind n ins outs keys groups rows links heads (Joins firsts seconds done tail))
      (ins-below : (v : ℕ) → v < n → get_or ins v 0 < n) where
    -- two groups are made one and their lists are merged
    module _ {groups' links' heads' firsts₁ seconds₁ firsts₂ seconds₂ : List ℕ} {to from tail₁ tail₂ : ℕ}
        (put : PutInto n to from groups groups')
        (merged : Merged n outs keys rows to from links' heads' firsts₁ seconds₁ firsts₂ seconds₂ tail₁ tail₂) where
      -- ins of group `to` or `from` are then in group `to`
      is-to :
          (v : ℕ) → (get_or groups (get_or ins v 0) 0 ≡ to) ⊎ (get_or groups (get_or ins v 0) 0 ≡ from) →
          Relabel to from (get_or groups (get_or ins v 0) 0) (get_or groups' (get_or ins v 0) 0) → get_or groups' (get_or ins v 0) 0 ≡ to
      is-to v was (moved e f) = f
      is-to v (inl was) (kept d f) = f ∙ was
      is-to v (inr was) (kept d f) = absurd (d was)

      -- how the label of a state's ins changes
      new-label : (v : ℕ) → v < n → Relabel to from (get_or groups (get_or ins v 0) 0) (get_or groups' (get_or ins v 0) 0)
      new-label v h = put.each (get_or ins v 0) (ins-below v h)

      -- the lists of both, with pairs pending from an earlier one to a later
      pub kind-merged :
          {firsts' seconds' : List ℕ} {tail' : ℕ} → Grew firsts seconds firsts₁ seconds₁ tail tail₁ →
          Grew firsts₂ seconds₂ firsts' seconds' tail₂ tail' →
          Kind n ins outs keys groups' merged.rows' links' heads' (Joins firsts' seconds' done tail')
      kind-merged {firsts'} {seconds'} {tail'} before after =
          record {
            sorted = merged.sorted;
            placed = λ u h listed. placed_at u h listed (eq_dec (get_or rows u 0) from) (new-label u h);
            covers = λ v h k. covers v h k (new-label v h);
          }
        where
          placed_at :
              (u : ℕ) → u < n → get_or merged.rows' u 0 < state_limit → (get_or rows u 0 ≡ from) ⊎ (get_or rows u 0 ≡ from → ⊥) →
              Relabel to from (get_or groups (get_or ins u 0) 0) (get_or groups' (get_or ins u 0) 0) →
              get_or merged.rows' u 0 ≡ get_or groups' (get_or ins u 0) 0
          placed_at u h listed (inl e) (moved was now) =
              ⊎_elim (λ here. here ∙ sym now) (λ none. let z : ⊥ = omega arith in absurd z) (merged.moved u h e)
          placed_at u h listed (inl e) (kept other now) =
              absurd (other (sym (kind.placed u h (omega (arith, put.low_from))) ∙ e))
          placed_at u h listed (inr d) (moved was now) =
              absurd (d (kind.placed u h (omega (arith, merged.kept u h d)) ∙ was))
          placed_at u h listed (inr d) (kept other now) =
              merged.kept u h d ∙ kind.placed u h (omega (arith, merged.kept u h d)) ∙ sym now

          -- what joins the pairs pending then and is coarser joins those pending before
          old-one :
              {g v : ℕ} (old : Covered n outs keys groups rows (Joins firsts seconds done tail) g v) (others : List ℕ) →
              Refines n groups' others → Joins firsts' seconds' done tail' others →
              get_or others (get_or outs old.arc 0) 0 ≡ get_or others (get_or outs v 0) 0
          old-one old others refines joins =
              old.one others (λ a b ha hb e. refines a b ha hb (put.coarser a b ha hb e))
              (each-shorter (grew_more before (grew_more merged.grew after)) (One others) done joins)

          covers :
              (v : ℕ) → v < n → get_or keys v 0 < name_limit →
              Relabel to from (get_or groups (get_or ins v 0) 0) (get_or groups' (get_or ins v 0) 0) →
              Covered n outs keys groups' merged.rows' (Joins firsts' seconds' done tail') (get_or groups' (get_or ins v 0) 0) v
          covers v h k (moved e f) =
              let old = kind.covers v h k in
              let stands = merged.covered old.arc old.inside (old.listed ∙ e) in
              record {
                arc = stands.arc;
                inside = stands.inside;
                listed = stands.listed ∙ sym f;
                keyed = stands.keyed ∙ old.keyed;
                one = λ others refines joins.
                    stands_one others stands
                    (λ i low high.
                    each-shorter after (One others) done joins i (omega (arith, reached.order, before.longer)) high)
                    ∙ old-one old others refines joins;
              }
          covers v h k (kept d f) =
              let old = kind.covers v h k in
              record {
                arc = old.arc;
                inside = old.inside;
                listed = merged.kept old.arc old.inside (λ e. d (sym old.listed ∙ e)) ∙ old.listed ∙ sym f;
                keyed = old.keyed;
                one = old-one old;
              }

      -- the pairs that merging queues are joined by every coarser partition that is closed
      pub merged-added :
          ((v : ℕ) → v < n → get_or outs v 0 < n) →
          ((closed : List ℕ) → Closed closed → KeyClosed n ins outs keys closed) →
          Added Closed n groups' firsts₂ seconds₂ tail₁ tail₂
      merged-added outs-below by =
          matched_added ins outs keys ins-below outs-below by
          (λ i low high.
          let pair = merged.matched i low high in
          let listed-c : get_or rows pair.0 0 < state_limit = omega (arith, pair.4, put.low_to) in
          let listed-u : get_or rows pair.1 0 < state_limit = omega (arith, pair.5, put.low_from) in (
            pair.0,
            pair.1,
            pair.2,
            pair.3,
            kind.sorted.keyed pair.1 pair.3 listed-u,
            pair.6,
            is-to pair.0 (inl (sym (kind.placed pair.0 pair.2 listed-c) ∙ pair.4)) (new-label pair.0 pair.2)
                ∙ sym (is-to pair.1 (inr (sym (kind.placed pair.1 pair.3 listed-u) ∙ pair.5))
                (new-label pair.1 pair.3)),
            pair.7,
            pair.8,
          ))
