-- Laws of forks closed round by round: how a round starts, that it ends closed with the lists kept, and what a pair in one group
-- and two groups made one keep. Pair after pair is in ForkRounds. Assumes nothing.
use mathlib.Core.Path.{◌≡◌, sym, subst, subst₂}
use mathlib.Core.Bool.{Bool}
use mathlib.Core.List.{List}
use Prim.Native.Nat.{ℕ, suc, ◌<◌, ◌≤◌}
use native.Mathlib.Omega.{arith}
use lib.ListN.{length, get_or}
use Rattle.indexed.specs.Partitions.{Refines, Labelled, KeyClosed}
use Rattle.partition.specs.Joins.{JoinedTwo}
use Rattle.partition.specs.Forests.{Forest, roots_of, JoinedRoots}
use Rattle.partition.proofs.ForestLaws.{flat_roots}
use Rattle.partition.proofs.RootLaws.{roots_two}
use Rattle.worklist.specs.Lists.{Sorted, Filled, Merged}
use Rattle.worklist.specs.Settling.{QueueRoom}
use Rattle.worklist.specs.Forks.{ForksReady, Kept, Closing, JoinedPair, KeptClosed}
use Rattle.worklist.proofs.QueueLaws.{grew_none}
use Rattle.worklist.proofs.SizeLaws.{own_below}
use Rattle.worklist.proofs.ReachLaws.{One, reached_none, reached-joined, reached-more, reached-next, reached-done}
use Rattle.worklist.proofs.KindLaws.{PutInto, put_roots, kind_more, kind-filled, kind_next, kind_closed, kind-merged}
use Rattle.worklist.proofs.KindLaws.{filled-added, merged-added}

module _ {n : ℕ} {parents names numbers : List ℕ} where
  -- ---- how a round starts

  -- the lists filled: every pair is pending
  pub closing_filled :
      {groups links heads firsts seconds firsts' seconds' : List ℕ} {tail : ℕ} → ForksReady n parents names numbers →
      Labelled n groups → QueueRoom firsts seconds →
      Filled n parents numbers names groups links heads firsts seconds firsts' seconds' 0 tail →
      Closing n parents names numbers groups groups links heads firsts' seconds' 0 tail
  closing_filled {firsts' = firsts'} {seconds'} {tail} ready labelled queue filled =
      record {
        rows = filled.rows;
        ready = ready;
        reached =
            reached-more (reached_none labelled (λ x y hx hy e. e) queue) filled.grew
            (filled-added filled ready.parents_below (own_below ready.own) (λ closed by. by));
        kind = kind-filled filled 0 (omega arith) (grew_none firsts' seconds' tail);
        room = omega (arith, ready.few, filled.counted);
      }

  -- lists kept: nothing is pending, and the start is a coarser partition
  pub closing_kept :
      {start groups links heads firsts seconds : List ℕ} {tail : ℕ} → ForksReady n parents names numbers →
      Kept n parents names numbers groups links heads firsts seconds tail → Refines n groups start →
      Closing n parents names numbers start groups links heads firsts seconds tail tail
  closing_kept ready kept coarser =
      record {
        rows = kept.rows;
        ready = ready;
        reached = reached_none kept.labelled coarser kept.queue;
        kind = kind_more (λ others refines joins. Prim.tt) kept.kind;
        room = kept.room;
      }

  module _ {start groups links heads firsts seconds : List ℕ} {done tail : ℕ}
      (closing : Closing n parents names numbers start groups links heads firsts seconds done tail) where
    -- by the number of names, with the partition as a forest
    pub closing-opened :
        Closing (length names) parents names numbers start (roots_of groups) links heads firsts seconds done tail
    closing-opened =
        subst₂
        (λ (m : ℕ) (labels : List ℕ). Closing m parents names numbers start labels links heads firsts seconds done tail)
        (sym closing.ready.names_size) (sym (flat_roots n groups closing.reached.labelled)) closing

    -- ---- how it ends

    -- nothing pending: joined until closed, and the lists are kept
    pub kept-closed :
        tail ≤ done → Refines n start groups → KeptClosed n parents names numbers start groups links heads firsts seconds tail
    kept-closed end coarser =
        record {
          until =
              reached-done closing.reached coarser
              (kind_closed closing.kind (λ i low high. let z : ⊥ = omega arith in absurd z) closing.reached.labelled
              closing.ready.parents_below closing.ready.few);
          kept =
              record {
                rows = closing.rows;
                labelled = closing.reached.labelled;
                kind =
                    kind_more (λ others refines nothing i low high. let z : ⊥ = omega arith in absurd z) closing.kind;
                room = closing.room;
                queue = closing.reached.queue;
              };
        }

    -- ---- one pair

    -- the first pair is in one group: it is pending no more
    pub closing-next :
        done < tail → One groups (get_or firsts done 0) (get_or seconds done 0) →
        Closing n parents names numbers start groups links heads firsts seconds (suc done) tail
    closing-next due one =
        record {
          rows = closing.rows;
          ready = closing.ready;
          reached = reached-next closing.reached due;
          kind = kind_next closing.reached due one closing.kind;
          room = closing.room;
        }

    -- two groups are made one and their lists merged; what the merge queued is pending too
    closing-joined :
        {groups' links' heads' firsts' seconds' : List ℕ} {v w to from tail' : ℕ} {joined : Bool} →
        JoinedTwo n v w groups groups' joined → PutInto n to from groups groups' →
        ((closed : List ℕ) → KeyClosed n parents numbers names closed → Refines n start closed → One closed v w) →
        Merged n numbers names closing.rows to from links' heads' firsts seconds firsts' seconds' tail tail' →
        Closing n parents names numbers start groups' links' heads' firsts' seconds' done tail'
    closing-joined {firsts' = firsts'} {seconds'} {tail' = tail'} two put pair merged =
        let below = closing.ready.parents_below in
        record {
          rows = merged.rows';
          ready = closing.ready;
          reached =
              reached-more (reached-joined closing.reached two pair) merged.grew
              (merged-added closing.reached closing.kind below put merged (own_below closing.ready.own)
              (λ closed by. by));
          kind =
              kind-merged closing.reached closing.kind below put merged (grew_none firsts seconds tail)
              (grew_none firsts' seconds' tail');
          room = omega (arith, closing.room, merged.counted);
        }

-- ---- two states joined, by their roots

module _ {n : ℕ} {names numbers above above' links heads firsts seconds : List ℕ} {v w to from tail : ℕ} (forest : Forest n above)
    (below-v : v < n) (below-w : w < n) (roots : JoinedRoots n above above' v w to from) where
  -- both in one group: nothing to do
  pub pair-skipped :
      to ≡ from → JoinedPair n names numbers above above' links heads links heads firsts seconds firsts seconds v w tail tail
  pair-skipped same =
      record {
        forest = roots.forest;
        two = roots_two n above above' v w to from forest below-v below-w roots;
        grew = grew_none firsts seconds tail;
        closing = λ parents start done pair closing.
            subst (λ (l : List ℕ). Closing n parents names numbers start l links heads firsts seconds done tail)
            (sym (roots.kept same)) closing;
      }

  -- two groups made one, and their lists merged
  pub pair_joined :
      {links' heads' firsts' seconds' : List ℕ} {tail' : ℕ} → to < from →
      ((rows : List ℕ) → Sorted n names rows links heads →
      Merged n numbers names rows to from links' heads' firsts seconds firsts' seconds' tail tail') →
      {rows : List ℕ} → Sorted n names rows links heads →
      JoinedPair n names numbers above above' links heads links' heads' firsts seconds firsts' seconds' v w tail tail'
  pair_joined lower merged {rows} sorted =
      let two = roots_two n above above' v w to from forest below-v below-w roots in
      record {
        forest = roots.forest;
        two = two;
        grew = (merged rows sorted).grew;
        closing = λ parents start done pair closing.
            closing-joined closing two.1 (put_roots forest closing.ready.few lower roots) pair
            (merged closing.rows closing.kind.sorted);
      }
