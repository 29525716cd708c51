-- Laws of settling, all three kinds of arcs together: how it starts, what a pair joined or skipped keeps, and that it ends closed.
-- Assumes nothing.
use mathlib.Core.Path.{◌≡◌, sym, ◌∙◌, subst, subst₂}
use mathlib.Core.Bool.{Bool}
use mathlib.Core.List.{List}
use Prim.Native.Nat.{ℕ, suc, ◌<◌, ◌≤◌}
use native.Mathlib.Omega.{arith}
use lib.ListN.{get_or}
use Rattle.indexed.specs.Partitions.{Refines}
use Rattle.partition.specs.Joins.{JoinedTwo}
use Rattle.partition.specs.Forests.{Forest, roots_of, JoinedRoots}
use Rattle.partition.proofs.RootLaws.{roots_two}
use Rattle.worklist.specs.Settling.{RoundReady, RoundClosed, JoinedUntil, QueueRoom, FilledAll, ListedAll, MergedAll}
use Rattle.worklist.specs.Settling.{Joins, Settling, SettledAt}
use Rattle.worklist.proofs.QueueLaws.{grew_none, grew_more}
use Rattle.worklist.proofs.ReachLaws.{One, reached_none, reached-joined, reached-more, reached-next, reached-done}
use Rattle.worklist.proofs.KindLaws.{put_roots, kind-filled, kind_next, kind_closed, kind-merged, filled-added, merged-added}
use Rattle.worklist.proofs.KindLaws.{PutInto}
use Rattle.worklist.proofs.SizeLaws.{own_below}

module _ {n : ℕ} {parents names numbers keys more : List ℕ} where
  -- all lists filled: every pair is pending
  pub settling_filled :
      {groups fl fh bl bh ml mh firsts seconds firsts' seconds' : List ℕ} {tail : ℕ} →
      RoundReady n parents names numbers keys more groups → QueueRoom firsts seconds →
      FilledAll n parents names numbers keys more groups fl fh bl bh ml mh firsts seconds firsts' seconds' 0 tail →
      Settling n parents names numbers keys more groups groups fl fh bl bh ml mh firsts' seconds' 0 tail
  settling_filled {firsts' = firsts'} {seconds'} {tail} ready queue all =
      record {
        fork_rows = all.forks.rows;
        back_rows = all.backs.rows;
        more_rows = all.others.rows;
        ready = ready;
        coarser = λ x y hx hy e. e;
        reached =
            reached-more
            (reached-more
            (reached-more (reached_none ready.labelled (λ x y hx hy e. e) queue) all.forks.grew
            (filled-added all.forks ready.parents_below (own_below ready.own) (λ closed by. by.forks)))
            all.backs.grew (filled-added all.backs (own_below ready.own) ready.parents_below (λ closed by. by.backs)))
            all.others.grew
            (filled-added all.others (own_below ready.own) ready.parents_below (λ closed by. by.others));
        forks = kind-filled all.forks 0 (omega arith) (grew_more all.backs.grew all.others.grew);
        backs = kind-filled all.backs 0 (omega arith) all.others.grew;
        others = kind-filled all.others 0 (omega arith) (grew_none firsts' seconds' tail);
        room = omega (arith, ready.few, all.forks.counted, all.backs.counted, all.others.counted);
      }

  module _ {start groups fl fh bl bh ml mh firsts seconds : List ℕ} {done tail : ℕ}
      (settling : Settling n parents names numbers keys more start groups fl fh bl bh ml mh firsts seconds done tail) where
    -- own numbers are states
    below : (v : ℕ) → v < n → get_or numbers v 0 < n
    below = own_below settling.ready.own

    -- nothing pending: joined until closed
    pub settling-done : tail ≤ done → JoinedUntil (RoundClosed n parents names numbers keys more) n start groups
    settling-done end =
        let few = settling.ready.few in
        let labelled = settling.reached.labelled in
        let none : Joins firsts seconds done tail groups = λ i low high. let z : ⊥ = omega arith in absurd z in
        reached-done settling.reached settling.coarser
        (record {
          forks = kind_closed settling.forks none labelled settling.ready.parents_below few;
          backs = kind_closed settling.backs none labelled below few;
          others = kind_closed settling.others none labelled below few;
        })

    -- the first pair is in one group: it is pending no more
    pub settling-next :
        done < tail → One groups (get_or firsts done 0) (get_or seconds done 0) →
        Settling n parents names numbers keys more start groups fl fh bl bh ml mh firsts seconds (suc done) tail
    settling-next due one =
        record {
          fork_rows = settling.fork_rows;
          back_rows = settling.back_rows;
          more_rows = settling.more_rows;
          ready = settling.ready;
          coarser = settling.coarser;
          reached = reached-next settling.reached due;
          forks = kind_next settling.reached due one settling.forks;
          backs = kind_next settling.reached due one settling.backs;
          others = kind_next settling.reached due one settling.others;
          room = settling.room;
        }

    -- the lists, and the room left
    pub listed-all :
        ListedAll n names keys more settling.fork_rows settling.back_rows settling.more_rows fl fh bl bh ml mh tail
    listed-all =
        record {
          forks = settling.forks.sorted;
          backs = settling.backs.sorted;
          others = settling.others.sorted;
          room = settling.room;
        }

    -- two groups are made one and their lists merged; what the merges queued is pending too
    settling-joined :
        {groups' fl' fh' bl' bh' ml' mh' firsts' seconds' : List ℕ} {v w to from tail' : ℕ} {joined : Bool} →
        JoinedTwo n v w groups groups' joined → PutInto n to from groups groups' →
        ((closed : List ℕ) → RoundClosed n parents names numbers keys more closed → Refines n start closed → One closed v w) →
        MergedAll n parents names numbers keys more settling.fork_rows settling.back_rows settling.more_rows to from fl'
        fh' bl' bh' ml' mh' firsts seconds firsts' seconds' tail tail' →
        Settling n parents names numbers keys more start groups' fl' fh' bl' bh' ml' mh' firsts' seconds' done tail'
    settling-joined {firsts' = firsts'} {seconds'} {tail' = tail'} two put pair all =
        let reached = settling.reached in
        let parents_below = settling.ready.parents_below in
        record {
          fork_rows = all.forks.rows';
          back_rows = all.backs.rows';
          more_rows = all.others.rows';
          ready = settling.ready;
          coarser = λ x y hx hy e. two.coarser x y hx hy (settling.coarser x y hx hy e);
          reached =
              reached-more
              (reached-more
              (reached-more (reached-joined reached two pair) all.forks.grew
              (merged-added reached settling.forks parents_below put all.forks below (λ closed by. by.forks)))
              all.backs.grew
              (merged-added reached settling.backs below put all.backs parents_below (λ closed by. by.backs)))
              all.others.grew
              (merged-added reached settling.others below put all.others parents_below (λ closed by. by.others));
          forks =
              kind-merged reached settling.forks parents_below put all.forks (grew_none firsts seconds tail)
              (grew_more all.backs.grew all.others.grew);
          backs = kind-merged reached settling.backs below put all.backs all.forks.grew all.others.grew;
          others =
              kind-merged reached settling.others below put all.others (grew_more all.forks.grew all.backs.grew)
              (grew_none firsts' seconds' tail');
          room = omega (arith, settling.room, all.forks.counted, all.backs.counted, all.others.counted);
        }

-- ---- the pair at `done`, by the roots of its states v and w

module _ {n : ℕ} {parents names numbers keys more above above' fl fh bl bh ml mh firsts seconds : List ℕ}
    {done tail v w to from : ℕ} (forest : Forest n above) (due : done < tail) (first : v ≡ get_or firsts done 0)
    (second : w ≡ get_or seconds done 0) (roots : JoinedRoots n above above' v w to from) where
  -- both in one group: nothing to do
  pub settled-skipped :
      to ≡ from →
      SettledAt n parents names numbers keys more above above' fl fh bl bh ml mh fl fh bl bh ml mh firsts seconds firsts seconds
      done tail tail
  settled-skipped same =
      record {
        forest = roots.forest;
        settling = λ start settling.
            let inside = settling.reached.inside done (omega arith) due in
            let two =
            (roots_two n above above' v w to from forest (omega (arith, inside.0)) (omega (arith, inside.1)) roots).1 in
            settling-next
            (subst
            (λ (groups : List ℕ).
            Settling n parents names numbers keys more start groups fl fh bl bh ml mh firsts seconds done tail)
            (sym (roots.kept same)) settling)
            due (subst₂ (One (roots_of above')) first second two.together);
      }

  -- two groups made one, and their lists merged
  pub settled_joined :
      {fl' fh' bl' bh' ml' mh' firsts' seconds' : List ℕ} {tail' : ℕ} → to < from →
      ((rows₁ rows₂ rows₃ : List ℕ) → ListedAll n names keys more rows₁ rows₂ rows₃ fl fh bl bh ml mh tail →
      MergedAll n parents names numbers keys more rows₁ rows₂ rows₃ to from fl' fh' bl' bh' ml' mh' firsts seconds firsts' seconds'
      tail tail') →
      SettledAt n parents names numbers keys more above above' fl fh bl bh ml mh fl' fh' bl' bh' ml' mh' firsts seconds firsts'
      seconds' done tail tail'
  settled_joined lower merged =
      record {
        forest = roots.forest;
        settling = λ start settling.
            let inside = settling.reached.inside done (omega arith) due in
            let two =
            (roots_two n above above' v w to from forest (omega (arith, inside.0)) (omega (arith, inside.1)) roots).1 in
            let all = merged settling.fork_rows settling.back_rows settling.more_rows (listed-all settling) in
            let grew = grew_more all.forks.grew (grew_more all.backs.grew all.others.grew) in
            settling-next
            (settling-joined settling two (put_roots forest settling.ready.few lower roots)
            (λ closed by refines.
            subst₂ (One closed) (sym first) (sym second)
            ((settling.reached.safe closed by refines).1 done (omega arith) due))
            all)
            (omega (arith, grew.longer))
            (subst₂ (One (roots_of above')) (first ∙ sym (grew.firsts_kept done due)) (second ∙ sym (grew.seconds_kept done due))
            two.together);
      }
