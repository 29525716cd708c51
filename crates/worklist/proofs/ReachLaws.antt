-- Laws of a partition reached with pairs pending in the queue, whatever closed means: none pending yet, two groups made one, pairs
-- added that every closed partition joins, the first pair taken, and none left. Assumes nothing.
use mathlib.Core.Path.{◌≡◌, sym, subst, subst₂}
use mathlib.Core.Logic.{◌⊎◌, inl, inr}
use mathlib.Core.Bool.{Bool}
use mathlib.Core.List.{List}
use Prim.Native.Nat.{ℕ, suc, ◌<◌, ◌≤◌}
use native.Mathlib.Omega.{arith}
use lib.ListN.{get_or}
use Rattle.base.proofs.Tests.{eq_dec, le_or_lt}
use Rattle.indexed.specs.Partitions.{Refines, Labelled}
use Rattle.partition.specs.Joins.{JoinedTwo}
use Rattle.worklist.specs.Lists.{Grew}
use Rattle.worklist.specs.Settling.{JoinedUntil, Joins, QueueRoom, Reached}
use Rattle.worklist.proofs.QueueLaws.{queue_grew}

-- ---- pairs of the queue

-- a partition has both states of a pair in one group
abbrev pub One : List ℕ → ℕ → ℕ → Type 0
One groups x y = get_or groups x 0 ≡ get_or groups y 0

-- both states of a pair are states
abbrev pub Two : ℕ → ℕ → ℕ → Type 0
Two n x y = (x < n) × (y < n)

-- each pair that stands in the queue, at `from` or later and before `to`, has a property
abbrev pub Each : (ℕ → ℕ → Type 0) → List ℕ → List ℕ → ℕ → ℕ → Type 0
Each P firsts seconds from to = (i : ℕ) → from ≤ i → i < to → P (get_or firsts i 0) (get_or seconds i 0)

module _ {firsts seconds firsts' seconds' : List ℕ} {tail tail' : ℕ} (grew : Grew firsts seconds firsts' seconds' tail tail')
    (P : ℕ → ℕ → Type 0) where
  -- each of the longer queue, so each of the shorter
  pub each-shorter : (done : ℕ) → Each P firsts' seconds' done tail' → Each P firsts seconds done tail
  each-shorter done each i low high =
      subst₂ P (grew.firsts_kept i high) (grew.seconds_kept i high) (each i low (omega (arith, grew.longer)))

  -- each of the shorter queue and each that was added, so each of the longer
  each_longer :
      (done : ℕ) → Each P firsts seconds done tail → Each P firsts' seconds' tail tail' → Each P firsts' seconds' done tail'
  each_longer done old new i low high = go (le_or_lt tail i)
    where
      go : (tail ≤ i) ⊎ (i < tail) → P (get_or firsts' i 0) (get_or seconds' i 0)
      go (inl h) = new i h high
      go (inr h) = subst₂ P (sym (grew.firsts_kept i h)) (sym (grew.seconds_kept i h)) (old i low h)

-- the first, and each after it
pub each_first :
    (P : ℕ → ℕ → Type 0) (firsts seconds : List ℕ) (done tail : ℕ) → P (get_or firsts done 0) (get_or seconds done 0) →
    Each P firsts seconds (suc done) tail → Each P firsts seconds done tail
each_first P firsts seconds done tail first each i low high = go (eq_dec i done)
  where
    go : (i ≡ done) ⊎ (i ≡ done → ⊥) → P (get_or firsts i 0) (get_or seconds i 0)
    go (inl e) = subst (λ (j : ℕ). P (get_or firsts j 0) (get_or seconds j 0)) (sym e) first
    go (inr d) = each i (omega arith) high

-- ---- what is reached

-- pairs of states that every closed partition joins which is coarser than this one
pub record Added
    (Closed : List ℕ → Type 0) (n : ℕ) (groups firsts seconds : List ℕ) (tail tail' : ℕ) : Type 0 where
  pub inside : Each (Two n) firsts seconds tail tail'
  pub joined : (closed : List ℕ) → Closed closed → Refines n groups closed → Joins firsts seconds tail tail' closed

module _ {Closed : List ℕ → Type 0} {n : ℕ} {start groups firsts seconds : List ℕ} where
  -- none is pending yet, and the start is as coarse or coarser
  pub reached_none :
      {tail : ℕ} → Labelled n groups → Refines n groups start → QueueRoom firsts seconds →
      Reached Closed n start groups firsts seconds tail tail
  reached_none labelled finer queue =
      record {
        labelled = labelled;
        safe = λ closed by refines. (
          λ x y hx hy e. refines x y hx hy (finer x y hx hy e),
          λ i low high. let z : ⊥ = omega arith in absurd z,
        );
        inside = λ i low high. let z : ⊥ = omega arith in absurd z;
        order = omega arith;
        queue = queue;
      }

  module _ {done tail : ℕ} (reached : Reached Closed n start groups firsts seconds done tail) where
    -- the groups of two states that every closed partition joins are made one
    pub reached-joined :
        {groups' : List ℕ} {v w : ℕ} {joined : Bool} → JoinedTwo n v w groups groups' joined →
        ((closed : List ℕ) → Closed closed → Refines n start closed → One closed v w) →
        Reached Closed n start groups' firsts seconds done tail
    reached-joined two pair =
        record {
          labelled = two.labelled;
          safe = λ closed by refines.
              let old = reached.safe closed by refines in
              (two.sound closed (pair closed by refines) old.0, old.1);
          inside = reached.inside;
          order = reached.order;
          queue = reached.queue;
        }

    -- pairs are added
    pub reached-more :
        {firsts' seconds' : List ℕ} {tail' : ℕ} → Grew firsts seconds firsts' seconds' tail tail' →
        Added Closed n groups firsts' seconds' tail tail' → Reached Closed n start groups firsts' seconds' done tail'
    reached-more grew added =
        record {
          labelled = reached.labelled;
          safe = λ closed by refines.
              let old = reached.safe closed by refines in
              (old.0, each_longer grew (One closed) done old.1 (added.joined closed by old.0));
          inside = each_longer grew (Two n) done reached.inside added.inside;
          order = omega (arith, reached.order, grew.longer);
          queue = queue_grew grew reached.queue;
        }

    -- the first pair is taken
    pub reached-next : done < tail → Reached Closed n start groups firsts seconds (suc done) tail
    reached-next due =
        record {
          labelled = reached.labelled;
          safe = λ closed by refines.
              let old = reached.safe closed by refines in
              (old.0, λ i low high. old.1 i (omega arith) high);
          inside = λ i low high. reached.inside i (omega arith) high;
          order = omega arith;
          queue = reached.queue;
        }

    -- closed: joined until closed
    pub reached-done : Refines n start groups → Closed groups → JoinedUntil Closed n start groups
    reached-done coarser closed =
        record {
          labelled = reached.labelled;
          coarser = coarser;
          sound = λ others by refines. (reached.safe others by refines).0;
          closed = closed;
        }
