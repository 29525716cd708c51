-- Joining until closed: what it needs and promises, and what holds while pairs are still queued. Three kinds of arcs: along the
-- tree's arcs by their names, and two sets of keys against them. Assumes nothing.
use Rattle.std.specs.Prelude.{◌≡◌, List, ℕ, suc, ◌+◌, ◌<◌, ◌≤◌, length, get_or}
use Rattle.base.specs.Limits.{name_limit, state_limit}
use Rattle.base.specs.Lists.{numbers_from}
use Rattle.indexed.specs.Partitions.{Refines, Labelled, KeyClosed}
use Rattle.partition.specs.Forests.{Forest, roots_of}
use Rattle.worklist.specs.Lists.{pair_limit, live, Sorted, Filled, Merged}

-- arrays of n states, at most 512, with the states' own numbers and two sets of keys
pub record RoundReady (n : ℕ) (parents names numbers keys more groups : List ℕ) : Type 0 where
  pub few : n ≤ state_limit
  pub parents_size : length parents ≡ n
  pub names_size : length names ≡ n
  pub keys_size : length keys ≡ n
  pub more_size : length more ≡ n
  pub parents_below : (v : ℕ) → v < n → get_or parents v 0 < n
  pub own : numbers ≡ numbers_from n 0
  pub labelled : Labelled n groups

-- no state has a key
abbrev pub NoKeys : ℕ → List ℕ → Type 0
NoKeys n keys = (v : ℕ) → v < n → name_limit ≤ get_or keys v 0

-- closed under forks and under both sets of keys against the arcs
pub record RoundClosed (n : ℕ) (parents names numbers keys more groups : List ℕ) : Type 0 where
  pub forks : KeyClosed n parents numbers names groups
  pub backs : KeyClosed n numbers parents keys groups
  pub others : KeyClosed n numbers parents more groups

-- joined until closed
pub record JoinedUntil (Closed : List ℕ → Type 0) (n : ℕ) (groups groups' : List ℕ) : Type 0 where
  pub labelled : Labelled n groups'
  pub coarser : Refines n groups groups'
  pub sound : (others : List ℕ) → Closed others → Refines n groups others → Refines n groups' others
  pub closed : Closed groups'

-- a partition joins the pairs that stand in the queue from `done` on
abbrev pub Joins : List ℕ → List ℕ → ℕ → ℕ → List ℕ → Type 0
Joins firsts seconds done tail others =
    (i : ℕ) → done ≤ i → i < tail → get_or others (get_or firsts i 0) 0 ≡ get_or others (get_or seconds i 0) 0

-- an arc c of list g stands for arc v once what is pending is joined: it has its key, and outs of both are in one group of every
-- coarser partition that joins the pending pairs
pub record Covered
    (n : ℕ) (outs keys groups rows : List ℕ) (Pending : List ℕ → Type 0) (g v : ℕ) : Type 0 where
  pub arc : ℕ
  pub inside : arc < n
  pub listed : get_or rows arc 0 ≡ g
  pub keyed : get_or keys arc 0 ≡ get_or keys v 0
  pub one :
      (others : List ℕ) → Refines n groups others → Pending others →
      get_or others (get_or outs arc 0) 0 ≡ get_or others (get_or outs v 0) 0

-- arcs of one kind while pairs are pending: each listed arc is in the list of the group that ins lead into, and each arc with a
-- key is covered there
pub record Kind
    (n : ℕ) (ins outs keys groups rows links heads : List ℕ) (Pending : List ℕ → Type 0) : Type 0 where
  pub sorted : Sorted n keys rows links heads
  pub placed : (u : ℕ) → u < n → get_or rows u 0 < state_limit → get_or rows u 0 ≡ get_or groups (get_or ins u 0) 0
  pub covers :
      (v : ℕ) → v < n → get_or keys v 0 < name_limit →
      Covered n outs keys groups rows Pending (get_or groups (get_or ins v 0) 0) v

-- lists of one kind with no arc in any
pub record NoLists (links heads : List ℕ) : Type 0 where
  pub links_size : length links ≡ state_limit
  pub heads_size : length heads ≡ state_limit
  pub empty : (g : ℕ) → get_or heads g 0 ≡ 0

-- the arrays of the queue
pub record QueueRoom (firsts seconds : List ℕ) : Type 0 where
  pub firsts_size : length firsts ≡ pair_limit
  pub seconds_size : length seconds ≡ pair_limit

-- the arcs of all three kinds put into their lists, one kind after the other
pub record FilledAll
    (n : ℕ) (parents names numbers keys more groups : List ℕ)
    (fork-links fork-heads back-links back-heads more-links more-heads firsts seconds firsts' seconds' : List ℕ) (tail tail' : ℕ)
    : Type 0 where
  pub firsts₁ : List ℕ
  pub seconds₁ : List ℕ
  pub tail₁ : ℕ
  pub firsts₂ : List ℕ
  pub seconds₂ : List ℕ
  pub tail₂ : ℕ
  pub forks : Filled n parents numbers names groups fork-links fork-heads firsts seconds firsts₁ seconds₁ tail tail₁
  pub backs : Filled n numbers parents keys groups back-links back-heads firsts₁ seconds₁ firsts₂ seconds₂ tail₁ tail₂
  pub others : Filled n numbers parents more groups more-links more-heads firsts₂ seconds₂ firsts' seconds' tail₂ tail'

-- three kinds of lists, and room in the queue for a pair for each arc that is in one
pub record ListedAll
    (n : ℕ) (names keys more fork_rows back_rows more_rows : List ℕ)
    (fork-links fork-heads back-links back-heads more-links more-heads : List ℕ) (tail : ℕ) : Type 0 where
  pub forks : Sorted n names fork_rows fork-links fork-heads
  pub backs : Sorted n keys back_rows back-links back-heads
  pub others : Sorted n more more_rows more-links more-heads
  pub room : tail + live fork_rows + live back_rows + live more_rows ≤ pair_limit

-- the lists of two groups merged, one kind after the other
pub record MergedAll
    (n : ℕ) (parents names numbers keys more fork_rows back_rows more_rows : List ℕ) (to from : ℕ)
    (fork-links fork-heads back-links back-heads more-links more-heads firsts seconds firsts' seconds' : List ℕ) (tail tail' : ℕ)
    : Type 0 where
  pub firsts₁ : List ℕ
  pub seconds₁ : List ℕ
  pub tail₁ : ℕ
  pub firsts₂ : List ℕ
  pub seconds₂ : List ℕ
  pub tail₂ : ℕ
  pub forks : Merged n numbers names fork_rows to from fork-links fork-heads firsts seconds firsts₁ seconds₁ tail tail₁
  pub backs : Merged n parents keys back_rows to from back-links back-heads firsts₁ seconds₁ firsts₂ seconds₂ tail₁ tail₂
  pub others : Merged n parents more more_rows to from more-links more-heads firsts₂ seconds₂ firsts' seconds' tail₂ tail'

-- a partition reached from another, with the pairs from `done` on still to be joined: every closed partition that is coarser than
-- the one at the start is coarser than this one and joins them
pub record Reached
    (Closed : List ℕ → Type 0) (n : ℕ) (start groups firsts seconds : List ℕ) (done tail : ℕ) : Type 0 where
  pub labelled : Labelled n groups
  pub safe :
      (closed : List ℕ) → Closed closed → Refines n start closed →
      Refines n groups closed × Joins firsts seconds done tail closed
  pub inside : (i : ℕ) → done ≤ i → i < tail → (get_or firsts i 0 < n) × (get_or seconds i 0 < n)
  pub order : done ≤ tail
  pub queue : QueueRoom firsts seconds

-- what holds while the pairs from `done` on are still to be joined, from a partition that was ready: arcs of each kind are covered
-- once they are, and the queue has room for a pair for each arc that is in a list
pub record Settling
    (n : ℕ) (parents names numbers keys more start groups : List ℕ)
    (fork-links fork-heads back-links back-heads more-links more-heads firsts seconds : List ℕ) (done tail : ℕ) : Type 0 where
  pub fork_rows : List ℕ
  pub back_rows : List ℕ
  pub more_rows : List ℕ
  pub ready : RoundReady n parents names numbers keys more start
  pub coarser : Refines n start groups
  pub reached : Reached (RoundClosed n parents names numbers keys more) n start groups firsts seconds done tail
  pub forks : Kind n parents numbers names groups fork_rows fork-links fork-heads (Joins firsts seconds done tail)
  pub backs : Kind n numbers parents keys groups back_rows back-links back-heads (Joins firsts seconds done tail)
  pub others : Kind n numbers parents more groups more_rows more-links more-heads (Joins firsts seconds done tail)
  pub room : tail + live fork_rows + live back_rows + live more_rows ≤ pair_limit

-- one pair joined: what held with it pending holds without it
pub record SettledAt
    (n : ℕ) (parents names numbers keys more above above' : List ℕ)
    (fl fh bl bh ml mh fl' fh' bl' bh' ml' mh' firsts seconds firsts' seconds' : List ℕ) (done tail tail' : ℕ) : Type 0 where
  pub forest : Forest n above'
  pub settling :
      (start : List ℕ) →
      Settling n parents names numbers keys more start (roots_of above) fl fh bl bh ml mh firsts seconds done tail →
      Settling n parents names numbers keys more start (roots_of above') fl' fh' bl' bh' ml' mh' firsts' seconds' (suc done) tail'

-- all pairs joined
pub record SettledAll (n : ℕ) (parents names numbers keys more above above' : List ℕ) : Type 0 where
  pub forest : Forest n above'
  pub until : JoinedUntil (RoundClosed n parents names numbers keys more) n (roots_of above) (roots_of above')
