-- Forks closed at the start, and again with each pair of states that is joined from outside, with lists of the tree's arcs by
-- name that are kept in between. The arcs are of one kind: from parents, by names, to the states' own numbers. Assumes nothing.
use Rattle.std.specs.Prelude.{◌≡◌, Bool, List, ℕ, ◌+◌, ◌<◌, ◌≤◌, length, get_or}
use Rattle.base.specs.Limits.{state_limit}
use Rattle.base.specs.Lists.{numbers_from}
use Rattle.indexed.specs.Partitions.{Refines, Labelled, KeyClosed}
use Rattle.partition.specs.Joins.{JoinedTwo}
use Rattle.partition.specs.Forests.{Forest, roots_of}
use Rattle.worklist.specs.Lists.{pair_limit, live, Grew}
use Rattle.worklist.specs.Settling.{JoinedUntil, Joins, Kind, QueueRoom, Reached}

-- a tree of n states, at most 512, with the states' own numbers
pub record ForksReady (n : ℕ) (parents names numbers : List ℕ) : Type 0 where
  pub few : n ≤ state_limit
  pub parents_size : length parents ≡ n
  pub names_size : length names ≡ n
  pub parents_below : (v : ℕ) → v < n → get_or parents v 0 < n
  pub own : numbers ≡ numbers_from n 0

-- nothing is pending
abbrev pub Nothing : List ℕ → Type 0
Nothing others = Unit {0}

-- what is kept from pair to pair: lists of a partition that is closed, and room in the queue for a pair for each arc in a list
pub record Kept (n : ℕ) (parents names numbers groups links heads firsts seconds : List ℕ) (tail : ℕ) : Type 0 where
  pub rows : List ℕ
  pub labelled : Labelled n groups
  pub kind : Kind n parents numbers names groups rows links heads Nothing
  pub room : tail + live rows ≤ pair_limit
  pub queue : QueueRoom firsts seconds

-- the arcs of a partition whose forks are closed, in lists: what a search needs of them
pub record ForkLists (n : ℕ) (parents names groups links heads : List ℕ) : Type 0 where
  pub rows : List ℕ
  pub kind : Kind n parents (numbers_from n 0) names groups rows links heads Nothing

-- what holds while the pairs from `done` on are still to be joined: arcs are covered once they are, and the queue has room
pub record Closing
    (n : ℕ) (parents names numbers start groups links heads firsts seconds : List ℕ) (done tail : ℕ) : Type 0 where
  pub rows : List ℕ
  pub ready : ForksReady n parents names numbers
  pub reached : Reached (KeyClosed n parents numbers names) n start groups firsts seconds done tail
  pub kind : Kind n parents numbers names groups rows links heads (Joins firsts seconds done tail)
  pub room : tail + live rows ≤ pair_limit

-- two states joined: what held before holds after, where every closed partition joins them
pub record JoinedPair
    (n : ℕ) (names numbers above above' links heads links' heads' firsts seconds firsts' seconds' : List ℕ) (v w tail tail' : ℕ)
    : Type 0 where
  pub forest : Forest n above'
  pub two : (joined : Bool) × JoinedTwo n v w (roots_of above) (roots_of above') joined
  pub grew : Grew firsts seconds firsts' seconds' tail tail'
  pub closing :
      (parents start : List ℕ) (done : ℕ) →
      ((closed : List ℕ) → KeyClosed n parents numbers names closed → Refines n start closed →
      get_or closed v 0 ≡ get_or closed w 0) →
      Closing n parents names numbers start (roots_of above) links heads firsts seconds done tail →
      Closing n parents names numbers start (roots_of above') links' heads' firsts' seconds' done tail'

-- the pairs of the queue joined up to `done`
pub record SettledForks
    (n : ℕ) (names numbers above above' links heads links' heads' firsts seconds firsts' seconds' : List ℕ) (tail done tail' : ℕ)
    : Type 0 where
  pub forest : Forest n above'
  pub coarser : Refines n (roots_of above) (roots_of above')
  pub closing :
      (parents start : List ℕ) →
      Closing n parents names numbers start (roots_of above) links heads firsts seconds 0 tail →
      Closing n parents names numbers start (roots_of above') links' heads' firsts' seconds' done tail'

-- joined until forks are closed, and the lists kept
pub record KeptClosed
    (n : ℕ) (parents names numbers start groups' links' heads' firsts' seconds' : List ℕ) (tail' : ℕ) : Type 0 where
  pub until : JoinedUntil (KeyClosed n parents numbers names) n start groups'
  pub kept : Kept n parents names numbers groups' links' heads' firsts' seconds' tail'

-- two states joined and forks closed again: nothing else is joined, and the lists are kept
pub record TwoClosed
    (n : ℕ) (parents names numbers : List ℕ) (v w : ℕ) (above above' links' heads' firsts' seconds' : List ℕ) : Type 0 where
  pub forest : Forest n above'
  pub until :
      JoinedUntil (λ (others : List ℕ). KeyClosed n parents numbers names others × (get_or others v 0 ≡ get_or others w 0)) n
      (roots_of above) (roots_of above')
  pub kept : Kept n parents names numbers (roots_of above') links' heads' firsts' seconds' 0
