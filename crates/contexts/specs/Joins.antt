-- The pairs of arcs that a sweep compares, and the joins that it makes at once: the partition as a forest with the lists of its arcs,
-- in which forks are closed after every join; what the comparisons need; what joining one pair, one chain and all pairs promises,
-- by the names that can be walked at the beginning of the sweep, in `old`; and the sweep. Assumes nothing.
use Rattle.std.specs.Prelude.{◌≡◌, Bool, true, false, ◌⊎◌, List, ℕ, ◌+◌, ◌<◌, ◌≤◌, length, get_or}
use Rattle.std.specs.Int.Bits.{bit_and}
use Rattle.indexed.specs.Partitions.{Refines, Labelled, ForkClosed, Share, SuffixAgree, sum}
use Rattle.indexed.specs.Passes.{SuffixClasses, Swept}
use Rattle.partition.specs.Forests.{Forest, roots_of}
use Rattle.worklist.specs.Forks.{Kept}
use Rattle.contexts.specs.Climbs.{ParentsJoined}
use Rattle.contexts.specs.Distances.{Tested}
use Rattle.contexts.specs.Sweeps.{OnChain, Falling}

-- a partition as a forest, without forks, and the lists of its arcs
pub record Live (n : ℕ) (parents names numbers above links heads firsts seconds : List ℕ) : Type 0 where
  pub forest : Forest n above
  pub kept : Kept n parents names numbers (roots_of above) links heads firsts seconds 0

-- by their sets, of two names in succession or of one, the groups that arcs v and w led into have no names in common
abbrev pub Apart : List ℕ → List ℕ → List ℕ → ℕ → ℕ → Type 0
Apart old next ahead v w =
    (bit_and (get_or ahead (get_or old v 0) 0) (get_or ahead (get_or old w 0) 0) ≡ 0)
    ⊎ (bit_and (get_or next (get_or old v 0) 0) (get_or next (get_or old w 0) 0) ≡ 0)

-- the chains of the arcs into n states
pub record Chains (n : ℕ) (links : List ℕ) : Type 0 where
  pub size : n ≤ length links
  pub falling : (v : ℕ) → v < n → Falling links (get_or links v 0) n

-- the sources of arcs v and w are joined where j names could be walked after both, and nothing is that need not be, forks closed; true
-- where anything was joined
pub record PairJoined (n j : ℕ) (parents names old : List ℕ) (v w : ℕ) (groups groups' : List ℕ) (joined : Bool) : Type 0 where
  pub labelled : Labelled n groups'
  pub coarser : Refines n groups groups'
  pub sound :
      (others : List ℕ) → ForkClosed n parents names others →
      (Share n parents names others j v w → ParentsJoined parents others v w) → Refines n groups others →
      Refines n groups' others
  pub together : Share n parents names old j v w → ParentsJoined parents groups' v w
  pub none : joined ≡ false → groups' ≡ groups
  pub some : joined ≡ true → sum groups' < sum groups

-- the same of arc v and every arc further down its chain
pub record ChainJoined (n j : ℕ) (parents names old links : List ℕ) (v : ℕ) (groups groups' : List ℕ) (joined : Bool) : Type 0
  where
    pub labelled : Labelled n groups'
    pub coarser : Refines n groups groups'
    pub sound :
        (others : List ℕ) → ForkClosed n parents names others →
        ((w : ℕ) → OnChain links (get_or links v 0) w → Share n parents names others j v w → ParentsJoined parents others v w) →
        Refines n groups others → Refines n groups' others
    pub together :
        (w : ℕ) → OnChain links (get_or links v 0) w → Share n parents names old j v w → ParentsJoined parents groups' v w
    pub none : joined ≡ false → groups' ≡ groups
    pub some : joined ≡ true → sum groups' < sum groups

-- the same of all arcs below i
pub record PairsJoined (n i j : ℕ) (parents names old links groups groups' : List ℕ) (joined : Bool) : Type 0 where
  pub labelled : Labelled n groups'
  pub coarser : Refines n groups groups'
  pub sound :
      (others : List ℕ) → ForkClosed n parents names others →
      ((v w : ℕ) → v < n → OnChain links (get_or links v 0) w → Share n parents names others j v w →
      ParentsJoined parents others v w) →
      Refines n groups others → Refines n groups' others
  pub complete :
      (v w : ℕ) → v < i → OnChain links (get_or links v 0) w → Share n parents names old j v w → ParentsJoined parents groups' v w
  pub none : joined ≡ false → groups' ≡ groups
  pub some : joined ≡ true → sum groups' < sum groups

-- the sweep by classes of one name more, whatever number of last names, where what the partition before tells is joined already;
-- the groups as they were take the place of that partition
pub record SweptBy (n m : ℕ) (parents names classes before before' groups groups' : List ℕ) (joined : Bool) : Type 0 where
  pub before_is : before' ≡ groups
  pub swept :
      (h : ℕ) → SuffixClasses n (h + 1) parents names classes → SuffixAgree n h parents names groups →
      Tested n h m parents names before groups → Swept n h m parents names groups groups' joined
  pub tested_after :
      (h : ℕ) → SuffixClasses n (h + 1) parents names classes → SuffixAgree n h parents names groups →
      Tested n h m parents names before groups → Tested n h m parents names groups groups'
