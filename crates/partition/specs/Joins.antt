-- What making the groups of two states one promises. Assumes nothing.
use Rattle.std.specs.Prelude.{◌≡◌, Bool, true, false, List, ℕ, ◌<◌, get_or}
use Rattle.indexed.specs.Partitions.{Refines, Labelled, sum}

-- the groups of v and w made one, nothing else joined; true where they were two
pub record JoinedTwo (n v w : ℕ) (groups groups' : List ℕ) (joined : Bool) : Type 0 where
  pub labelled : Labelled n groups'
  pub coarser : Refines n groups groups'
  pub sound :
      (others : List ℕ) → get_or others v 0 ≡ get_or others w 0 → Refines n groups others → Refines n groups' others
  pub together : get_or groups' v 0 ≡ get_or groups' w 0
  pub none : joined ≡ false → groups' ≡ groups
  pub some : joined ≡ true → sum groups' < sum groups
