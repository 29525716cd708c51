-- What the parts of a joining promise, each by itself: it joins only what every closed partition joins; a sweep that joined nothing
-- found the partition closed, and one that joined made a sum fall. So a faster part may take a plainer one's place. Assumes
-- nothing.
use Rattle.std.specs.Prelude.{◌≡◌, ◌⊎◌, ◌↔◌, Bool, true, false, cond, List, map, ℕ, ◌+◌, ◌^◌, ◌<◌, ◌≤◌, eqb, length, get_or}
use Rattle.std.specs.Bool.{beq}
use Rattle.std.specs.Int.Bits.{bit_or}
use Rattle.base.specs.Limits.{name_limit, state_limit}
use Rattle.indexed.specs.Trees.{SameSuffix, up}
use Rattle.indexed.specs.Partitions.{Refines, Labelled, ForkClosed, ContextClosed, EndsClosed, BackClosed, sum}

-- every state of group y put into group x
unfoldable pub relabelled : ℕ → ℕ → List ℕ → List ℕ
relabelled x y groups = map (λ (g : ℕ). cond (eqb g y) x g) groups

-- a sweep over pairs of groups that m names leave in common, of a partition without forks
pub record Swept (n h m : ℕ) (parents names groups groups' : List ℕ) (joined : Bool) : Type 0 where
  pub labelled : Labelled n groups'
  pub coarser : Refines n groups groups'
  pub sound :
      (others : List ℕ) → ForkClosed n parents names others → ContextClosed n h m parents names others →
      Refines n groups others → Refines n groups' others
  pub none : joined ≡ false → (groups' ≡ groups) × ContextClosed n h m parents names groups
  pub some : joined ≡ true → sum groups' < sum groups

-- suffix classes: states with the same last i names have the same class, the first such state; `state_limit` for
-- states with fewer
pub record SuffixClasses (n i : ℕ) (parents names classes : List ℕ) : Type 0 where
  pub size : length classes ≡ n
  pub few : (v : ℕ) → v < n → get_or classes v 0 ≤ state_limit
  pub low : (v : ℕ) → v < n → get_or classes v 0 < state_limit → get_or classes v 0 ≤ v
  pub own : (v : ℕ) → v < n → get_or classes v 0 < state_limit → get_or classes (get_or classes v 0) 0 ≡ get_or classes v 0
  pub alike :
      (v w : ℕ) → v < n → w < n →
      ((get_or classes v 0 < state_limit) × (get_or classes v 0 ≡ get_or classes w 0)) ↔ SameSuffix parents names i v w

-- values by which a state is known as itself where it has fewer than k names, and by its last k names otherwise
pub record SuffixAlike (n k : ℕ) (parents names values : List ℕ) : Type 0 where
  pub alike :
      (v w : ℕ) → v < n → w < n →
      (get_or values v 0 ≡ get_or values w 0) ↔ ((v ≡ w) ⊎ SameSuffix parents names k v w)

-- the partition by last k names, states with fewer each by itself
pub record BySuffix (n k : ℕ) (parents names groups : List ℕ) : Type 0 where
  pub labelled : Labelled n groups
  pub alike :
      (v w : ℕ) → v < n → w < n →
      (get_or groups v 0 ≡ get_or groups w 0) ↔ ((v ≡ w) ⊎ SameSuffix parents names k v w)

-- the partition in which only states in which rows end, of one class of f, are joined
pub record ByEnds (n : ℕ) (ends classes groups : List ℕ) : Type 0 where
  pub labelled : Labelled n groups
  pub alike :
      (v w : ℕ) → v < n → w < n →
      (get_or groups v 0 ≡ get_or groups w 0)
      ↔ ((v ≡ w) ⊎ ((0 < get_or ends v 0) × (0 < get_or ends w 0) × (get_or classes v 0 ≡ get_or classes w 0)))

-- joined by the context rule until none applies
pub record ContextJoined (n k h : ℕ) (parents names groups : List ℕ) : Type 0 where
  pub labelled : Labelled n groups
  pub sound :
      (m : ℕ) → h + m ≡ k → (others : List ℕ) → ForkClosed n parents names others →
      ContextClosed n h m parents names others → (v w : ℕ) → v < n → w < n →
      get_or groups v 0 ≡ get_or groups w 0 → get_or others v 0 ≡ get_or others w 0
  pub fork_closed : ForkClosed n parents names groups
  pub context_closed : (m : ℕ) → h + m ≡ k → ContextClosed n h m parents names groups

-- joined by the rule of f until none applies
pub record FJoined (n : ℕ) (parents names ends classes groups : List ℕ) : Type 0 where
  pub labelled : Labelled n groups
  pub sound :
      (others : List ℕ) → Refines n others classes → ForkClosed n parents names others →
      EndsClosed n ends classes others → BackClosed n parents names classes others → Refines n groups others
  pub fork_closed : ForkClosed n parents names groups
  pub ends_closed : EndsClosed n ends classes groups
  pub back_closed : BackClosed n parents names classes groups

-- the j-th name before the last of each state, the name of its j-th ancestor; `name_limit` where there is none
pub record NamesAbove (n j : ℕ) (parents names keys : List ℕ) : Type 0 where
  pub size : length keys ≡ n
  pub above : (v : ℕ) → v < n → get_or keys v 0 ≡ get_or names (up parents j v) 0

-- the set of names seen on the way to each state, as 64 bits
pub record SeenSets (n : ℕ) (parents names seen : List ℕ) : Type 0 where
  pub size : length seen ≡ n
  pub root_seen : get_or seen 0 0 ≡ 0
  pub arc_seen : (v : ℕ) → 0 < v → v < n → get_or seen v 0 ≡ bit_or (get_or seen (get_or parents v 0) 0) (2 ^ get_or names v 0)

-- states with the same value, a set or a code of names, have the same class, the first such state
pub record ByValue (n : ℕ) (values classes : List ℕ) : Type 0 where
  pub labelled : Labelled n classes
  pub alike : (v w : ℕ) → v < n → w < n → (get_or classes v 0 ≡ get_or classes w 0) ↔ (get_or values v 0 ≡ get_or values w 0)

-- the names of the arcs that do enlarge the seen set, or of those that do not; `name_limit` at the other
-- arcs and at the root
pub record KeysWhere (n : ℕ) (enlarge : Bool) (parents names seen keys : List ℕ) : Type 0 where
  pub size : length keys ≡ n
  pub root_key : get_or keys 0 0 ≡ name_limit
  pub key :
      (v : ℕ) → 0 < v → v < n →
      get_or keys v 0
      ≡ cond (beq (eqb (get_or seen v 0) (get_or seen (get_or parents v 0) 0)) enlarge) name_limit (get_or names v 0)
