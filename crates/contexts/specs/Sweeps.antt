-- The arcs that the sweep over pairs goes by. In order: the first arc of each group and name, as a set of names for each group; the
-- chains of the near ones among these arcs by class, and the links of the far ones; and the arcs on a chain. A group goes by its
-- label, an arc by the state that it leads into. Assumes nothing.
use Rattle.std.specs.Prelude.{◌≡◌, List, ℕ, zero, suc, ◌+◌, ◌<◌, ◌≤◌, get_or, set}
use Rattle.base.specs.Limits.{state_limit}
use Rattle.indexed.specs.Chains.{Chained}
use Rattle.base.specs.Bits.{bit}
use Rattle.contexts.specs.Distances.{distance_of}

-- no arc before v has its name and leaves its group
abbrev pub FirstArc : List ℕ → List ℕ → List ℕ → ℕ → Type 0
FirstArc parents names old v =
    (u : ℕ) → 0 < u → u < v → get_or names u 0 ≡ get_or names v 0 →
    get_or old (get_or parents u 0) 0 ≡ get_or old (get_or parents v 0) 0 → ⊥

-- the first arc below i that leads by name a out of group x
pub record ArcOf (i : ℕ) (parents names old : List ℕ) (x a : ℕ) : Type 0 where
  pub target : ℕ
  pub no_root : 0 < target
  pub below : target < i
  pub name_is : get_or names target 0 ≡ a
  pub from_x : get_or old (get_or parents target 0) 0 ≡ x
  pub first : FirstArc parents names old target

-- the arcs into the states below i: bit a of a group's set is set exactly if name a leads out of the group
pub record Linked (i : ℕ) (parents names old next : List ℕ) : Type 0 where
  pub leaves : (v : ℕ) → 0 < v → v < i → bit (get_or names v 0) (get_or next (get_or old (get_or parents v 0) 0) 0) ≡ 1
  pub arc : (x a : ℕ) → bit a (get_or next x 0) ≡ 1 → ArcOf i parents names old x a

-- each name that leads out of a group is in its set
abbrev pub AllLeave : ℕ → List ℕ → List ℕ → List ℕ → List ℕ → Type 0
AllLeave n parents names old next =
    (v : ℕ) → 0 < v → v < n → bit (get_or names v 0) (get_or next (get_or old (get_or parents v 0) 0) 0) ≡ 1

-- arc v is of class b: it is the first of its name out of its group, and leads into a state of this class
pub record Listed (parents names classes old : List ℕ) (b v : ℕ) : Type 0 where
  pub classed : b < state_limit
  pub class_is : get_or classes v 0 ≡ b
  pub no_root : 0 < v
  pub first : FirstArc parents names old v

-- fewer than j arcs lead from where arc v leads to a group that has grown
abbrev pub Near : ℕ → List ℕ → List ℕ → ℕ → Type 0
Near j old dist v = distance_of old dist v < j

-- j arcs or more do
abbrev pub Far : ℕ → List ℕ → List ℕ → ℕ → Type 0
Far j old dist v = j ≤ distance_of old dist v

-- arc v is in the chain of class b: it is of this class, and near
pub record ListedNear (j : ℕ) (parents names classes old dist : List ℕ) (b v : ℕ) : Type 0 where
  pub listed : Listed parents names classes old b v
  pub near : Near j old dist v

-- the mark of a far arc until the chains are whole, instead of a link
abbrev pub waiting : ℕ
waiting = state_limit + 1

-- the links and heads after arc v, the first of its name out of its group, is put into its chain, if it is near, or marked, if it
-- is far; one without a class is left alone
pub record Placed (j v : ℕ) (classes old dist links heads links' heads' : List ℕ) : Type 0 where
  pub short : state_limit ≤ get_or classes v 0 → (links' ≡ links) × (heads' ≡ heads)
  pub far : get_or classes v 0 < state_limit → Far j old dist v → (links' ≡ set links v waiting) × (heads' ≡ heads)
  pub near :
      get_or classes v 0 < state_limit → Near j old dist v →
      (links' ≡ set links v (get_or heads (get_or classes v 0) 0)) × (heads' ≡ set heads (get_or classes v 0) (v + 1))

-- the arcs into the states below i, as sets and chains of near arcs; far arcs are marked, and only they are; what has a link or
-- the mark has a class
pub record ArcsLinked (i j : ℕ) (parents names classes old dist next links heads : List ℕ) : Type 0 where
  pub linked : Linked i parents names old next
  pub chained : Chained i (ListedNear j parents names classes old dist) links heads
  pub listed : (v : ℕ) → 0 < get_or links v 0 → Listed parents names classes old (get_or classes v 0) v
  pub far :
      (v : ℕ) → v < i → Listed parents names classes old (get_or classes v 0) v → Far j old dist v → get_or links v 0 ≡ waiting
  pub waits : (v : ℕ) → get_or links v 0 ≡ waiting → Far j old dist v

-- a link in the end: instead of the mark the head of the class
pub record Settled (link class : ℕ) (heads : List ℕ) (link' : ℕ) : Type 0 where
  pub marked : link ≡ waiting → link' ≡ get_or heads class 0
  pub other : (link ≡ waiting → ⊥) → link' ≡ link

-- the links of n arcs in the end
abbrev pub FarLinked : ℕ → List ℕ → List ℕ → List ℕ → List ℕ → Type 0
FarLinked n classes heads links links' =
    (v : ℕ) → v < n → Settled (get_or links v 0) (get_or classes v 0) heads (get_or links' v 0)

-- the arcs into n states, as sets and chains of near arcs; far arcs link to the last near arc of their class
pub record ArcsReady (n j : ℕ) (parents names classes old dist next links heads : List ℕ) : Type 0 where
  pub linked : Linked n parents names old next
  pub chained : Chained n (ListedNear j parents names classes old dist) links heads
  pub listed : (v : ℕ) → v < n → 0 < get_or links v 0 → Listed parents names classes old (get_or classes v 0) v
  pub far :
      (v : ℕ) → v < n → Listed parents names classes old (get_or classes v 0) v → Far j old dist v →
      get_or links v 0 ≡ get_or heads (get_or classes v 0) 0

-- k links down a chain from a head or a link
unfoldable pub link_down : List ℕ → ℕ → ℕ → ℕ
link_down links zero at = at
link_down links (suc k) zero = 0
link_down links (suc k) (suc v) = link_down links k (get_or links v 0)

-- y is on the chain from a head or a link
abbrev pub OnChain : List ℕ → ℕ → ℕ → Type 0
OnChain links at y = (k : ℕ) × (link_down links k at ≡ suc y)

-- the arcs on a chain lead into states below n, and their links lead down
abbrev pub Falling : List ℕ → ℕ → ℕ → Type 0
Falling links at n = (w : ℕ) → OnChain links at w → (w < n) × (get_or links w 0 ≤ w)
