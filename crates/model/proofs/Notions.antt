-- The notions of the argument: trees of words, walks between groups, ways modulo a relation, relations closed under a class's
-- rules, partitions inside a relation, and a partition's kernel. The relation is a parameter everywhere: nothing is said of
-- a least one. Assumes nothing.
use mathlib.Core.Path.{◌≡◌}
use mathlib.Core.Bool.{true, false}
use mathlib.Core.List.{List, [], ◌∷◌, ◌++◌, Memᴰ as In}
use Prim.Native.Nat.{ℕ, ◌+◌, ◌≤◌}
use lib.Dec.{eqb}
use lib.ListN.{length}
use Rattle.base.specs.Lists.{Distinct}
use Rattle.model.specs.Fields.{Class}
use Rattle.model.specs.Classes.{Word, f_of}
use Rattle.model.specs.Joinings.{Transition, transition, group_at}

-- a word with one name more
abbrev pub ◌▸◌ : Word → ℕ → Word
w ▸ a = w ++ (a ∷ [])

infixl 60 ◌▸◌
-- a tree of words: the root is there, no word twice, and with a word what it goes on from
pub record Tree (nodes : List Word) : Type 0 where
  pub root : In [] nodes
  pub distinct : Distinct nodes
  pub parent : (w : Word) (a : ℕ) → In (w ▸ a) nodes → In w nodes

-- a partition has a group for each node
pub record Fits (nodes : List Word) (groups : List ℕ) : Type 0 where
  pub lengths : length groups ≡ length nodes

-- the joined automaton goes from x to y by the word
abbrev pub Walks : List Transition → ℕ → Word → ℕ → Type 0
Walks ts x [] y = x ≡ y
Walks ts x (a ∷ p) y = (z : ℕ) × In (transition x a z) ts × Walks ts z p y

-- the tree goes from u to w by the word, modulo the relation R before each arc and at the end
abbrev pub Ways : List Word → (Word → Word → Type 0) → Word → Word → Word → Type 0
Ways nodes R u [] w = R u w
Ways nodes R u (a ∷ p) w = (v : Word) × In v nodes × R u v × In (v ▸ a) nodes × Ways nodes R (v ▸ a) p w

-- the two ends of two ways of one context: u and w are nodes, p leads into both and q out of both
pub record OneContext (c : Class) (nodes : List Word) (R : Word → Word → Type 0) (u w : Word) : Type 0 where
  pub p : Word
  pub q : Word
  pub low : c.second ≤ length p
  pub size : length p + length q ≡ c.first
  pub from_u : Word
  pub from_w : Word
  pub to_u : Word
  pub to_w : Word
  pub from_u_node : In from_u nodes
  pub from_w_node : In from_w nodes
  pub u_node : In u nodes
  pub w_node : In w nodes
  pub to_u_node : In to_u nodes
  pub to_w_node : In to_w nodes
  pub into_u : Ways nodes R from_u p u
  pub into_w : Ways nodes R from_w p w
  pub out_of_u : Ways nodes R u q to_u
  pub out_of_w : Ways nodes R w q to_w

-- a relation on words is closed under the rules of the class, for these rows and nodes
pub record Closed (c : Class) (rows nodes : List Word) (R : Word → Word → Type 0) : Type 0 where
  pub reflexive : (u : Word) → In u nodes → R u u
  pub symmetric : (u w : Word) → R u w → R w u
  pub transitive : (u v w : Word) → R u v → R v w → R u w
  pub fork : (u w : Word) (a : ℕ) → R u w → In (u ▸ a) nodes → In (w ▸ a) nodes → R (u ▸ a) (w ▸ a)
  pub context : eqb c.kind 0 ≡ true → (u w : Word) → OneContext c nodes R u w → R u w
  pub ends :
      eqb c.kind 0 ≡ false → (u w r s : Word) → f_of c u ≡ f_of c w → In u nodes → In w nodes →
      In r nodes → In s nodes → R u r → R w s → In r rows → In s rows → R u w
  pub back :
      eqb c.kind 0 ≡ false → (u w r s : Word) (a : ℕ) → f_of c u ≡ f_of c w → In u nodes → In w nodes →
      In r nodes → In s nodes → R u r → R w s → In (r ▸ a) nodes → In (s ▸ a) nodes → R (r ▸ a) (s ▸ a) → R u w

-- nodes of one group are related
pub record Inside (nodes : List Word) (groups : List ℕ) (R : Word → Word → Type 0) : Type 0 where
  pub related : (u w : Word) → In u nodes → In w nodes → group_at nodes groups u ≡ group_at nodes groups w → R u w

-- the kernel of a partition: two nodes of one group
pub record Ker (nodes : List Word) (groups : List ℕ) (u w : Word) : Type 0 where
  pub left_node : In u nodes
  pub right_node : In w nodes
  pub one_group : group_at nodes groups u ≡ group_at nodes groups w

-- two words with the same f
pub record SameF (c : Class) (u w : Word) : Type 0 where
  pub same_f : f_of c u ≡ f_of c w
