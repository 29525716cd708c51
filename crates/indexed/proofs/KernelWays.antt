-- Ways modulo the kernel of a partition that is closed under forks by number: they are put together and cut apart, and lead from
-- one group into one group. Assumes nothing.
use mathlib.Core.Path.{refl, sym, ◌∙◌}
use mathlib.Core.List.{List, [], ◌∷◌, ◌++◌, Memᴰ as In}
use Prim.Native.Nat.{ℕ}
use lib.ListN.{length, get_or}
use Rattle.model.specs.Classes.{Word}
use Rattle.model.specs.Joinings.{tree_of}
use Rattle.model.proofs.Notions.{Fits, Ways, Ker, ◌▸◌}
use Rattle.indexed.specs.Trees.{TreeArrays}
use Rattle.indexed.specs.Partitions.{ForkClosed}
use Rattle.indexed.proofs.Kernels.{arc-number, ker_numbers, numbers_ker}

-- ---- the kernel is an equivalence

module _ (nodes : List Word) (groups : List ℕ) where
  pub ker_refl : (u : Word) → In u nodes → Ker nodes groups u u
  ker_refl u m = record { left_node = m; right_node = m; one_group = refl }

  pub ker_sym : (u w : Word) → Ker nodes groups u w → Ker nodes groups w u
  ker_sym u w r = record { left_node = r.right_node; right_node = r.left_node; one_group = sym r.one_group }

  pub ker_trans : (u v w : Word) → Ker nodes groups u v → Ker nodes groups v w → Ker nodes groups u w
  ker_trans u v w r s =
      record { left_node = r.left_node; right_node = s.right_node; one_group = r.one_group ∙ s.one_group }

  -- ---- ways modulo the kernel

  way_from : (q u v t : Word) → Ker nodes groups u v → Ways nodes (Ker nodes groups) v q t → Ways nodes (Ker nodes groups) u q t
  way_from [] u v t r f = ker_trans u v t r f
  way_from (a ∷ q) u v t r f = (f.0, f.1, ker_trans u v f.0 r f.2, f.3, f.4)

  pub ways_append :
      (p q u v t : Word) → Ways nodes (Ker nodes groups) u p v → Ways nodes (Ker nodes groups) v q t →
      Ways nodes (Ker nodes groups) u (p ++ q) t
  ways_append [] q u v t f g = way_from q u v t f g
  ways_append (a ∷ p) q u v t f g = (f.0, f.1, f.2, f.3, ways_append p q (f.0 ▸ a) v t f.4 g)

  pub ways_split :
      (p q u t : Word) → In u nodes → Ways nodes (Ker nodes groups) u (p ++ q) t →
      (v : Word) × In v nodes × Ways nodes (Ker nodes groups) u p v × Ways nodes (Ker nodes groups) v q t
  ways_split [] q u t m f = (u, m, ker_refl u m, f)
  ways_split (a ∷ p) q u t m f =
      let r = ways_split p q (f.0 ▸ a) t f.3 f.4 in
      (r.0, r.1, (f.0, f.1, f.2, f.3, r.2), r.3)

-- a way modulo one relation is one modulo a wider one
pub ways_wider :
    (nodes : List Word) (R S : Word → Word → Type 0) → ((u w : Word) → R u w → S u w) → (p u w : Word) →
    Ways nodes R u p w → Ways nodes S u p w
ways_wider nodes R S wider [] u w f = wider u w f
ways_wider nodes R S wider (a ∷ p) u w f =
    (f.0, f.1, wider u f.0 f.2, f.3, ways_wider nodes R S wider p (f.0 ▸ a) w f.4)

-- ---- forks

module _ (rows : List Word) (parents names groups : List ℕ) (tree : TreeArrays rows parents names)
    (fits : Fits (tree_of rows) groups) (forks : ForkClosed (length (tree_of rows)) parents names groups) where
  pub ker_fork :
      (u w : Word) (a : ℕ) → Ker (tree_of rows) groups u w → In (u ▸ a) (tree_of rows) → In (w ▸ a) (tree_of rows) →
      Ker (tree_of rows) groups (u ▸ a) (w ▸ a)
  ker_fork u w a r m n =
      let i = arc-number rows parents names tree u a m in
      let j = arc-number rows parents names tree w a n in
      let x = i.number in
      let y = j.number in
      numbers_ker rows groups fits x y (u ▸ a) (w ▸ a) i.low j.low i.is_word j.is_word
      (forks x y i.not_root j.not_root i.low j.low (i.by_name ∙ sym j.by_name)
      (ker_numbers rows groups fits (get_or parents x 0) (get_or parents y 0) u w i.parent_low j.parent_low
      i.from_word j.from_word r))

  -- ways by one word from one group lead into one group
  pub ker_along :
      (p u w s t : Word) → Ker (tree_of rows) groups u w → Ways (tree_of rows) (Ker (tree_of rows) groups) u p s →
      Ways (tree_of rows) (Ker (tree_of rows) groups) w p t → Ker (tree_of rows) groups s t
  ker_along [] u w s t r f g =
      ker_trans (tree_of rows) groups s u t (ker_sym (tree_of rows) groups u s f) (ker_trans (tree_of rows) groups u w t r g)
  ker_along (a ∷ p) u w s t r f g =
      let x = f.0 in
      let y = g.0 in
      let one : Ker (tree_of rows) groups x y =
      ker_trans (tree_of rows) groups x u y (ker_sym (tree_of rows) groups u x f.2)
      (ker_trans (tree_of rows) groups u w y r g.2) in
      ker_along p (x ▸ a) (y ▸ a) s t (ker_fork x y a one f.3 g.3) f.4 g.4
