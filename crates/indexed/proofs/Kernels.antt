-- The kernel of a partition by state number, the tree's arcs by number, and ways out of two states by one word, which are names
-- that they share. Assumes nothing.
use mathlib.Core.Path.{◌≡◌, refl, sym, ap, ◌∙◌, subst, subst₂}
use mathlib.Core.List.Memᴰ
use mathlib.Core.List.{List, [], ◌∷◌, Memᴰ as In}
use Prim.Native.Nat.{ℕ, zero, suc, ◌<◌}
use native.Mathlib.Omega.{arith}
use lib.ListN.{length, get_or}
use Rattle.model.specs.Classes.{Word}
use Rattle.model.specs.Joinings.{tree_of}
use Rattle.model.proofs.Notions.{Fits, Ways, Ker, ◌▸◌}
use Rattle.indexed.specs.Trees.{word_at, TreeArrays}
use Rattle.indexed.specs.Partitions.{Share}
use Rattle.indexed.proofs.Words.{word_at-in, number_of, root_word, group_at-number, snoc_word, length-snoc}

-- the state that an arc leads to, by number
pub record ArcNumber (rows : List Word) (parents names : List ℕ) (u : Word) (a : ℕ) : Type 0 where
  pub number : ℕ
  pub not_root : 0 < number
  pub low : number < length (tree_of rows)
  pub parent_low : get_or parents number 0 < length (tree_of rows)
  pub is_word : word_at rows number ≡ u ▸ a
  pub from_word : word_at rows (get_or parents number 0) ≡ u
  pub by_name : get_or names number 0 ≡ a

module _ (rows : List Word) (parents names : List ℕ) (tree : TreeArrays rows parents names) where
  pub parent_below : (v : ℕ) → 0 < v → v < length (tree_of rows) → get_or parents v 0 < length (tree_of rows)
  parent_below v pos h = omega (arith, tree.parent_before v pos h)

  -- the arc into a state, as a node
  pub arc-into :
      (v : ℕ) → 0 < v → v < length (tree_of rows) → In (word_at rows (get_or parents v 0) ▸ get_or names v 0) (tree_of rows)
  arc-into v pos h = Memᴰ.cast (sym (tree.word v pos h)) (word_at-in rows v h)

  pub arc-number : (u : Word) (a : ℕ) → In (u ▸ a) (tree_of rows) → ArcNumber rows parents names u a
  arc-number u a m =
      let r = number_of rows (u ▸ a) m in
      let pos : 0 < r.0 = above r.0 r.2 in
      let p = get_or parents r.0 0 in
      let parts = snoc_word (word_at rows p) u (get_or names r.0 0) a (sym (tree.word r.0 pos r.1) ∙ r.2) in
      record {
        number = r.0;
        not_root = pos;
        low = r.1;
        parent_low = parent_below r.0 pos r.1;
        is_word = r.2;
        from_word = parts.0;
        by_name = parts.1;
      }
    where
      above : (v : ℕ) → word_at rows v ≡ u ▸ a → 0 < v
      above zero e = let z : ⊥ = omega (arith, ap length (sym (root_word rows) ∙ e), length-snoc u a) in absurd z
      above (suc v) e = omega arith

module _ (rows : List Word) (groups : List ℕ) (fits : Fits (tree_of rows) groups) where
  -- states of one group by number are related by the kernel, and the other way round
  pub number-ker :
      (v w : ℕ) → v < length (tree_of rows) → w < length (tree_of rows) → get_or groups v 0 ≡ get_or groups w 0 →
      Ker (tree_of rows) groups (word_at rows v) (word_at rows w)
  number-ker v w h k e =
      record {
        left_node = word_at-in rows v h;
        right_node = word_at-in rows w k;
        one_group = group_at-number rows groups v fits h ∙ e ∙ sym (group_at-number rows groups w fits k);
      }

  pub ker_number :
      (v w : ℕ) → v < length (tree_of rows) → w < length (tree_of rows) →
      Ker (tree_of rows) groups (word_at rows v) (word_at rows w) → get_or groups v 0 ≡ get_or groups w 0
  ker_number v w h k r = sym (group_at-number rows groups v fits h) ∙ r.one_group ∙ group_at-number rows groups w fits k

  -- the same of numbers given by their words
  pub ker_numbers :
      (v w : ℕ) (x y : Word) → v < length (tree_of rows) → w < length (tree_of rows) → word_at rows v ≡ x → word_at rows w ≡ y →
      Ker (tree_of rows) groups x y → get_or groups v 0 ≡ get_or groups w 0
  ker_numbers v w x y h k e f r =
      ker_number v w h k (subst₂ (λ (s t : Word). Ker (tree_of rows) groups s t) (sym e) (sym f) r)

  pub numbers_ker :
      (v w : ℕ) (x y : Word) → v < length (tree_of rows) → w < length (tree_of rows) → word_at rows v ≡ x → word_at rows w ≡ y →
      get_or groups v 0 ≡ get_or groups w 0 → Ker (tree_of rows) groups x y
  numbers_ker v w x y h k e f g =
      subst₂ (λ (s t : Word). Ker (tree_of rows) groups s t) e f (number-ker v w h k g)

-- two states go on by one word of m names, modulo one group
pub record TwoWays (rows : List Word) (groups : List ℕ) (m : ℕ) (v w : ℕ) : Type 0 where
  pub by : Word
  pub size : length by ≡ m
  pub to_v : Word
  pub to_w : Word
  pub to_v_node : In to_v (tree_of rows)
  pub to_w_node : In to_w (tree_of rows)
  pub way_v : Ways (tree_of rows) (Ker (tree_of rows) groups) (word_at rows v) by to_v
  pub way_w : Ways (tree_of rows) (Ker (tree_of rows) groups) (word_at rows w) by to_w

module _ (rows : List Word) (parents names groups : List ℕ) (tree : TreeArrays rows parents names)
    (fits : Fits (tree_of rows) groups) where
  -- one step more in front of a way
  way-more :
      (v x a : ℕ) (q t : Word) → v < length (tree_of rows) → 0 < x → x < length (tree_of rows) → get_or names x 0 ≡ a →
      get_or groups (get_or parents x 0) 0 ≡ get_or groups v 0 →
      Ways (tree_of rows) (Ker (tree_of rows) groups) (word_at rows x) q t →
      Ways (tree_of rows) (Ker (tree_of rows) groups) (word_at rows v) (a ∷ q) t
  way-more v x a q t h pos low e g f =
      let p = get_or parents x 0 in
      let below = parent_below rows parents names tree x pos low in
      let is_word : word_at rows x ≡ word_at rows p ▸ a = tree.word x pos low ∙ ap (λ (b : ℕ). word_at rows p ▸ b) e in (
        word_at rows p,
        word_at-in rows p below,
        number-ker rows groups fits v p h below (sym g),
        Memᴰ.cast (sym is_word) (word_at-in rows x low),
        subst (λ (u : Word). Ways (tree_of rows) (Ker (tree_of rows) groups) u q t) is_word f,
      )

  pub share_ways :
      (m v w : ℕ) → v < length (tree_of rows) → w < length (tree_of rows) →
      Share (length (tree_of rows)) parents names groups m v w → TwoWays rows groups m v w
  share_ways zero v w h k s =
      record {
        by = [];
        size = refl;
        to_v = word_at rows v;
        to_w = word_at rows w;
        to_v_node = word_at-in rows v h;
        to_w_node = word_at-in rows w k;
        way_v = number-ker rows groups fits v v h h refl;
        way_w = number-ker rows groups fits w w k k refl;
      }
  share_ways (suc j) v w h k s =
      let x = s.0 in
      let y = s.1 in
      let rest = share_ways j x y s.4 s.5 s.9 in
      record {
        by = get_or names x 0 ∷ rest.by;
        size = ap suc rest.size;
        to_v = rest.to_v;
        to_w = rest.to_w;
        to_v_node = rest.to_v_node;
        to_w_node = rest.to_w_node;
        way_v = way-more v x (get_or names x 0) rest.by rest.to_v h s.2 s.4 refl s.7 rest.way_v;
        way_w = way-more w y (get_or names x 0) rest.by rest.to_w k s.3 s.5 (sym s.6) s.8 rest.way_w;
      }

  pub ways_share :
      (q : Word) (v w : ℕ) (x y t z : Word) → v < length (tree_of rows) → w < length (tree_of rows) →
      word_at rows v ≡ x → word_at rows w ≡ y →
      Ways (tree_of rows) (Ker (tree_of rows) groups) x q t → Ways (tree_of rows) (Ker (tree_of rows) groups) y q z →
      Share (length (tree_of rows)) parents names groups (length q) v w
  ways_share [] v w x y t z h k e f s r = tt
  ways_share (a ∷ q) v w x y t z h k e f s r =
      let i = arc-number rows parents names tree s.0 a s.3 in
      let j = arc-number rows parents names tree r.0 a r.3 in (
        i.number,
        j.number,
        i.not_root,
        j.not_root,
        i.low,
        j.low,
        i.by_name ∙ sym j.by_name,
        sym (ker_numbers rows groups fits v (get_or parents i.number 0) x s.0 h i.parent_low e i.from_word s.2),
        sym (ker_numbers rows groups fits w (get_or parents j.number 0) y r.0 k j.parent_low f j.from_word r.2),
        ways_share q i.number j.number (s.0 ▸ a) (r.0 ▸ a) t z i.low j.low i.is_word j.is_word
            s.4 r.4,
      )
