-- State numbers and words: the v-th state is its word, groups by number are groups by word, same last names by number are same
-- last names of words. First what this takes of lists. Assumes nothing.
use mathlib.Core.Path.{◌≡◌, refl, sym, ap, ap₂, ◌∙◌, subst₂}
use mathlib.Core.Logic.{◌↔◌}
use mathlib.Core.Bool.{Bool, true, false, cond}
use mathlib.Core.List.{List, [], ◌∷◌, ◌++◌, Memᴰ as In}
use mathlib.Core.List.Memᴰ
use mathlib.Core.List.{head-eq_of_cons-eq, tail-eq_of_cons-eq}
use Prim.Native.Nat.{ℕ, zero, suc, ◌+◌, ◌-◌, ◌<◌, ◌≤◌}
use native.Mathlib.Omega.{arith}
use lib.ListN.{length, get_or, length-append}
use lib.Seq.{drop-length, drop-append-le}
use Rattle.base.specs.Limits.{state_limit}
use Rattle.base.specs.Lists.{has_row, Distinct}
use Rattle.model.specs.Classes.{Word, last_names}
use Rattle.model.specs.Joinings.{beginnings, with_states, with_rows, tree_of, group_at}
use Rattle.base.proofs.Places.{nth_in, place_of, one_place}
use Rattle.model.proofs.Notions.{Fits, Inside, Ker, ◌▸◌}
use Rattle.model.proofs.GroupCases.{group_at-first, group_at-later, no_groups, fits_rest}
use Rattle.model.proofs.Trees.{tree_of-tree}
use Rattle.indexed.specs.Trees.{word_at, TreeArrays, Arrays, SameSuffix}
use Rattle.indexed.specs.Partitions.{Refines}

-- words with one name more
pub snoc_word : (u w : Word) (a b : ℕ) → u ▸ a ≡ w ▸ b → (u ≡ w) × (a ≡ b)
snoc_word [] [] a b e = (refl, head-eq_of_cons-eq e)
snoc_word [] (y ∷ w) a b e = let size : 1 ≡ suc (length (w ▸ b)) = ap length e in
    let z : ⊥ = omega (arith, length-append w (b ∷ [])) in absurd z
snoc_word (x ∷ u) [] a b e = let size : suc (length (u ▸ a)) ≡ 1 = ap length e in
    let z : ⊥ = omega (arith, length-append u (a ∷ [])) in absurd z
snoc_word (x ∷ u) (y ∷ w) a b e =
    let r = snoc_word u w a b (tail-eq_of_cons-eq e) in
    (ap₂ (λ (c : ℕ) (v : Word). c ∷ v) (head-eq_of_cons-eq e) r.0, r.1)

pub length-snoc : (u : Word) (a : ℕ) → length (u ▸ a) ≡ suc (length u)
length-snoc u a = let e : length (u ▸ a) ≡ length u + 1 = length-append u (a ∷ []) in omega arith

-- ---- words by state number

pub word_at-in : (rows : List Word) (v : ℕ) → v < length (tree_of rows) → In (word_at rows v) (tree_of rows)
word_at-in rows v h = nth_in [] (tree_of rows) v h

pub number_of : (rows : List Word) (w : Word) → In w (tree_of rows) → (v : ℕ) × (v < length (tree_of rows)) × (word_at rows v ≡ w)
number_of rows w m = place_of [] (tree_of rows) w m

pub word_at-one :
    (rows : List Word) (v w : ℕ) → v < length (tree_of rows) → w < length (tree_of rows) → word_at rows v ≡ word_at rows w → v ≡ w
word_at-one rows v w h k e = one_place [] (tree_of rows) v w (tree_of-tree rows).distinct h k e

-- states are added behind the root
first_kept_states : (u : Word) (nodes ws : List Word) → (rest : List Word) × (with_states (u ∷ nodes) ws ≡ u ∷ rest)
unfolding with_states
first_kept_states u nodes [] = (nodes, refl)
first_kept_states u nodes (w ∷ ws) = go (λ ns. first_kept_states u ns ws) (has_row w (u ∷ nodes))
  where
    go :
        ((ns : List Word) → (rest : List Word) × (with_states (u ∷ ns) ws ≡ u ∷ rest)) →
        (b : Bool) → (rest : List Word) × (with_states (cond b (u ∷ nodes) (u ∷ (nodes ++ (w ∷ [])))) ws ≡ u ∷ rest)
    go again true = again nodes
    go again false = again (nodes ++ (w ∷ []))

first_kept : (u : Word) (nodes rows : List Word) → (rest : List Word) × (with_rows (u ∷ nodes) rows ≡ u ∷ rest)
unfolding with_rows
first_kept u nodes [] = (nodes, refl)
first_kept u nodes (row ∷ rows) =
    let s = first_kept_states u nodes (beginnings row) in
    let r = first_kept u s.0 rows in
    (r.0, ap (λ (ns : List Word). with_rows ns rows) s.1 ∙ r.1)

pub root_word : (rows : List Word) → word_at rows 0 ≡ []
unfolding tree_of
root_word rows = ap (λ (ns : List Word). get_or ns 0 []) (first_kept [] [] rows).1

-- ---- groups by state number

nth_group :
    (nodes : List Word) (groups : List ℕ) (v : ℕ) → Distinct nodes → Fits nodes groups → v < length nodes →
    group_at nodes groups (get_or nodes v []) ≡ get_or groups v 0
nth_group [] groups v distinct fits h = let z : ⊥ = omega arith in absurd z
nth_group (node ∷ nodes) [] v distinct fits h = absurd (no_groups node nodes fits)
nth_group (node ∷ nodes) (g ∷ groups) zero distinct fits h = group_at-first node nodes g groups node refl
nth_group (node ∷ nodes) (g ∷ groups) (suc v) distinct fits h =
    let low : v < length nodes = omega arith in
    group_at-later node nodes g groups (get_or nodes v []) (λ e. distinct.0 (Memᴰ.cast (sym e) (nth_in [] nodes v low)))
    ∙ nth_group nodes groups v distinct.1 (fits_rest node nodes g groups fits) low

pub group_at-number :
    (rows : List Word) (groups : List ℕ) (v : ℕ) → Fits (tree_of rows) groups → v < length (tree_of rows) →
    group_at (tree_of rows) groups (word_at rows v) ≡ get_or groups v 0
group_at-number rows groups v fits h = nth_group (tree_of rows) groups v (tree_of-tree rows).distinct fits h

-- refining by number is lying inside the kernel
pub refines_inside :
    (rows : List Word) (groups others : List ℕ) → Fits (tree_of rows) groups → Fits (tree_of rows) others →
    Refines (length (tree_of rows)) groups others → Inside (tree_of rows) groups (Ker (tree_of rows) others)
refines_inside rows groups others fits fits' refines =
    record { related = λ u w m n e. record { left_node = m; right_node = n; one_group = one u w m n e } }
  where
    one :
        (u w : Word) → In u (tree_of rows) → In w (tree_of rows) →
        group_at (tree_of rows) groups u ≡ group_at (tree_of rows) groups w →
        group_at (tree_of rows) others u ≡ group_at (tree_of rows) others w
    one u w m n e =
        let x = number_of rows u m in
        let y = number_of rows w n in
        let both : get_or groups x.0 0 ≡ get_or groups y.0 0 =
        sym (group_at-number rows groups x.0 fits x.1) ∙ ap (group_at (tree_of rows) groups) x.2 ∙ e
        ∙ sym (ap (group_at (tree_of rows) groups) y.2) ∙ group_at-number rows groups y.0 fits y.1 in
        sym (ap (group_at (tree_of rows) others) x.2) ∙ group_at-number rows others x.0 fits' x.1
        ∙ refines x.0 y.0 x.1 y.1 both
        ∙ sym (group_at-number rows others y.0 fits' y.1) ∙ ap (group_at (tree_of rows) others) y.2

-- ---- arrays of a tree

pub tree_arrays :
    (rows : List Word) (parents names : List ℕ) → TreeArrays rows parents names → length (tree_of rows) ≤ state_limit →
    Arrays (length (tree_of rows)) parents names
tree_arrays rows parents names tree few =
    let root = number_of rows [] (tree_of-tree rows).root in
    let low : root.0 < length (tree_of rows) = root.1 in
    record {
      some_state = omega arith;
      few_states = few;
      parents_size = tree.parents_size;
      names_size = tree.names_size;
      root_parent = tree.root_parent;
      root_name = tree.root_name;
      parent_before = tree.parent_before;
      name_below = tree.name_below;
      one_child = λ v w pv pw hv hw e f.
          word_at-one rows v w hv hw
          (tree.word v pv hv ∙ ap₂ (λ (x a : ℕ). word_at rows x ▸ a) e f ∙ sym (tree.word w pw hw));
    }

-- ---- last names

last_none : (w : Word) → last_names 0 w ≡ []
unfolding last_names
last_none w = let e : length w - 0 ≡ length w = omega arith in rw e (drop-length w)

-- the last names of a word with one name more are one more
pub last_more : (i : ℕ) (u : Word) (a : ℕ) → i ≤ length u → last_names (suc i) (u ▸ a) ≡ last_names i u ▸ a
unfolding last_names
last_more i u a h =
    let size : length (u ▸ a) ≡ suc (length u) = length-snoc u a in
    let from : length (u ▸ a) - suc i ≡ length u - i = omega arith in
    let low : length u - i ≤ length u = omega arith in
    rw from (drop-append-le (length u - i) u (a ∷ []) low)

-- two words have at least i names, and the last i are the same
abbrev pub SameLast : ℕ → Word → Word → Type 0
SameLast i u w = (i ≤ length u) × (i ≤ length w) × (last_names i u ≡ last_names i w)

pub same-last_more :
    (i : ℕ) (u w : Word) (a b : ℕ) → SameLast (suc i) (u ▸ a) (w ▸ b) ↔ ((a ≡ b) × SameLast i u w)
same-last_more i u w a b = (to, from)
  where
    to : SameLast (suc i) (u ▸ a) (w ▸ b) → (a ≡ b) × SameLast i u w
    to s =
        let long-u : i ≤ length u = omega (arith, s.0, length-snoc u a) in
        let long-w : i ≤ length w = omega (arith, s.1, length-snoc w b) in
        let r =
        snoc_word (last_names i u) (last_names i w) a b (sym (last_more i u a long-u) ∙ s.2 ∙ last_more i w b long-w) in
        (r.1, (long-u, long-w, r.0))

    from : (a ≡ b) × SameLast i u w → SameLast (suc i) (u ▸ a) (w ▸ b)
    from s = (
      omega (arith, s.1.0, length-snoc u a),
      omega (arith, s.1.1, length-snoc w b),
      last_more i u a s.1.0 ∙ ap₂ (λ (v : Word) (c : ℕ). v ▸ c) s.1.2 s.0 ∙ sym (last_more i w b s.1.1),
    )

-- a state with a name is not the root
named : (rows : List Word) (i v : ℕ) → suc i ≤ length (word_at rows v) → 0 < v
named rows i zero h = let z : ⊥ = omega (arith, ap length (root_word rows)) in absurd z
named rows i (suc v) h = omega arith

pub suffix_words :
    (rows : List Word) (parents names : List ℕ) → TreeArrays rows parents names → (i v w : ℕ) → v < length (tree_of rows) →
    w < length (tree_of rows) →
    SameSuffix parents names i v w
    ↔ ((i ≤ length (word_at rows v)) × (i ≤ length (word_at rows w)) × (last_names i (word_at rows v) ≡ last_names i (word_at rows w)))
suffix_words rows parents names tree zero v w h k =
    (λ s. (omega arith, omega arith, last_none (word_at rows v) ∙ sym (last_none (word_at rows w))), λ s. tt)
suffix_words rows parents names tree (suc i) v w h k = (
  λ s. to s (λ p q hp hq. suffix_words rows parents names tree i p q hp hq),
  λ s. from s (λ p q hp hq. suffix_words rows parents names tree i p q hp hq),
)
  where
    parent_low : (x : ℕ) → 0 < x → x < length (tree_of rows) → get_or parents x 0 < length (tree_of rows)
    parent_low x pos low = omega (arith, tree.parent_before x pos low)

    Fewer : Type 0
    Fewer =
        (p q : ℕ) → p < length (tree_of rows) → q < length (tree_of rows) →
        SameSuffix parents names i p q ↔ SameLast i (word_at rows p) (word_at rows q)

    Last : Word → Word → Type 0
    Last x y = SameLast (suc i) x y

    to : SameSuffix parents names (suc i) v w → Fewer → SameLast (suc i) (word_at rows v) (word_at rows w)
    to s fewer =
        let x = get_or parents v 0 in
        let y = get_or parents w 0 in
        let rest = (fewer x y (parent_low v s.0 h) (parent_low w s.1 k)).0 s.3 in
        subst₂ Last (sym (tree.word v s.0 h)) (sym (tree.word w s.1 k))
        ((same-last_more i (word_at rows x) (word_at rows y) (get_or names v 0) (get_or names w 0)).1 (s.2, rest))

    from : SameLast (suc i) (word_at rows v) (word_at rows w) → Fewer → SameSuffix parents names (suc i) v w
    from s fewer =
        let x = get_or parents v 0 in
        let y = get_or parents w 0 in
        let pos-v = named rows i v s.0 in
        let pos-w = named rows i w s.1 in
        let rest =
        (same-last_more i (word_at rows x) (word_at rows y) (get_or names v 0) (get_or names w 0)).0
        (subst₂ Last (tree.word v pos-v h) (tree.word w pos-w k) s) in
        (pos-v, pos-w, rest.0, (fewer x y (parent_low v pos-v h) (parent_low w pos-w k)).1 rest.1)
