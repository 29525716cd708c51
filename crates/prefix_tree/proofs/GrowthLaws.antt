-- The tree so far, one turn at a time: a child found is the state of the longer word; where there is none that word is new; the
-- arrays with one state more; a row that was there; a row counted; the tree of no rows; and what the whole comes to. Assumes nothing.
use mathlib.Core.Path.{◌≡◌, refl, sym, ap, ◌∙◌}
use mathlib.Core.Logic.{⊎_elim}
use mathlib.Core.List.Memᴰ
use mathlib.Core.List.{List, [], ◌∷◌, ◌++◌, Memᴰ as In}
use Prim.Native.Nat.{ℕ, zero, suc, ◌+◌, ◌<◌, ◌≤◌}
use native.Mathlib.Omega.{arith}
use lib.ListN.{length, get_or, set}
use lib.Seq.{get_or-set_same, get_or-set_other, get_or-take, length-take-le}
use Rattle.base.specs.Limits.{name_limit, book_rows, state_limit}
use Rattle.base.specs.Lists.{total, copies}
use Rattle.model.specs.Classes.{Word}
use Rattle.model.specs.Joinings.{beginnings, with_states, tree_of}
use Rattle.model.specs.Calls.{different_rows}
use Rattle.base.proofs.Tests.{eq_dec}
use Rattle.base.specs.Cells.{cell_at, with_cell}
use Rattle.base.proofs.CellLaws.{cell_same, cell_other}
use Rattle.prefix_tree.specs.Children.{IsChild, NoChild}
use Rattle.prefix_tree.specs.Growth.{Store, store, Sized, Grown, appended, longer, TreeBuilt}
use Rattle.base.proofs.Places.{nth_in, place_of}
use Rattle.indexed.proofs.Words.{snoc_word}
use Rattle.prefix_tree.proofs.WordLaws.{snoc_not_nil, below_or_last, snoc_old, snoc_new}
use Rattle.prefix_tree.proofs.WordLaws.{snoc_length, copies-none, copies-again, copies-other}
use Rattle.prefix_tree.proofs.TreeLaws.{row_there}

-- ---- a child looked up

module _ {nodes rows : List Word} {count : ℕ} {s : Store} (g : Grown nodes rows count s) (state name : ℕ) (low : state < count)
    (small : name < name_limit) where
  -- the root has no name
  child-above-root : (c : ℕ) → get_or s.names c 0 ≡ name → 0 < c
  child-above-root zero n = let z : ⊥ = omega (arith, g.root_name, n) in absurd z
  child-above-root (suc c) n = omega arith

  pub child_word : (c : ℕ) → IsChild count state name s.parents s.names c → get_or nodes c [] ≡ longer nodes state name
  child_word c is =
      let parent : get_or s.parents c 0 ≡ state = is.parent in
      let named : get_or s.names c 0 ≡ name = is.named in
      let word = g.word c (child-above-root c named) is.below in
      rw (parent, named) at word

  pub child_met : (c : ℕ) → IsChild count state name s.parents s.names c → In (longer nodes state name) nodes
  child_met c is =
      let size : length nodes ≡ count = g.size in
      let below : c < count = is.below in
      Memᴰ.cast (sym (child_word c is)) (nth_in [] nodes c (omega arith))

  -- where the cell does not hold the child, the longer word is none of the nodes
  pub child_new : NoChild count state name s.parents s.names s.work → In (longer nodes state name) nodes → ⊥
  child_new no_one m =
      let r = place_of [] nodes (longer nodes state name) m in
      let size : length nodes ≡ count = g.size in
      let low-r : r.0 < length nodes = r.1 in
      ⊎_elim (λ e. snoc_not_nil (get_or nodes state []) name (sym r.2 ∙ ap (λ (k : ℕ). get_or nodes k []) e ∙ g.root))
      (λ d. at_state r.0 (omega (arith, d)) (omega arith) r.2)
      (eq_dec r.0 0)
    where
      at_state : (v : ℕ) → 0 < v → v < count → get_or nodes v [] ≡ longer nodes state name → ⊥
      at_state v pos h e =
          let both : get_or nodes (get_or s.parents v 0) [] ++ (get_or s.names v 0 ∷ []) ≡ longer nodes state name =
          sym (g.word v pos h) ∙ e in
          let before : get_or s.parents v 0 < v = g.parent_before v pos h in
          let parent : get_or s.parents v 0 ≡ state =
          g.single (get_or s.parents v 0) state (omega arith) low
          (snoc_word (get_or nodes (get_or s.parents v 0) []) (get_or nodes state []) (get_or s.names v 0) name both).0 in
          let named : get_or s.names v 0 ≡ name =
          (snoc_word (get_or nodes (get_or s.parents v 0) []) (get_or nodes state []) (get_or s.names v 0) name both).1 in
          let held = g.cell v pos h in
          no_one.none v h (rw (parent, named) at held) parent named

-- ---- one state more

module _ {nodes rows : List Word} {count : ℕ} {s : Store} (g : Grown nodes rows count s) (state name : ℕ) (low : state < count)
    (small : name < name_limit) (room : count < state_limit) (sizes : Sized s.parents s.names s.ends s.work)
    (out : In (longer nodes state name) nodes → ⊥) where
  old-parent : (v : ℕ) → v < count → get_or (set s.parents count state) v 0 ≡ get_or s.parents v 0
  old-parent v h = get_or-set_other s.parents count v state 0 (λ e. omega arith)

  old_name : (v : ℕ) → v < count → get_or (set s.names count name) v 0 ≡ get_or s.names v 0
  old_name v h = get_or-set_other s.names count v name 0 (λ e. omega arith)

  old_ends : (v : ℕ) → v < count → get_or (set s.ends count 0) v 0 ≡ get_or s.ends v 0
  old_ends v h = get_or-set_other s.ends count v 0 0 (λ e. omega arith)

  new_parent : get_or (set s.parents count state) count 0 ≡ state
  new_parent = get_or-set_same s.parents count state 0 (omega (arith, sizes.parents_size))

  new_name : get_or (set s.names count name) count 0 ≡ name
  new_name = get_or-set_same s.names count name 0 (omega (arith, sizes.names_size))

  new_ends : get_or (set s.ends count 0) count 0 ≡ 0
  new_ends = get_or-set_same s.ends count 0 0 (omega (arith, sizes.ends_size))

  old_word : (v : ℕ) → v < count → get_or (nodes ++ (longer nodes state name ∷ [])) v [] ≡ get_or nodes v []
  old_word v h = snoc_old nodes (longer nodes state name) v count g.size h

  new_word_at : get_or (nodes ++ (longer nodes state name ∷ [])) count [] ≡ longer nodes state name
  new_word_at = snoc_new nodes (longer nodes state name) count g.size

  -- no state so far is the child that is appended
  not_yet : (v : ℕ) → v < count → get_or nodes v [] ≡ longer nodes state name → ⊥
  not_yet v h e = out (Memᴰ.cast (sym e) (nth_in [] nodes v (omega (arith, g.size))))

  appended-before : (v : ℕ) → 0 < v → v < count + 1 → get_or (set s.parents count state) v 0 < v
  appended-before v pos h =
      ⊎_elim (λ (l : v < count). rw (old-parent v l) (g.parent_before v pos l))
      (λ (e : v ≡ count). rw (e, new_parent) low)
      (below_or_last v count h)

  appended-below : (v : ℕ) → 0 < v → v < count + 1 → get_or (set s.names count name) v 0 < name_limit
  appended-below v pos h =
      ⊎_elim (λ (l : v < count). rw (old_name v l) (g.name_below v pos l))
      (λ (e : v ≡ count). rw (e, new_name) small)
      (below_or_last v count h)

  appended-word : (v : ℕ) → 0 < v → v < count + 1
      → get_or (nodes ++ (longer nodes state name ∷ [])) v []
      ≡ get_or (nodes ++ (longer nodes state name ∷ [])) (get_or (set s.parents count state) v 0) []
      ++ (get_or (set s.names count name) v 0 ∷ [])
  appended-word v pos h =
      ⊎_elim
      (λ (l : v < count).
      let before : get_or s.parents v 0 < v = g.parent_before v pos l in
      rw (old-parent v l, old_name v l, old_word v l, old_word (get_or s.parents v 0) (omega arith)) (g.word v pos l))
      (λ (e : v ≡ count). rw (e, new_parent, new_name, new_word_at, old_word state low))
      (below_or_last v count h)

  appended-cell : (v : ℕ) → 0 < v → v < count + 1
      → cell_at (with_cell s.work state name count) (get_or (set s.parents count state) v 0) (get_or (set s.names count name) v 0)
      ≡ v
  appended-cell v pos h =
      ⊎_elim
      (λ (l : v < count).
      rw (old-parent v l, old_name v l)
      (cell_other s.work state name count (get_or s.parents v 0) (get_or s.names v 0) small (g.name_below v pos l)
      (λ p n. not_yet v l (g.word v pos l ∙ rw (p, n)))
      ∙ g.cell v pos l))
      (λ (e : v ≡ count). rw (e, new_parent, new_name) (cell_same s.work state name count (omega arith) small sizes.work_size))
      (below_or_last v count h)

  appended-single : (v w : ℕ) → v < count + 1 → w < count + 1
      → get_or (nodes ++ (longer nodes state name ∷ [])) v [] ≡ get_or (nodes ++ (longer nodes state name ∷ [])) w []
      → v ≡ w
  appended-single v w h k e =
      ⊎_elim
      (λ (l : v < count).
      ⊎_elim (λ (m : w < count). g.single v w l m (sym (old_word v l) ∙ e ∙ old_word w m))
      (λ (q : w ≡ count).
      absurd (not_yet v l
      (sym (old_word v l) ∙ e ∙ ap (λ (i : ℕ). get_or (nodes ++ (longer nodes state name ∷ [])) i []) q ∙ new_word_at)))
      (below_or_last w count k))
      (λ (p : v ≡ count).
      ⊎_elim
      (λ (m : w < count).
      absurd (not_yet w m
      (sym (old_word w m) ∙ sym e ∙ ap (λ (i : ℕ). get_or (nodes ++ (longer nodes state name ∷ [])) i []) p ∙ new_word_at)))
      (λ (q : w ≡ count). p ∙ sym q)
      (below_or_last w count k))
      (below_or_last v count h)

  appended-ends : (v : ℕ) → v < count + 1
      → get_or (set s.ends count 0) v 0 ≡ copies (get_or (nodes ++ (longer nodes state name ∷ [])) v []) rows
  appended-ends v h =
      ⊎_elim (λ (l : v < count). rw (old_ends v l, old_word v l) (g.ends_at v l))
      (λ (e : v ≡ count).
      rw (e, new_ends, new_word_at)
      (sym (copies-none (longer nodes state name) rows (λ m. out (g.rows_met (longer nodes state name) m)))))
      (below_or_last v count h)

  pub appended-grown : Grown (nodes ++ (longer nodes state name ∷ [])) rows (count + 1) (appended count state name s)
  appended-grown =
      record {
        size = snoc_length nodes (longer nodes state name) ∙ ap (λ (k : ℕ). k + 1) g.size;
        root = old_word 0 (omega arith) ∙ g.root;
        root_parent = old-parent 0 (omega arith) ∙ g.root_parent;
        root_name = old_name 0 (omega arith) ∙ g.root_name;
        parent_before = appended-before;
        name_below = appended-below;
        word = appended-word;
        cell = appended-cell;
        single = appended-single;
        rows_met = λ r m. Memᴰ.append_left (longer nodes state name ∷ []) (g.rows_met r m);
        ends_at = appended-ends;
      }

-- ---- a row that was there

module _ {nodes rows : List Word} {count : ℕ} {s : Store} (g : Grown nodes rows count s) where
  -- the parent of a state is a state
  parent_met : (w : Word) (a : ℕ) → In (w ++ (a ∷ [])) nodes → In w nodes
  parent_met w a m =
      let r = place_of [] nodes (w ++ (a ∷ [])) m in
      let size : length nodes ≡ count = g.size in
      let low : r.0 < length nodes = r.1 in
      ⊎_elim (λ e. absurd (snoc_not_nil w a (sym r.2 ∙ ap (λ (k : ℕ). get_or nodes k []) e ∙ g.root)))
      (λ d. at_state r.0 (omega (arith, d)) (omega arith) r.2)
      (eq_dec r.0 0)
    where
      at_state : (v : ℕ) → 0 < v → v < count → get_or nodes v [] ≡ w ++ (a ∷ []) → In w nodes
      at_state v pos h e =
          let parent : get_or nodes (get_or s.parents v 0) [] ≡ w =
          (snoc_word (get_or nodes (get_or s.parents v 0) []) w (get_or s.names v 0) a (sym (g.word v pos h) ∙ e)).0 in
          Memᴰ.cast (sym parent)
          (nth_in [] nodes (get_or s.parents v 0) (omega (arith, g.size, g.parent_before v pos h)))

  -- so its beginnings are there too
  pub row_met : (row : Word) → In row rows → with_states nodes (beginnings row) ≡ nodes
  row_met row m = row_there nodes parent_met row (g.rows_met row m)

-- ---- a row counted

module _ {nodes rows : List Word} {count : ℕ} {s : Store} (g : Grown nodes rows count s) (state : ℕ) (row : Word) (low : state < count)
    (is_row : get_or nodes state [] ≡ row) (fits : state < length s.ends) where
  -- the ends with the row's
  abbrev ends_more : List ℕ
  ends_more = set s.ends state (get_or s.ends state 0 + 1)

  ended-ends : (v : ℕ) → v < count → get_or ends_more v 0 ≡ copies (get_or nodes v []) (rows ++ (row ∷ []))
  ended-ends v h =
      ⊎_elim
      (λ (e : v ≡ state).
      rw (e, get_or-set_same s.ends state (get_or s.ends state 0 + 1) 0 fits, g.ends_at state low, is_row)
      (sym (copies-again rows row)))
      (λ (d : v ≡ state → ⊥).
      get_or-set_other s.ends state v (get_or s.ends state 0 + 1) 0 d
      ∙ g.ends_at v h
      ∙ sym (copies-other (get_or nodes v []) rows row (λ e. d (g.single v state h low (e ∙ sym is_row)))))
      (eq_dec v state)

  pub ended-grown : Grown nodes (rows ++ (row ∷ [])) count (store s.parents s.names ends_more s.work)
  ended-grown =
      record {
        size = g.size;
        root = g.root;
        root_parent = g.root_parent;
        root_name = g.root_name;
        parent_before = g.parent_before;
        name_below = g.name_below;
        word = g.word;
        cell = g.cell;
        single = g.single;
        rows_met =
            λ r m.
            ⊎_elim (λ k. g.rows_met r k)
            (λ k.
            Memᴰ.cast (Memᴰ.eq_of_singleton k ∙ sym is_row) (nth_in [] nodes state (omega (arith, g.size))))
            (Memᴰ.append_cases rows m);
        ends_at = ended-ends;
      }

-- ---- the tree of no rows, and the whole

pub begun-grown : (s : Store) → get_or s.parents 0 0 ≡ 0 → get_or s.names 0 0 ≡ name_limit → get_or s.ends 0 0 ≡ 0
    → Grown ([] ∷ []) [] 1 s
unfolding total
begun-grown s parent named end =
    record {
      size = refl;
      root = refl;
      root_parent = parent;
      root_name = named;
      parent_before = λ v pos h. absurd (omega arith);
      name_below = λ v pos h. absurd (omega arith);
      word = λ v pos h. absurd (omega arith);
      cell = λ v pos h. absurd (omega arith);
      single = λ v w h k e. omega arith;
      rows_met = λ r m. absurd (Memᴰ.not-nil m);
      ends_at = λ v h. let zero-v : v ≡ 0 = omega arith in rw zero-v end;
    }

pub grown_built : (rows : List Word) (n distinct : ℕ) (s : Store) → Grown (tree_of rows) rows n s → 0 < n → n ≤ state_limit
    → length rows ≤ book_rows
    → distinct ≡ length (different_rows rows)
    → Sized s.parents s.names s.ends s.work
    → TreeBuilt rows s n distinct
grown_built rows n distinct s g some few few_rows different sizes =
    record {
      size = sym g.size;
      different = different;
      few = few;
      arrays =
          record {
            parents_size = length-take-le n s.parents (omega (arith, sizes.parents_size)) ∙ sym g.size;
            names_size = length-take-le n s.names (omega (arith, sizes.names_size)) ∙ sym g.size;
            root_parent = get_or-take n s.parents 0 0 some ∙ g.root_parent;
            root_name = get_or-take n s.names 0 0 some ∙ g.root_name;
            parent_before =
                λ v pos h.
                let l : v < n = omega (arith, g.size) in
                rw (get_or-take n s.parents v 0 l) (g.parent_before v pos l);
            name_below =
                λ v pos h.
                let l : v < n = omega (arith, g.size) in
                rw (get_or-take n s.names v 0 l) (g.name_below v pos l);
            word =
                λ v pos h.
                let l : v < n = omega (arith, g.size) in
                rw (get_or-take n s.parents v 0 l, get_or-take n s.names v 0 l) (g.word v pos l);
          };
      ends =
          record {
            few_rows = few_rows;
            ends_size = length-take-le n s.ends (omega (arith, sizes.ends_size)) ∙ sym g.size;
            ends_at =
                λ v h.
                let l : v < n = omega (arith, g.size) in
                get_or-take n s.ends v 0 l ∙ g.ends_at v l;
          };
    }
