-- Turns of the loops. One step of the code is one state of the definition: where the child is there, where it is appended, where
-- there is no room. The walk along a row: begun, gone on, out of room, ended with a new row or with one that was there. The rows of a
-- book: begun, gone on with a new row or with one that was there, out of room, ended. Assumes nothing.
use mathlib.Core.Path.{◌≡◌, refl, sym, ap, ◌∙◌, subst}
use mathlib.Core.Bool.{Bool, true, false}
use mathlib.Core.List.Memᴰ
use mathlib.Core.List.{List, [], ◌∷◌, ◌++◌}
use Prim.Native.Nat.{ℕ, suc, ◌+◌, ◌<◌, ◌≤◌}
use native.Mathlib.Numerals.{add-one}
use native.Mathlib.Omega.{arith}
use borrow.Author.Tests.{lt-ltb, le-ltb}
use lib.ListN.{length, get_or, take}
use lib.Seq.{take-suc, take_all}
use Rattle.base.specs.Limits.{name_limit, book_rows, state_limit, tree_too_large, when, work_bytes}
use Rattle.base.specs.Lists.{same, has_row, copies}
use Rattle.std.specs.Prelude.{Ok, Err}
use Rattle.base.specs.declared.refusals.Refusal.TheVariants as refusal
use Rattle.model.specs.Classes.{Word}
use Rattle.model.specs.Joinings.{beginnings, with_states, with_rows, tree_of}
use Rattle.model.specs.Calls.{tree_fault, different_rows}
use Rattle.judging.specs.Offsets.{body_at, next_at, offset_at, fields_at}
use Rattle.judging.proofs.OffsetLaws.{fields_more, offset_suc, field_within, field_at_lem, length_fields}
use Rattle.prefix_tree.specs.declared.Growing.{Growing}
use Rattle.prefix_tree.specs.Children.{IsChild, NoChild}
use Rattle.prefix_tree.specs.Growth.{Store, store, held, Sized, Grown, appended, longer, with_state}
use Rattle.prefix_tree.specs.Growth.{Stepped, StepTooMany, Ended, FewRows, RowAdded, RowTooMany, RowOf, RowBelow}
use Rattle.prefix_tree.specs.Growth.{RowsBelow, TreeBuilt, TreeOf}
use Rattle.base.proofs.Tests.{not_told, told-false, same_tests, tells_eqb, tells_not, tells_has_row}
use Rattle.base.proofs.Totals.{many_few}
use Rattle.base.proofs.Places.{nth_in}
use Rattle.indexed.proofs.Ends.{row_copies}
use Rattle.model.proofs.DifferentRows.{different_few, different_again, different_new}
use Rattle.prefix_tree.proofs.WordLaws.{snoc_new, snoc_length}
use Rattle.prefix_tree.proofs.TreeLaws.{with_state-there, with_state-new, walked, walked_none, walked_more, walked-longer}
use Rattle.prefix_tree.proofs.TreeLaws.{tree_of-more, tree_of-longer}
use Rattle.prefix_tree.proofs.GrowthLaws.{child_word, child_met, child_new, appended-grown, row_met, ended-grown}
use Rattle.prefix_tree.proofs.GrowthLaws.{grown_built}

-- a tree as it grows has room for every state
pub sized : (t : Growing) {work : List ℕ} → work_bytes ≤ length work → Sized t.parents t.names t.ends work
sized t room =
    record { parents_size = t.sized.0; names_size = t.sized.1; ends_size = t.sized.2; work_size = room }

-- ---- one step

module _ (count state name : ℕ) (s : Store) (low : state < count) (small : name < name_limit) where
  pub step-found : (c : ℕ) → count ≤ state_limit → IsChild count state name s.parents s.names c
      → Stepped count state name s s c count
  step-found c few is =
      record {
        below = is.below;
        few = few;
        grown =
            λ nodes rows g.
            rw (with_state-there nodes (longer nodes state name) (child_met g state name low small c is))
            (g, child_word g state name low small c is);
      }

  pub step-appended : (s' : Store) → count < state_limit → Sized s.parents s.names s.ends s.work
      → NoChild count state name s.parents s.names s.work
      → s' ≡ appended count state name s
      → Stepped count state name s s' count (count + 1)
  step-appended s' room sizes no_one e =
      subst (λ (t : Store). Stepped count state name s t count (count + 1)) (sym e)
      (record {
        below = omega arith;
        few = omega arith;
        grown =
            λ nodes rows g.
            let out = child_new g state name low small no_one in
            rw (with_state-new nodes (longer nodes state name) out) (
              appended-grown g state name low small room sizes out,
              snoc_new nodes (longer nodes state name) count g.size,
            );
      })

  pub step-full : state_limit ≤ count → NoChild count state name s.parents s.names s.work → StepTooMany count state name s
  step-full full no_one =
      record {
        over =
            λ nodes rows g.
            rw (with_state-new nodes (longer nodes state name) (child_new g state name low small no_one))
            (omega (arith, snoc_length nodes (longer nodes state name), g.size));
      }

-- ---- the walk along a row

-- the first i entries of the row are walked: the arrays hold the tree with their beginnings, and the state is their word
pub record Walking (row : Word) (count : ℕ) (s₀ s : Store) (n state i : ℕ) : Type 0 where
  pub within : i ≤ length row
  pub low : state < n
  pub few : n ≤ state_limit
  pub work_kept : length s.work ≡ length s₀.work
  pub grown :
      (nodes rows : List Word) → Grown nodes rows count s₀ →
      Grown (walked nodes row i) rows n s × (get_or (walked nodes row i) state [] ≡ take i row)

pub walking-begins : (row : Word) (count : ℕ) (s : Store) → 0 < count → count ≤ state_limit
    → Walking row count s s count 0 0
walking-begins row count s some few =
    record {
      within = omega arith;
      low = some;
      few = few;
      work_kept = refl;
      grown =
          λ nodes rows g.
          rw (walked_none nodes row (Memᴰ.cast (sym g.root) (nth_in [] nodes 0 (omega (arith, g.size))))) (g, g.root);
    }

module _ {row : Word} {count : ℕ} {s₀ s : Store} {n state i : ℕ}
    (w : Walking row count s₀ s n state i) (more : i < length row) where
  -- the word of the next state is the next beginning
  next_word : (nodes rows : List Word) → Grown nodes rows count s₀
      → longer (walked nodes row i) state (get_or row i 0) ≡ take i row ++ (get_or row i 0 ∷ [])
  next_word nodes rows g = ap (λ (u : Word). u ++ (get_or row i 0 ∷ [])) (w.grown nodes rows g).1

  next_walked : (nodes rows : List Word) → Grown nodes rows count s₀
      → with_state (walked nodes row i) (longer (walked nodes row i) state (get_or row i 0)) ≡ walked nodes row (suc i)
  next_walked nodes rows g = ap (with_state (walked nodes row i)) (next_word nodes rows g) ∙ sym (walked_more nodes row i more)

  walking-next : {s' : Store} {v m : ℕ} → Stepped n state (get_or row i 0) s s' v m
      → length s'.work ≡ length s.work
      → Walking row count s₀ s' m v (suc i)
  walking-next {s'} {v} {m} is kept =
      record {
        within = more;
        low = is.below;
        few = is.few;
        work_kept = kept ∙ w.work_kept;
        grown =
            λ nodes rows g.
            let next = is.grown (walked nodes row i) rows (w.grown nodes rows g).0 in (
              subst (λ (l : List Word). Grown l rows m s') (next_walked nodes rows g) next.0,
              ap (λ (l : List Word). get_or l v []) (sym (next_walked nodes rows g))
                  ∙ next.1
                  ∙ next_word nodes rows g
                  ∙ sym (take-suc row i 0 more),
            );
      }

  pub walking-goes : {s' : Store} {v m : ℕ} → Stepped n state (get_or row i 0) s s' v m
      → length s'.work ≡ length s.work
      → Walking row count s₀ s' m v (i + 1)
  walking-goes {s'} {v} {m} is kept =
      subst (λ (k : ℕ). Walking row count s₀ s' m v k) (sym (add-one i)) (walking-next is kept)

  pub walking-full : StepTooMany n state (get_or row i 0) s → RowTooMany row count s₀
  walking-full full =
      record {
        over =
            λ nodes rows g.
            let over = full.over (walked nodes row i) rows (w.grown nodes rows g).0 in
            omega (arith, over, ap length (next_walked nodes rows g), walked-longer nodes row (suc i));
      }

-- a row that was there adds no state, so one for which there is no room was not there
pub row_full :
    {row : Word} {count : ℕ} {s s' : Store} (n : ℕ) → count ≤ state_limit → RowTooMany row count s →
    RowOf row count s s' n (Err refusal.TreeTooLarge)
row_full {row} {count} {s} {s'} n few full =
    record {
      told =
          λ nodes rows g.
          told-false (tells_has_row row rows)
          (λ m. omega (arith, few, full.over nodes rows g, ap length (row_met g row m), g.size));
      tree = (refl, full);
    }

-- in every state fewer rows end than a book may have
pub walking-few :
    {row : Word} {count : ℕ} {s₀ s : Store} {n state i : ℕ} →
    Walking row count s₀ s n state i → FewRows count s₀ → get_or s.ends state 0 < book_rows
walking-few {row} {count} {s₀} {s} {n} {state} {i} w f =
    omega (
      arith,
      f.few,
      (w.grown f.nodes f.rows f.grown).0.ends_at state w.low,
      many_few (same (get_or (walked f.nodes row i) state [])) f.rows,
    )

-- the whole row is walked, and its end counted
module _ {row : Word} {count : ℕ} {s₀ s : Store} {n state i : ℕ} {ends' : List ℕ} {before : Bool}
    (f : FewRows count s₀) (w : Walking row count s₀ s n state i) (done : length row ≤ i)
    (room : length s.ends ≡ state_limit) (end : Ended s.ends ends' state before) where
  -- the arrays hold the tree with the row's beginnings, and the state is the row
  whole-walked : (nodes rows : List Word) → Grown nodes rows count s₀
      → Grown (with_states nodes (beginnings row)) rows n s × (get_or (with_states nodes (beginnings row)) state [] ≡ row)
  unfolding walked
  whole-walked nodes rows g =
      subst (λ (u : Word). Grown (with_states nodes (beginnings u)) rows n s × (get_or (with_states nodes (beginnings u)) state [] ≡ u))
      (take_all i row done) (w.grown nodes rows g)

  -- the row was there exactly if one ended in its state
  walked_told : (nodes rows : List Word) → Grown nodes rows count s₀ → has_row row rows ≡ before
  walked_told nodes rows g =
      let walk = whole-walked nodes rows g in
      let many : get_or s.ends state 0 ≡ copies row rows =
      walk.0.ends_at state w.low ∙ ap (λ (u : Word). copies u rows) walk.1 in
      same_tests (tells_has_row row rows) (tells_not (tells_eqb (get_or s.ends state 0) 0))
      (λ m e. omega (arith, (row_copies row rows).1 m, e))
      (λ (some : get_or s.ends state 0 ≡ 0 → ⊥). (row_copies row rows).0 (omega arith))
      ∙ sym end.was

  walked-ended : (nodes rows : List Word) → Grown nodes rows count s₀
      → Grown (with_states nodes (beginnings row)) (rows ++ (row ∷ [])) n (store s.parents s.names ends' s.work)
  walked-ended nodes rows g =
      let walk = whole-walked nodes rows g in
      subst
      (λ (a : List ℕ).
      Grown (with_states nodes (beginnings row)) (rows ++ (row ∷ [])) n (store s.parents s.names a s.work))
      (sym end.set_is)
      (ended-grown walk.0 state row w.low walk.1 (omega (arith, w.low, w.few)))

  -- where the row was there, there are as many states as before
  again_size : before ≡ true → n ≡ count
  again_size was =
      let walk = whole-walked f.nodes f.rows f.grown in
      sym walk.0.size
      ∙ ap length (row_met f.grown row ((tells_has_row row f.rows).fact (walked_told f.nodes f.rows f.grown ∙ was)))
      ∙ f.grown.size

  pub walking-ended : RowOf row count s₀ (store s.parents s.names ends' s.work) n (Ok before)
  walking-ended =
      record {
        told = walked_told;
        tree = (record { some = omega (arith, w.low); few = w.few; grown = walked-ended }, again_size);
      }

-- ---- the rows of a book

-- the arrays hold the tree of the first i rows, of which so many are different
pub record Adding (book : List ℕ) (start items : ℕ) (work₀ : List ℕ) (s : Store) (n distinct at i : ℕ) : Type 0 where
  pub within : i ≤ items
  pub at_is : at ≡ offset_at book start i
  pub some : 0 < n
  pub few : n ≤ state_limit
  pub work_kept : length s.work ≡ length work₀
  pub grown : Grown (tree_of (fields_at book start i)) (fields_at book start i) n s
  pub different : distinct ≡ length (different_rows (fields_at book start i))

pub adding_begins : (book : List ℕ) (start items : ℕ) {work : List ℕ} {s : Store} {n : ℕ} → Grown ([] ∷ []) [] n s
    → length s.work ≡ length work → Adding book start items work s n 0 start 0
unfolding tree_of with_rows fields_at offset_at different_rows
adding_begins book start items grown kept =
    record {
      within = omega arith;
      at_is = refl;
      some = omega (arith, grown.size);
      few = omega (arith, grown.size);
      work_kept = kept;
      grown = grown;
      different = refl;
    }

-- no more rows are different than were added
pub adding_few :
    {book : List ℕ} {start items : ℕ} {work₀ : List ℕ} {s : Store} {n distinct at i : ℕ} →
    Adding book start items work₀ s n distinct at i → distinct ≤ i
adding_few {book} {start} {items} {work₀} {s} {n} {distinct} {at} {i} a =
    omega (arith, a.different, different_few (fields_at book start i), length_fields book start i)

module _ {book : List ℕ} {start items : ℕ} {work₀ : List ℕ} {s : Store} {n distinct at i : ℕ}
    (a : Adding book start items work₀ s n distinct at i) (more : i < items) where
  -- the next row lies within the book
  pub adding-fits : offset_at book start items ≤ length book → next_at book at ≤ length book
  adding-fits fits = rw a.at_is (omega (arith, fits, field_within book start items i more))

  -- and is one of the rows
  pub adding_below : RowsBelow (fields_at book start items) → RowBelow (body_at book at)
  adding_below below =
      rw (a.at_is, ← field_at_lem book start items i more)
      (below (get_or (fields_at book start items) i [])
      (nth_in [] (fields_at book start items) i (omega (arith, length_fields book start items))))

  -- fewer rows are added than a book may have
  pub adding_few_rows : items ≤ book_rows → FewRows n s
  adding_few_rows few =
      record {
        nodes = tree_of (fields_at book start i);
        rows = fields_at book start i;
        few = omega (arith, few, length_fields book start i);
        grown = a.grown;
      }

  tree_next : tree_of (fields_at book start (suc i)) ≡ with_states (tree_of (fields_at book start i)) (beginnings (body_at book at))
  tree_next =
      tree_of-more book start i
      ∙ ap (λ (k : ℕ). with_states (tree_of (fields_at book start i)) (beginnings (body_at book k))) (sym a.at_is)

  rows_next : fields_at book start (suc i) ≡ fields_at book start i ++ (body_at book at ∷ [])
  rows_next = fields_more book start i ∙ ap (λ (k : ℕ). fields_at book start i ++ (body_at book k ∷ [])) (sym a.at_is)

  adding_next : {s' : Store} {n' distinct' next : ℕ} → RowAdded (body_at book at) n s s' n'
      → distinct' ≡ length (different_rows (fields_at book start i ++ (body_at book at ∷ [])))
      → length s'.work ≡ length s.work
      → next ≡ next_at book at
      → Adding book start items work₀ s' n' distinct' next (i + 1)
  adding_next {s'} {n'} {distinct'} {next} is different kept e =
      subst (λ (k : ℕ). Adding book start items work₀ s' n' distinct' next k) (sym (add-one i))
      (record {
        within = more;
        at_is = e ∙ ap (λ (k : ℕ). next_at book k) a.at_is ∙ sym (offset_suc book start i);
        some = is.some;
        few = is.few;
        work_kept = kept ∙ a.work_kept;
        grown = rw (tree_next, rows_next) (is.grown (tree_of (fields_at book start i)) (fields_at book start i) a.grown);
        different = rw rows_next different;
      })

  -- the answer tells whether the row is among the first i
  module _ {s' : Store} {n' next : ℕ} (kept : length s'.work ≡ length s.work)
      (e : next ≡ next_at book at) where
    pub adding_new :
        {again : Bool} → RowOf (body_at book at) n s s' n' (Ok again) → again ≡ false →
        Adding book start items work₀ s' n' (distinct + 1) next (i + 1)
    adding_new is e-false =
        let told = is.told (tree_of (fields_at book start i)) (fields_at book start i) a.grown ∙ e-false in
        let out = not_told (tells_has_row (body_at book at) (fields_at book start i)) told in
        let one_more = different_new (fields_at book start i) (body_at book at) out in
        adding_next is.tree.0 (omega (arith, one_more, a.different)) kept e

    pub adding_again :
        {again : Bool} → RowOf (body_at book at) n s s' n' (Ok again) → again ≡ true →
        Adding book start items work₀ s' n' distinct next (i + 1)
    adding_again is e-true =
        let told = is.told (tree_of (fields_at book start i)) (fields_at book start i) a.grown ∙ e-true in
        let met = (tells_has_row (body_at book at) (fields_at book start i)).fact told in
        let no_more = different_again (fields_at book start i) (body_at book at) met in
        adding_next is.tree.0 (a.different ∙ sym no_more) kept e

  pub adding_full : RowTooMany (body_at book at) n s → tree_too_large ≡ tree_fault (fields_at book start items)
  adding_full full =
      let over = full.over (tree_of (fields_at book start i)) (fields_at book start i) a.grown in
      let large : state_limit < length (tree_of (fields_at book start items)) =
      omega (arith, over, ap length tree_next, tree_of-longer book start (suc i) items more) in
      sym (ap (λ (b : Bool). when b tree_too_large) (lt-ltb _ (length (tree_of (fields_at book start items))) (omega arith)))

pub adding_ends :
    {book : List ℕ} {start items : ℕ} {work₀ : List ℕ} {s : Store} {n distinct at i : ℕ} →
    Adding book start items work₀ s n distinct at i → items ≤ i → items ≤ book_rows → Sized s.parents s.names s.ends s.work →
    TreeBuilt (fields_at book start items) s n distinct
adding_ends {book} {start} {items} {work₀} {s} {n} {distinct} {at} {i} a done few sizes =
    let all : i ≡ items = omega (arith, a.within) in
    subst (λ (k : ℕ). TreeBuilt (fields_at book start k) s n distinct) all
    (grown_built (fields_at book start i) n distinct s a.grown a.some a.few
    (omega (arith, few, length_fields book start i))
    a.different
    sizes)

module _ (t t' : Growing) {work work' : List ℕ} (kept : length work' ≡ length work) where
  -- a tree that is built is not too large
  pub tree_built :
      {rows : List Word} {distinct : ℕ} → TreeBuilt rows (held t' work') t'.count distinct →
      TreeOf rows (held t work) (held t' work') t'.count (Ok distinct)
  tree_built {rows} {distinct} built =
      record {
        number = sym (ap (λ (b : Bool). when b tree_too_large) (le-ltb _ (length (tree_of rows)) (omega (arith, built.size, built.few))));
        built =
            λ other e.
            let same-number : distinct ≡ other = cc in
            subst (λ (d : ℕ). TreeBuilt rows (held t' work') t'.count d) same-number built;
        parents_kept = t'.sized.0 ∙ sym t.sized.0;
        names_kept = t'.sized.1 ∙ sym t.sized.1;
        ends_kept = t'.sized.2 ∙ sym t.sized.2;
        work_kept = kept;
      }

  pub tree_refused :
      {rows : List Word} → tree_too_large ≡ tree_fault rows →
      TreeOf rows (held t work) (held t' work') t'.count (Err refusal.TreeTooLarge)
  tree_refused number =
      record {
        number = number;
        built = λ distinct e. cc;
        parents_kept = t'.sized.0 ∙ sym t.sized.0;
        names_kept = t'.sized.1 ∙ sym t.sized.1;
        ends_kept = t'.sized.2 ∙ sym t.sized.2;
        work_kept = kept;
      }
