-- The counts file in pieces: passes from a set one by one, a field's head, its ends and its passes, and the fields in the order of the
-- states. Assumes nothing.
use mathlib.Core.Path.{◌≡◌, refl, sym, ap, ap₂, ◌∙◌, subst}
use mathlib.Core.List.Memᴰ.{head as here}
use mathlib.Core.List.Memᴰ.{tail as there}
use mathlib.Core.List.{List, [], ◌∷◌, ◌++◌, map, flat_map, Memᴰ as In}
use Prim.Native.Nat.{ℕ, suc, ◌+◌, ◌*◌, ◌^◌, ◌<◌, ◌≤◌}
use native.Mathlib.Numerals.{add-one}
use native.Mathlib.Omega.{arith}
use lib.Count.{ones}
use lib.ListN.{length, get_or, drop, drop_of_length-le}
use lib.Seq.{drop-cons, get_or-take}
use Rattle.base.specs.Limits.{name_limit, count_mark}
use Rattle.base.specs.Lists.{total, index_in}
use Rattle.base.specs.Cells.{cell_at}
use Rattle.base.specs.Sets.{TakenLowest}
use Rattle.base.proofs.Lists.{map-in}
use Rattle.base.proofs.Places.{length-numbers_from, number_at, nth_in, place_of, index_of_nth}
use Rattle.model.specs.Classes.{Word}
use Rattle.model.specs.Tables.{Arc, arc, State, empty_state, name_set, Ascending, two_bytes, field_bytes}
use Rattle.model.specs.Joinings.{tree_of, transitions_of}
use Rattle.model.specs.Quotients.{arcs_out_of, met_groups, renumbered, state_of, states_of}
use Rattle.model.proofs.Admits.{state-of_met}
use Rattle.model.proofs.Arcs.{arcs_out_of-ascending, arcs_out_of-in}
use Rattle.model.proofs.FirstMet.{met-distinct, met-in, met-few, states-length}
use Rattle.model.proofs.Notions.{Fits as FitsGroups}
use Rattle.model.proofs.Trees.{tree_of-tree}
use Rattle.indexed.specs.ArcCells.{ArcsAt}
use Rattle.indexed.proofs.ArcSets.{arcs_more, arcs_done, arcs_counted}
use Rattle.indexed.proofs.TreeArcs.{TreeArc, labels_fit, label_low, transition-number}
use Rattle.counts.specs.Counts.{ends_at, passes_of, numbers_of, count_field, counts_file}
use Rattle.counts.specs.TreeCounts.{arc_passes}
use Rattle.counts.proofs.Walked.{group_ends_lem, arc-passes}
use Rattle.writing.specs.Writing.{field_head}
use Rattle.counting.specs.Ready.{CountsReady, PassesToWrite, FieldToWrite, number_bytes}
use Rattle.counting.proofs.PassSums.{arc-passes_few}

-- ---- the passes of a field

bytes_cons : (a : Arc) (arcs : List Arc) → number_bytes (a ∷ arcs) ≡ two_bytes a.to ++ number_bytes arcs
unfolding number_bytes flat_map
bytes_cons a arcs = refl

bytes_length : (arcs : List Arc) → length (number_bytes arcs) ≡ 2 * length arcs
unfolding number_bytes flat_map
bytes_length [] = refl
bytes_length (a ∷ arcs) = omega (arith, bytes_length arcs)

no_bytes : number_bytes [] ≡ []
unfolding number_bytes flat_map
no_bytes = refl

-- there is a next arc, and what is left after it
pub record PassesMore (work : List ℕ) (row left : ℕ) (bytes : List ℕ) (name : ℕ) : Type 0 where
  pub low : name < name_limit
  pub rest : List ℕ
  pub bytes_are : bytes ≡ two_bytes (cell_at work row name) ++ rest
  pub after : PassesToWrite work row left rest

module _ {work : List ℕ} {row set : ℕ} {bytes : List ℕ} where
  pub passes_next :
      (name left : ℕ) → PassesToWrite work row set bytes → TakenLowest set name left → PassesMore work row left bytes name
  passes_next name left r taken =
      let next = arcs_more name r.arcs r.at_row taken.some taken.lowest in
      record {
        low = next.low;
        rest = number_bytes next.rest;
        bytes_are =
            r.bytes_are ∙ ap number_bytes next.is ∙ bytes_cons next.first next.rest
            ∙ ap (λ (n : ℕ). two_bytes n ++ number_bytes next.rest) (sym next.in_cell);
        after =
            record {
              size = r.size;
              arcs = next.rest;
              at_row = subst (λ (k : ℕ). ArcsAt r.size work row k next.rest) (sym taken.rest_is) next.after;
              bytes_are = refl;
            };
      }

  pub passes_done : PassesToWrite work row set bytes → set ≡ 0 → bytes ≡ []
  passes_done r h = r.bytes_are ∙ ap number_bytes (arcs_done r.arcs r.at_row (omega arith)) ∙ no_bytes

-- ---- one field

-- its head, its ends, and its passes left
pub record FieldParts (work : List ℕ) (row set : ℕ) (bytes : List ℕ) (many ends : ℕ) : Type 0 where
  pub rest : List ℕ
  pub passes : PassesToWrite work row set rest
  pub bytes_are : bytes ≡ field_head count_mark (2 + 2 * many) ++ (two_bytes ends ++ rest)
  pub sized : length bytes ≡ 5 + length rest

pub field_parts :
    {work : List ℕ} {row set ends : ℕ} {bytes : List ℕ} → FieldToWrite work row set ends bytes → (many number : ℕ) →
    many ≡ ones set → number ≡ ends → FieldParts work row set bytes many number
unfolding field_bytes
field_parts {work} {row} {set} {ends} {bytes} r many number e f =
    let p = r.passes in
    let counted : length (two_bytes ends ++ r.rest) ≡ 2 + 2 * many =
    omega (arith, ap length p.bytes_are, bytes_length p.arcs, arcs_counted p.arcs p.at_row) in
    record {
      rest = r.rest;
      passes = p;
      bytes_are =
          r.bytes_are
          ∙ ap₂ (λ (n k : ℕ). field_head count_mark n ++ (two_bytes k ++ r.rest)) counted (sym f);
      sized = ap length r.bytes_are ∙ omega arith;
    }

-- arcs with numbers for their targets, by name
numbered : (ℕ → ℕ) → List Arc → List Arc
numbered number arcs = map (λ (a : Arc). arc a.name (number a.name)) arcs

numbered_ascending : (number : ℕ → ℕ) (next : ℕ) (arcs : List Arc) → Ascending next arcs → Ascending next (numbered number arcs)
unfolding numbered
numbered_ascending number next [] up = tt
numbered_ascending number next (a ∷ arcs) up = (up.0, numbered_ascending number (suc a.name) arcs up.1)

numbered_set : (number : ℕ → ℕ) (arcs : List Arc) → name_set (numbered number arcs) ≡ name_set arcs
unfolding numbered name_set
numbered_set number [] = refl
numbered_set number (a ∷ arcs) = ap (λ (n : ℕ). 2 ^ a.name + n) (numbered_set number arcs)

-- their bytes, where the numbers are the passes
numbered_bytes :
    (number passes : ℕ → ℕ) (met : List ℕ) (arcs : List Arc) →
    ((a : Arc) → In a arcs → passes a.name ≡ number a.name) →
    flat_map (λ (a : Arc). two_bytes (passes a.name)) (renumbered met arcs) ≡ number_bytes (numbered number arcs)
unfolding numbered number_bytes renumbered flat_map
numbered_bytes number passes met [] e = refl
numbered_bytes number passes met (a ∷ arcs) e =
    ap₂ (λ (n : ℕ) (l : List ℕ). two_bytes n ++ l) (e a (here refl))
    (numbered_bytes number passes met arcs (λ b m. e b (there m)))

-- ---- all fields

-- the fields of the states from number i on
pub fields_from : List Word → List ℕ → ℕ → List ℕ
fields_from rows groups i =
    let states = states_of rows (tree_of rows) groups in
    flat_map (count_field states rows) (drop i (numbers_of states))

pub fields_all :
    (rows : List Word) (groups : List ℕ) → fields_from rows groups 0 ≡ counts_file (states_of rows (tree_of rows) groups) rows
unfolding fields_from counts_file
fields_all rows groups = refl

pub fields_more :
    (rows : List Word) (groups : List ℕ) (i : ℕ) → i < length (states_of rows (tree_of rows) groups) →
    fields_from rows groups i ≡ count_field (states_of rows (tree_of rows) groups) rows i ++ fields_from rows groups (i + 1)
unfolding fields_from flat_map
fields_more rows groups i h =
    let states = states_of rows (tree_of rows) groups in
    let n = length states in
    ap (flat_map (count_field states rows))
    (drop-cons (numbers_of states) i 0 (omega (arith, length-numbers_from n 0)))
    ∙ ap₂ (λ (x j : ℕ). count_field states rows x ++ flat_map (count_field states rows) (drop j (numbers_of states)))
    (number_at n i h) (sym (add-one i))

pub fields_none :
    (rows : List Word) (groups : List ℕ) (i : ℕ) → length (states_of rows (tree_of rows) groups) ≤ i →
    fields_from rows groups i ≡ []
unfolding fields_from flat_map
fields_none rows groups i h =
    let states = states_of rows (tree_of rows) groups in
    let end : length (numbers_of states) ≤ i = omega (arith, length-numbers_from (length states) 0) in
    ap (flat_map (count_field states rows)) (drop_of_length-le (numbers_of states) end)

module _ (rows : List Word) (parents names groups work next sums met : List ℕ) (count : ℕ)
    (ready : CountsReady rows parents names groups work next sums met count) where
  -- the groups in the order of their numbers
  every : List ℕ
  every = met_groups (tree_of rows) groups

  fits : FitsGroups (tree_of rows) groups
  fits = labels_fit rows groups ready.joined.labels

  -- there are as many states, no more than the tree has
  pub count_states : count ≡ length (states_of rows (tree_of rows) groups)
  count_states = ready.counted ∙ sym (states-length (tree_of rows) groups (tree_of-tree rows) fits rows)

  pub count_low : count ≤ length (tree_of rows)
  count_low =
      omega (
        arith,
        met-few (tree_of rows) groups (tree_of-tree rows) fits,
        ready.counted,
      )

  -- the i-th group met
  module _ (i g : ℕ) (inside : i < count) (g-is : g ≡ get_or met i 0) where
    place : i < length every
    unfolding every
    place = omega (arith, ready.counted)

    g-nth : g ≡ get_or every i 0
    unfolding every
    g-nth = g-is ∙ sym (get_or-take (length every) met i 0 place) ∙ ap (λ (l : List ℕ). get_or l i 0) ready.listed

    g-met : In g every
    g-met = subst (λ (x : ℕ). In x every) (sym g-nth) (nth_in 0 every i place)

    pub group-low : g < length (tree_of rows)
    unfolding every
    group-low =
        let labels = ready.joined.labels in
        let r = place_of 0 groups g (met-in (tree_of rows) groups (tree_of-tree rows) fits g g-met) in
        subst (λ (x : ℕ). x < length (tree_of rows)) r.2 (label_low labels r.0 (omega (arith, r.1, labels.size)))

    -- its number
    index_is : index_in g every ≡ i
    unfolding every
    index_is =
        ap (λ (x : ℕ). index_in x every) g-nth
        ∙ index_of_nth every i
        (met-distinct (tree_of rows) groups (tree_of-tree rows) fits) place

    -- the arcs out of it
    arcs : List Arc
    arcs = arcs_out_of g (transitions_of (tree_of rows) groups)

    -- each is made of tree arcs; here of one
    tree-arc : (a : Arc) → In a arcs → TreeArc (length (tree_of rows)) parents names groups g a.name a.to
    unfolding arcs
    tree-arc a m =
        transition-number rows parents names groups ready.joined g a.name a.to
        (arcs_out_of-in g a.name a.to (transitions_of (tree_of rows) groups) m)

    -- its cell has its passes
    in_cell : (a : Arc) → In a arcs → cell_at work g a.name ≡ arc_passes rows parents names groups g a.name
    in_cell a m =
        let t = tree-arc a m in
        subst (λ (k : ℕ). cell_at work g k ≡ arc_passes rows parents names groups g k) t.name_is
        (subst (λ (x : ℕ). cell_at work x (get_or names t.number 0) ≡ arc_passes rows parents names groups x (get_or names t.number 0))
        t.from_is (ready.passes.each t.number t.not_root t.low))

    name_low : (a : Arc) → In a arcs → a.name < name_limit
    name_low a m =
        let t = tree-arc a m in
        subst (λ (k : ℕ). k < name_limit) t.name_is (ready.joined.tree.name_below t.number t.not_root t.low)

    -- the arcs with their passes for their targets, as the set and the row have them
    passes-there :
        ArcsAt (suc (total (λ (row : Word). length row) rows)) work g (get_or next g 0) (numbered (cell_at work g) arcs)
    unfolding numbered arcs
    passes-there =
        record {
          from = 0;
          ascending = numbered_ascending (cell_at work g) 0 arcs (arcs_out_of-ascending g (transitions_of (tree_of rows) groups));
          names_low = λ a m.
              let r = map-in (λ (b : Arc). arc b.name (cell_at work g b.name)) arcs m in
              subst (λ (z : Arc). z.name < name_limit) (sym r.2) (name_low r.0 r.1);
          set_is = ready.sets g group-low ∙ sym (numbered_set (cell_at work g) arcs);
          in_cells = λ a m.
              let r = map-in (λ (b : Arc). arc b.name (cell_at work g b.name)) arcs m in
              subst (λ (z : Arc). cell_at work g z.name ≡ z.to) (sym r.2) refl;
          targets_low = λ a m.
              let r = map-in (λ (b : Arc). arc b.name (cell_at work g b.name)) arcs m in
              omega (
                arith,
                ap (λ (z : Arc). z.to) r.2,
                in_cell r.0 r.1,
                arc-passes_few rows parents names groups g r.0.name,
              );
        }

    -- the field, ready to be written
    pub field-ready :
        (set ends : ℕ) → set ≡ get_or next g 0 → ends ≡ get_or sums g 0 →
        FieldToWrite work g set ends (count_field (states_of rows (tree_of rows) groups) rows i)
    unfolding count_field every arcs state_of
    field-ready set ends e f =
        record {
          rest = number_bytes (numbered (cell_at work g) arcs);
          passes =
              record {
                size = suc (total (λ (row : Word). length row) rows);
                arcs = numbered (cell_at work g) arcs;
                at_row =
                    subst (λ (s : ℕ). ArcsAt (suc (total (λ (row : Word). length row) rows)) work g s (numbered (cell_at work g) arcs))
                    (sym e) passes-there;
                bytes_are = refl;
              };
          bytes_are =
              ap₂ (λ (n : ℕ) (l : List ℕ). field_bytes count_mark (two_bytes n ++ l)) ends_is
              (ap (λ (s : State). flat_map (λ (a : Arc). two_bytes (passes_of states rows i a.name)) s.arcs) state-is
              ∙ numbered_bytes (cell_at work g) (passes_of states rows i) every arcs passes-are);
        }
      where
        states : List State
        states = states_of rows (tree_of rows) groups

        state-is : get_or states i empty_state ≡ state_of rows (tree_of rows) groups every g
        state-is =
            ap (λ (q : ℕ). get_or states q empty_state) (sym index_is) ∙ state-of_met rows (tree_of rows) groups g g-met

        ends_is : ends_at states rows i ≡ ends
        ends_is =
            ap (ends_at states rows) (sym index_is)
            ∙ group_ends_lem rows groups ready.joined.labels ready.deterministic g g-met
            ∙ sym (f ∙ ready.summed.each g group-low)

        passes-are : (a : Arc) → In a arcs → passes_of states rows i a.name ≡ cell_at work g a.name
        passes-are a m =
            ap (λ (q : ℕ). passes_of states rows q a.name) (sym index_is)
            ∙ arc-passes rows groups ready.joined.labels ready.deterministic parents names ready.joined.tree g a.name g-met
            ∙ sym (in_cell a m)
