-- The states' fields in pieces: arcs from a set one by one, a state's head and its arcs, and the states in first-met order; and how many
-- arcs they have. Assumes nothing.
use mathlib.Core.Path.{◌≡◌, refl, sym, ap, ap₂, ◌∙◌, subst}
use mathlib.Core.Bool.{Bool}
use mathlib.Core.List.Memᴰ.{head as here}
use mathlib.Core.List.Memᴰ.{tail as there}
use mathlib.Core.List.{List, [], ◌∷◌, ◌++◌, map, flat_map, Memᴰ as In}
use Prim.Native.Nat.{ℕ, suc, ◌+◌, ◌*◌, ◌-◌, ◌<◌, ◌≤◌}
use native.Mathlib.Numerals.{add-one}
use native.Mathlib.Omega.{arith}
use lib.Count.{ones}
use lib.Dec.{ltb}
use lib.ListN.{length, get_or, drop, length-append, length-map, drop_of_length-le}
use lib.Seq.{drop-cons}
use Rattle.base.specs.Limits.{name_limit}
use Rattle.base.specs.Lists.{index_in, total}
use Rattle.model.specs.Classes.{Word}
use Rattle.model.specs.Tables.{Arc, arc, Ascending, State, state, arc_count, field_bytes, arc_bytes, state_body, state_fields}
use Rattle.model.specs.Joinings.{tree_of, transitions_of, group_accepts}
use Rattle.model.specs.Quotients.{arcs_out_of, met_groups, renumbered, state_of, states_of}
use Rattle.model.proofs.Arcs.{arcs_out_of-in}
use Rattle.model.proofs.FirstMet.{met-closed, met-few}
use Rattle.base.proofs.Places.{nth_in}
use Rattle.model.proofs.StateBodies.{arc-bytes_length}
use Rattle.model.proofs.Trees.{tree_of-tree}
use Rattle.base.specs.Cells.{cell_at}
use Rattle.base.specs.Sets.{TakenLowest}
use Rattle.writing.specs.Writing.{state_head, arc_part}
use Rattle.writing.proofs.Pieces.{state-bytes, arc-bytes_cons}
use Rattle.counts.proofs.GroupSums.{group_accepts_lem}
use Rattle.indexed.specs.ArcCells.{ArcsAt}
use Rattle.quotient.specs.Gathered.{Gathered}
use Rattle.quotient.specs.Numbered.{MetAs}
use Rattle.quotient.specs.Ready.{Ready, ArcsToWrite, StateToWrite}
use Rattle.indexed.proofs.ArcSets.{arcs_more, arcs_done, arcs_counted}
use Rattle.quotient.proofs.MetLaws.{met-nth, met-low}
use Rattle.indexed.proofs.TreeArcs.{labels_fit}

-- ---- arcs

renumbered-cons : (every : List ℕ) (a : Arc) (arcs : List Arc) →
    renumbered every (a ∷ arcs) ≡ arc a.name (index_in a.to every) ∷ renumbered every arcs
unfolding renumbered
renumbered-cons every a arcs = refl

renumbered-length : (every : List ℕ) (arcs : List Arc) → length (renumbered every arcs) ≡ length arcs
unfolding renumbered
renumbered-length every arcs = length-map arcs (λ (a : Arc). arc a.name (index_in a.to every))

no_arc_bytes : (every : List ℕ) → arc_bytes (renumbered every []) ≡ []
unfolding renumbered arc_bytes flat_map
no_arc_bytes every = refl

-- there is a next arc, and what is left after it
pub record ArcsToWriteMore
    (work : List ℕ) (row left : ℕ) (numbers bytes : List ℕ) (name target : ℕ) : Type 0 where
  pub target_low : target < length numbers
  pub rest : List ℕ
  pub bytes_are : bytes ≡ arc_part name (get_or numbers target 0) ++ rest
  pub after : ArcsToWrite work row left numbers rest

module _ {work : List ℕ} {row set : ℕ} {numbers bytes : List ℕ} where
  pub arcs_write_name :
      (name left : ℕ) → ArcsToWrite work row set numbers bytes → TakenLowest set name left → name < name_limit
  arcs_write_name name left r taken = (arcs_more name r.arcs r.at_row taken.some taken.lowest).low

  pub arcs_write_more :
      (name target left : ℕ) → ArcsToWrite work row set numbers bytes → TakenLowest set name left →
      target ≡ cell_at work row name → ArcsToWriteMore work row left numbers bytes name target
  arcs_write_more name target left r taken f =
      let next = arcs_more name r.arcs r.at_row taken.some taken.lowest in
      let a = next.first in
      let to_is : target ≡ a.to = f ∙ next.in_cell in
      let there' : In a r.arcs = subst (λ (l : List Arc). In a l) (sym next.is) (here refl) in
      let number_is : get_or numbers target 0 ≡ index_in a.to r.every =
      ap (λ (k : ℕ). get_or numbers k 0) to_is ∙ r.placed a there' in
      let rest = arc_bytes (renumbered r.every next.rest) in
      record {
        target_low = omega (arith, next.target_low, r.numbers_size);
        rest = rest;
        bytes_are =
            r.bytes_are
            ∙ ap (λ (l : List Arc). arc_bytes (renumbered r.every l)) next.is
            ∙ ap arc_bytes (renumbered-cons r.every a next.rest)
            ∙ arc-bytes_cons (arc a.name (index_in a.to r.every)) (renumbered r.every next.rest)
            ∙ ap₂ (λ (n k : ℕ). arc_part n k ++ rest) next.named (sym number_is);
        after =
            record {
              size = r.size;
              every = r.every;
              arcs = next.rest;
              at_row = subst (λ (k : ℕ). ArcsAt r.size work row k next.rest) (sym taken.rest_is) next.after;
              numbers_size = r.numbers_size;
              placed = λ z m. r.placed z (subst (λ (l : List Arc). In z l) (sym next.is) (there m));
              bytes_are = refl;
            };
      }

  pub arcs_write_done : ArcsToWrite work row set numbers bytes → set ≡ 0 → bytes ≡ []
  arcs_write_done r h =
      r.bytes_are ∙ ap (λ (l : List Arc). arc_bytes (renumbered r.every l)) (arcs_done r.arcs r.at_row (omega arith))
      ∙ no_arc_bytes r.every

-- as many arcs as there may be names, and no more
arcs-few : (next : ℕ) (arcs : List Arc) → Ascending next arcs → ((a : Arc) → In a arcs → a.name < name_limit) →
    length arcs ≤ name_limit - next
arcs-few next [] up low = omega arith
arcs-few next (a ∷ arcs) up low =
    let first : a.name < name_limit = low a (here refl) in
    let from : next ≤ a.name = up.0 in
    omega (arith, arcs-few (suc a.name) arcs up.1 (λ b m. low b (there m)))

-- ---- one state

-- its head, and its arcs left, three bytes each
pub record StateParts (work : List ℕ) (row set : ℕ) (accepts : Bool) (numbers bytes : List ℕ) : Type 0 where
  pub rest : List ℕ
  pub bytes_are : bytes ≡ state_head accepts (length rest) ++ rest
  pub sized : length bytes ≡ 4 + length rest
  pub few : length rest ≤ 3 * name_limit
  pub arcs_left : ArcsToWrite work row set numbers rest

pub state-parts :
    {work : List ℕ} {row set : ℕ} {accepts : Bool} {numbers bytes : List ℕ} → StateToWrite work row set accepts numbers bytes →
    StateParts work row set accepts numbers bytes
state-parts {work} {row} {set} {accepts} {numbers} {bytes} r =
    let arcs = renumbered r.every r.arcs in
    let rest = arc_bytes arcs in
    let whole : bytes ≡ state_head accepts (length rest) ++ rest = r.bytes_are ∙ state-bytes (state accepts arcs) in
    record {
      rest = rest;
      bytes_are = whole;
      sized = ap length whole ∙ length-append (state_head accepts (length rest)) rest;
      few =
          omega (
            arith,
            arc-bytes_length arcs,
            renumbered-length r.every r.arcs,
            arcs-few r.at_row.from r.arcs r.at_row.ascending r.at_row.names_low,
          );
      arcs_left =
          record {
            size = r.size;
            every = r.every;
            arcs = r.arcs;
            at_row = r.at_row;
            numbers_size = r.numbers_size;
            placed = r.placed;
            bytes_are = refl;
          };
    }

-- ---- all states

-- the state that group g becomes
becomes : List Word → List ℕ → ℕ → State
becomes rows groups g = state_of rows (tree_of rows) groups (met_groups (tree_of rows) groups) g

-- the states from number i on
pub states_from : List Word → List ℕ → ℕ → List State
states_from rows groups i = map (becomes rows groups) (drop i (met_groups (tree_of rows) groups))

pub states_all : (rows : List Word) (groups : List ℕ) → states_from rows groups 0 ≡ states_of rows (tree_of rows) groups
unfolding states_from becomes states_of
states_all rows groups = refl

states_more :
    (rows : List Word) (groups : List ℕ) (i g : ℕ) → i < length (met_groups (tree_of rows) groups) →
    g ≡ get_or (met_groups (tree_of rows) groups) i 0 →
    states_from rows groups i ≡ becomes rows groups g ∷ states_from rows groups (i + 1)
unfolding states_from
states_more rows groups i g h e =
    let every = met_groups (tree_of rows) groups in
    ap (map (becomes rows groups)) (drop-cons every i 0 h)
    ∙ ap₂ (λ (x j : ℕ). becomes rows groups x ∷ map (becomes rows groups) (drop j every)) (sym e) (sym (add-one i))

pub states_none :
    (rows : List Word) (groups : List ℕ) (i : ℕ) → length (met_groups (tree_of rows) groups) ≤ i → states_from rows groups i ≡ []
unfolding states_from
states_none rows groups i h = ap (map (becomes rows groups)) (drop_of_length-le (met_groups (tree_of rows) groups) h)

-- the field of the state that group g becomes
pub field_of : List Word → List ℕ → ℕ → List ℕ
field_of rows groups g = field_bytes 4 (state_body (becomes rows groups g))

pub fields_more :
    (rows : List Word) (groups : List ℕ) (i g : ℕ) → i < length (met_groups (tree_of rows) groups) →
    g ≡ get_or (met_groups (tree_of rows) groups) i 0 →
    state_fields (states_from rows groups i) ≡ field_of rows groups g ++ state_fields (states_from rows groups (i + 1))
unfolding field_of state_fields flat_map
fields_more rows groups i g h e = ap state_fields (states_more rows groups i g h e)

pub fields_none :
    (rows : List Word) (groups : List ℕ) (i : ℕ) → length (met_groups (tree_of rows) groups) ≤ i →
    state_fields (states_from rows groups i) ≡ []
unfolding state_fields flat_map
fields_none rows groups i h = ap state_fields (states_none rows groups i h)

-- there are no more states than the tree has
pub count_low :
    (rows : List Word) (groups work next met numbers : List ℕ) (count : ℕ) → Gathered rows groups work next →
    MetAs (length (tree_of rows)) met numbers count (met_groups (tree_of rows) groups) → count ≤ length (tree_of rows)
count_low rows groups work next met numbers count r m =
    omega (
      arith,
      met-few (tree_of rows) groups (tree_of-tree rows) (labels_fit rows groups r.labels),
      m.counted,
    )

-- the arcs of one more state counted
pub arcs_count_more :
    (rows : List Word) (groups work next : List ℕ) → Gathered rows groups work next → (i g arcs : ℕ) →
    i < length (met_groups (tree_of rows) groups) → g ≡ get_or (met_groups (tree_of rows) groups) i 0 → g < length (tree_of rows) →
    arcs ≡ ones (get_or next g 0) → arc_count (states_from rows groups i) ≡ arcs + arc_count (states_from rows groups (i + 1))
unfolding arc_count total becomes state_of
arcs_count_more rows groups work next gathered i g arcs h e low f =
    let out = arcs_out_of g (transitions_of (tree_of rows) groups) in
    ap arc_count (states_more rows groups i g h e)
    ∙ ap (λ (n : ℕ). n + arc_count (states_from rows groups (i + 1)))
    (renumbered-length (met_groups (tree_of rows) groups) out ∙ sym (arcs_counted out (gathered.arcs_at g low)) ∙ sym f)

pub arcs_count_none :
    (rows : List Word) (groups : List ℕ) (i : ℕ) → length (met_groups (tree_of rows) groups) ≤ i →
    arc_count (states_from rows groups i) ≡ 0
unfolding arc_count total
arcs_count_none rows groups i h = ap arc_count (states_none rows groups i h)

-- the state of the i-th group met, ready to be written
module _ (rows : List Word) (groups work next sums met numbers : List ℕ) (count : ℕ)
    (ready : Ready rows groups work next sums met numbers count) where
  every-placed :
      (g : ℕ) → In g (met_groups (tree_of rows) groups) → (a : Arc) → In a (arcs_out_of g (transitions_of (tree_of rows) groups)) →
      get_or numbers a.to 0 ≡ index_in a.to (met_groups (tree_of rows) groups)
  every-placed g m a k =
      let ts = transitions_of (tree_of rows) groups in
      ready.numbered.numbered a.to
      (met-closed (tree_of rows) groups (tree_of-tree rows) (labels_fit rows groups ready.gathered.labels)
      ready.gathered.deterministic g a.name a.to m (arcs_out_of-in g a.name a.to ts k))

  pub state-ready :
      (i g : ℕ) → i < count → g ≡ get_or met i 0 →
      StateToWrite work g (get_or next g 0) (ltb 0 (get_or sums g 0)) numbers (field_of rows groups g)
  unfolding field_of becomes state_of
  state-ready i g h e =
      let every = met_groups (tree_of rows) groups in
      let counted : count ≡ length every = ready.numbered.counted in
      let g-is : g ≡ get_or every i 0 = e ∙ met-nth every ready.numbered i h in
      let g-low : g < length (tree_of rows) = omega (arith, met-low every ready.numbered i h) in
      let g-met : In g every = subst (λ (x : ℕ). In x every) (sym g-is) (nth_in 0 every i (omega arith)) in
      let arcs = arcs_out_of g (transitions_of (tree_of rows) groups) in
      let accepts : group_accepts rows (tree_of rows) groups g ≡ ltb 0 (get_or sums g 0) =
      group_accepts_lem rows groups ready.gathered.labels g ∙ ap (ltb 0) (sym (ready.summed.each g g-low)) in
      record {
        size = length (tree_of rows);
        every = every;
        arcs = arcs;
        at_row = ready.gathered.arcs_at g g-low;
        numbers_size = ready.numbered.numbers_size;
        placed = every-placed g g-met;
        bytes_are = ap (λ (b : Bool). field_bytes 4 (state_body (state b (renumbered every arcs)))) accepts;
      }
