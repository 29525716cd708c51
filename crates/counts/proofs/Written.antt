-- The state record and the counts file as written: without the counts the record is the table, the file is written from it, it has five
-- bytes for each state and two for each arc, and in an accepted book every number fits into its two bytes. Assumes nothing.
use mathlib.Core.Path.{◌≡◌, refl, sym, ap, ◌∙◌, fun_ext}
use mathlib.Core.Bool.{◌&&◌}
use mathlib.Core.List.{List, [], ◌∷◌, ◌++◌, map, flat_map, map-map, map-id}
use Prim.Native.Nat.{ℕ, ◌+◌, ◌*◌, ◌≤◌}
use native.Mathlib.Omega.{arith}
use lib.Dec.{eqb}
use lib.ListN.{length, get_or}
use Rattle.base.specs.Limits.{book_rows, row_limit, counts_bytes, count_mark}
use Rattle.base.specs.Lists.{total}
use Rattle.base.proofs.Totals.{total-most, many_few, length-flat_map}
use Rattle.model.specs.Fields.{Settings, Allowed}
use Rattle.model.specs.Tables.{Arc, arc, State, state, empty_state, arc_count, two_bytes, field_bytes, walk}
use Rattle.model.specs.Classes.{Word}
use Rattle.model.specs.Joinings.{Transition}
use Rattle.model.specs.Quotients.{book_states}
use Rattle.model.specs.Calls.{book_of}
use Rattle.model.specs.Claims.{Accepted}
use Rattle.model.proofs.Books.{accepted_book}
use Rattle.model.proofs.Reading.{accepted_row}
use Rattle.model.proofs.Demands.{book_writable}
use Rattle.counts.specs.Counts.{steps_from, trail, ends_at, passes_of, numbers_of, CountedArc, CountedState, counted_state}
use Rattle.counts.specs.Counts.{counted_states, without_counts, count_body, count_field, counts_file, book_counts}
use Rattle.counts.specs.Claims.{RecordHolds}
use Rattle.counts.proofs.Places.{all-places, total-all_places, flat_map-map}
use Rattle.counts.proofs.Steps.{steps_few}

-- ---- the state record

module _ (states : List State) (rows : List Word) where
  -- an arc of a state with how often it is passed
  abbrev counted : ℕ → Arc → CountedArc
  counted q a = record { name = a.name; to = a.to; passes = passes_of states rows q a.name }

  -- a state with its counts taken away is the state
  without_counts_lem : (q : ℕ) → without_counts (counted_state states rows q) ≡ get_or states q empty_state
  unfolding counted_state
  without_counts_lem q =
      let s : State = get_or states q empty_state in
      ap (state s.accepts) (map-map (λ (a : CountedArc). arc a.name a.to) (counted q) s.arcs ∙ map-id s.arcs)

  -- the field of a state is written from its record
  field_from_it : (q : ℕ) → count_field states rows q ≡ field_bytes count_mark (count_body (counted_state states rows q))
  unfolding count_field count_body counted_state
  field_from_it q =
      ap (λ (l : List ℕ). field_bytes count_mark (two_bytes (ends_at states rows q) ++ l))
      (sym (flat_map-map (λ (a : CountedArc). two_bytes a.passes) (counted q) (get_or states q empty_state).arcs))

  -- so all states without their counts are the table
  table_from_it : map without_counts (counted_states states rows) ≡ states
  unfolding counted_states
  table_from_it =
      map-map without_counts (counted_state states rows) (numbers_of states)
      ∙ ap (λ (f : ℕ → State). map f (numbers_of states)) (fun_ext without_counts_lem) ∙ all-places empty_state states

  -- and the file is written from the record
  file-from_it :
      counts_file states rows ≡ flat_map (λ (s : CountedState). field_bytes count_mark (count_body s)) (counted_states states rows)
  unfolding counts_file counted_states
  file-from_it =
      ap (λ (f : ℕ → List ℕ). flat_map f (numbers_of states)) (fun_ext field_from_it)
      ∙ sym (flat_map-map (λ (s : CountedState). field_bytes count_mark (count_body s)) (counted_state states rows) (numbers_of states))

-- the record has the table and the file in it
pub record_holds : RecordHolds
record_holds = record { table_in_it = table_from_it; counts_from_it = file-from_it }

-- ---- the length of the file

-- two bytes for each arc
two_each : (number : Arc → ℕ) (arcs : List Arc) → length (flat_map (λ (a : Arc). two_bytes (number a)) arcs) ≡ 2 * length arcs
unfolding flat_map
two_each number [] = refl
two_each number (a ∷ arcs) = omega (arith, two_each number arcs)

-- five bytes for each state, and two for each of its arcs
field_size :
    (states : List State) (rows : List Word) (q : ℕ) →
    length (count_field states rows q) ≡ 5 + 2 * length (get_or states q empty_state).arcs
unfolding count_field field_bytes
field_size states rows q =
    omega (arith, two_each (λ (a : Arc). passes_of states rows q a.name) (get_or states q empty_state).arcs)

-- summed over the states
sizes_sum : (states : List State) → total (λ (s : State). 5 + 2 * length s.arcs) states ≡ 5 * length states + 2 * arc_count states
unfolding total arc_count
sizes_sum [] = refl
sizes_sum (s ∷ states) = omega (arith, sizes_sum states)

-- so the file has that many bytes
pub counts_file-length :
    (states : List State) (rows : List Word) → length (counts_file states rows) ≡ 5 * length states + 2 * arc_count states
unfolding counts_file
counts_file-length states rows =
    length-flat_map (count_field states rows) (numbers_of states)
    ∙ ap (λ (f : ℕ → ℕ). total f (numbers_of states)) (fun_ext (field_size states rows))
    ∙ total-all_places (λ (s : State). 5 + 2 * length s.arcs) empty_state states ∙ sizes_sum states

-- ---- the numbers of an accepted book

module _ (settings : Settings) (allowed : Allowed settings) (s : List ℕ) (ok : Accepted settings s) where
  -- its rows are within their number
  rows_few : length (book_of settings s).items ≤ book_rows
  rows_few = (accepted_book settings allowed s ok).1.few_rows

  -- so are the ends of a state
  pub ends-few : (states : List State) (q : ℕ) → ends_at states (book_of settings s).items q ≤ book_rows
  unfolding ends_at
  ends-few states q =
      omega (
        arith,
        rows_few,
        many_few (λ (row : Word). eqb (walk states row).at_state q) (book_of settings s).items,
      )

  -- and each row passes at most as many arcs as it may have entries
  pub passes_few : (states : List State) (q a : ℕ) → passes_of states (book_of settings s).items q a ≤ book_rows * row_limit
  unfolding passes_of trail
  passes_few states q a =
      let rows : List Word = (book_of settings s).items in
      omega (
        arith,
        rows_few,
        many_few (λ (t : Transition). eqb t.from q && eqb t.name a) (flat_map (steps_from states 0) rows),
        length-flat_map (steps_from states 0) rows,
        total-most (λ (row : Word). length (steps_from states 0 row)) row_limit rows
            (λ row m. omega (arith, steps_few states row 0, (accepted_row settings allowed s ok row m).0)),
      )

  -- the counts take few bytes
  pub book_counts-length : length (book_counts (book_of settings s)) ≤ counts_bytes
  unfolding book_counts
  book_counts-length =
      let f = book_of settings s in
      let w = book_writable settings allowed s ok in
      omega (arith, counts_file-length (book_states f) f.items, w.few_states, w.few_arcs)
