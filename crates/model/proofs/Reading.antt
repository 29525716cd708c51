-- What reading and writing come to: an accepted book has a row, and what its rows may be; written fields are
-- read back; and read fields are written as they stood. Assumes nothing.
use mathlib.Core.Path.{◌≡◌, refl}
use mathlib.Core.Bool.{not}
use mathlib.Core.List.Memᴰ.{head as here}
use mathlib.Core.List.{List, [], ◌∷◌, ◌++◌, map, Memᴰ as In}
use Prim.Native.Nat.{ℕ, suc, ◌≤◌, ◌<◌}
use native.Mathlib.Omega.{arith}
use lib.ListN.{length, length-append}
use Rattle.base.specs.Limits.{name_limit, row_limit, state_limit, table_bytes, when, first_of, bad_numbering}
use Rattle.model.specs.Fields.{Settings, Allowed, standard, file, read_table, read_with, accepted_file}
use Rattle.model.specs.Tables.{State, field_bytes, name_fields, class_field, state_fields, state_body, bytes_of_table}
use Rattle.model.specs.Tables.{arc_count, is_first_met}
use Rattle.model.specs.Calls.{book_of, sizes_fault, table_states, table_fault, rewritten}
use Rattle.model.specs.Claims.{Accepted, AllBytes}
use Rattle.model.proofs.Writable.{Writable}
use Rattle.model.proofs.FieldLaws.{first_of_lem}
use Rattle.model.proofs.StateBodies.{body_ok}
use Rattle.model.proofs.Books.{accepted_book, tells_row_ok}
use Rattle.model.proofs.ReadBack.{reads-table}
use Rattle.model.proofs.WrittenLengths.{name_fields-length, names_few, state-fields_length}
use Rattle.model.proofs.Rewriting.{bytes_of, rewritten-same}

-- a list that is not empty has an element
first_in : (rows : List (List ℕ)) → 1 ≤ length rows → (r : List ℕ) × In r rows
first_in [] h = let z : ⊥ = omega arith in absurd z
first_in (r ∷ rows) h = (r, here refl)

module _ (settings : Settings) (allowed : Allowed settings) where
  -- an accepted book has a row
  pub accepted_has_row : (s : List ℕ) → Accepted settings s → (r : List ℕ) × In r (book_of settings s).items
  accepted_has_row s ok =
      let r = accepted_book settings allowed s ok in
      first_in (book_of settings s).items (r.1.some_row (omega (arith, r.0)))

  -- its rows are within their limit, and their entries are numbers of its names
  pub accepted_row :
      (s : List ℕ) → Accepted settings s → (r : List ℕ) → In r (book_of settings s).items →
      (length r ≤ row_limit) × ((a : ℕ) → In a r → a < length (book_of settings s).names)
  accepted_row s ok r m = (tells_row_ok (length (book_of settings s).names) r).fact ((accepted_book settings allowed s ok).1.rows_ok r m)

  -- a table with the book's names and class, and states that can be written, is read back
  pub reads-written :
      (s : List ℕ) (states : List State) → Accepted settings s → Writable (length (book_of settings s).names) states →
      read_table (bytes_of_table (book_of settings s).names (book_of settings s).class_is states)
      ≡ accepted_file (file 3 (book_of settings s).names (book_of settings s).class_is (map state_body states))
  unfolding read_with
  reads-written s states ok w =
      let b = accepted_book settings allowed s ok in
      let names = (book_of settings s).names in
      let bytes = bytes_of_table names (book_of settings s).class_is states in
      reads-table names standard.default_class (book_of settings s).class_is states
      b.1.names_ok (b.1.named (omega (arith, b.0))) b.1.class_ok_fact
      (λ t m. body_ok (length names) t (w.ascending t m) (λ a n. w.names_below t a m n)) w.some_state w.few_states
      (suc (length bytes)) (omega arith)

  -- and takes few bytes
  pub written-length :
      (s : List ℕ) (states : List State) → Accepted settings s → Writable (length (book_of settings s).names) states →
      length (bytes_of_table (book_of settings s).names (book_of settings s).class_is states) ≤ table_bytes
  unfolding bytes_of_table class_field field_bytes
  written-length s states ok w =
      let b = accepted_book settings allowed s ok in
      let names = (book_of settings s).names in
      let c = class_field (book_of settings s).class_is in
      let few_names : length names ≤ name_limit = omega (arith, names_few [] names b.1.names_ok (omega arith)) in
      let few_states : length states ≤ state_limit = w.few_states in
      let few_arcs : arc_count states ≤ state_limit = w.few_arcs in
      omega (
        arith,
        length-append (name_fields names) (c ++ state_fields states),
        length-append c (state_fields states),
        name_fields-length [] names b.1.names_ok,
        state-fields_length states,
      )

-- an accepted table is rewritten to the same bytes
pub rewrites_same : (s work : List ℕ) → AllBytes s → table_fault s work ≡ 0 → rewritten s ≡ s
unfolding table_fault
rewrites_same s work bytes ok =
    let fault = (read_table s).number in
    let numbering = when (not (is_first_met (table_states s))) bad_numbering in
    let fields-ok = (first_of_lem (sizes_fault s work) (first_of fault numbering) ok).1 in
    rewritten-same s (bytes_of s bytes) (first_of_lem fault numbering fields-ok).0
