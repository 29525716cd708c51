-- The table's bytes: the book's first bytes, which are its names' fields, the class, and the states' fields. Assumes nothing.
use mathlib.Core.Path.{◌≡◌, sym, ap, ◌∙◌}
use mathlib.Core.List.{List, ◌++◌, append_assoc}
use Prim.Native.Nat.{ℕ, ◌+◌, ◌<◌}
use native.Mathlib.Omega.{arith}
use lib.ListN.{length, get_or, take, length-append}
use Rattle.base.specs.Limits.{class_bytes}
use Rattle.model.specs.Tables.{class_field, state_fields, bytes_of_table}
use Rattle.model.specs.Quotients.{book_states, book_table}
use Rattle.fields.specs.Places.{file_of}
use Rattle.fields.specs.declared.Place.{Place}
use Rattle.writing.specs.Writing.{front_of}
use Rattle.writing.proofs.Pieces.{front_length}
use Rattle.inference.specs.Books.{BookAt, class_at, names_end}
use Rattle.inference.proofs.BookLaws.{names-fit, names-front}

module _ (s : List ℕ) (p : Place) (at : BookAt s p) (bytes : (i : ℕ) → i < length s → get_or s i 0 < 256) where
  abbrev front : List ℕ
  front = front_of s (names_end p) (class_at p)

  abbrev states : List ℕ
  states = state_fields (book_states (file_of s p))

  pub table_parts : book_table (file_of s p) ≡ front ++ states
  unfolding book_table bytes_of_table
  table_parts =
      ap (λ (z : List ℕ). z ++ (class_field (class_at p) ++ states)) (names-front s p at bytes)
      ∙ sym (append_assoc (take (names_end p) s) (class_field (class_at p)) states)

  pub table_length : length (book_table (file_of s p)) ≡ (names_end p + class_bytes) + length states
  table_length =
      omega (arith, ap length table_parts, length-append front states, front_length s (names_end p) (class_at p) (names-fit s p at))
