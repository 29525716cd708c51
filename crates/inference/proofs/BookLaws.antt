-- An accepted book, by induction over its reading: its class is allowed, entries of its rows are names' numbers, and its names' fields are
-- its first bytes, as many as its place says. Assumes nothing.
use mathlib.Core.Path.{◌≡◌, refl, sym, ap, ◌∙◌, subst}
use mathlib.Core.Logic.{⊎_elim}
use mathlib.Core.Bool.{true, false≢true, and-eq-true_iff}
use mathlib.Core.List.{List, [], ◌∷◌, ◌++◌, flat_map, Memᴰ as In}
use mathlib.Core.List.Memᴰ
use Prim.Native.Nat.{ℕ, zero, suc, ◌+◌, ◌*◌, ◌≤◌, ◌<◌}
use native.Mathlib.Omega.{arith}
use lib.Dec.{leb}
use lib.ListN.{length, get_or, take, length-append}
use lib.Seq.{take_at}
use Rattle.base.specs.Limits.{row_limit, name_mark, book_rows}
use Rattle.model.specs.Fields.{Class, ClassOk, File, unread, book, read_with, with_field, class_ok, all_below}
use Rattle.model.specs.Tables.{field_bytes, name_fields}
use Rattle.model.proofs.FieldLaws.{RowFits, Fitting, a_name, a_class, a_row, a_state, fitting, class_parts}
use Rattle.model.proofs.Turns.{read_keeps}
use Rattle.model.proofs.StateBodies.{Bytes}
use Rattle.model.proofs.Rewriting.{bytes_of, field_again, fields_more, at_mark}
use Rattle.model.proofs.Books.{BookOk, read_book_lem, tells_all_below, tells_row_ok}
use Rattle.base.proofs.Places.{nth_in}
use Rattle.judging.specs.Offsets.{body_at, next_at, offset_at, fields_at}
use Rattle.fields.specs.Places.{file_of}
use Rattle.fields.specs.declared.Place.{Place}
use Rattle.judging.proofs.OffsetLaws.{length-body, offset_above, length_fields}
use Rattle.fields.proofs.Parts.{accepted_number, accepted_file-is, length-names}
use Rattle.prefix_tree.specs.Growth.{RowsBelow}
use Rattle.counting.specs.PassCells.{RowsShort}
use Rattle.inference.specs.Books.{BookAt, rows_at, class_at, names_end}

-- ---- names' fields one after the other

-- they take as many bytes as lie between their offsets
names_length :
    (s : List ℕ) (a n : ℕ) → offset_at s a n ≤ length s → a + length (name_fields (fields_at s a n)) ≡ offset_at s a n
unfolding offset_at fields_at name_fields flat_map field_bytes
names_length s a zero h = omega arith
names_length s a (suc n) h =
    let within : next_at s a ≤ length s = omega (arith, offset_above s (next_at s a) n) in
    omega (
      arith,
      length-append (field_bytes 1 (body_at s a)) (name_fields (fields_at s (next_at s a) n)),
      length-body s a within,
      names_length s (next_at s a) n h,
    )

-- ---- what reading a book keeps

-- a book as read so far, of the input s: its names' fields are the input's first bytes, and before another field came they end where
-- what is left begins
record Keeps (s : List ℕ) (f : File) (rest : List ℕ) : Type 0 where
  class_ok_fact : ClassOk f.class_is
  no_rows : f.stage ≤ 2 → f.items ≡ []
  rows_below : (r : List ℕ) → In r f.items → all_below (length f.names) r ≡ true
  later : List ℕ
  front : name_fields f.names ++ later ≡ s
  left : f.stage ≤ 1 → later ≡ rest
  bytes : Bytes rest

bytes_after : (xs ys : List ℕ) → Bytes (xs ++ ys) → Bytes ys
bytes_after [] ys h = h
bytes_after (x ∷ xs) ys h = bytes_after xs ys h.1

module _ (s : List ℕ) (f : File) (a b : ℕ) (body rest : List ℕ) (size : length body ≡ 256 * a + b) where
  with_name : f.stage ≤ 1 → Keeps s f (1 ∷ (a ∷ (b ∷ (body ++ rest)))) → Keeps s (with_field f 1 body) rest
  unfolding with_field name_fields
  with_name low h =
      let none = h.no_rows (omega arith) in
      record {
        class_ok_fact = h.class_ok_fact;
        no_rows = λ p. none;
        rows_below = λ r m. absurd (Memᴰ.not-nil (subst (λ (z : List (List ℕ)). In r z) none m));
        later = rest;
        front =
            fields_more name_mark f.names body rest
            ∙ ap (λ (z : List ℕ). name_fields f.names ++ z)
            (sym (field_again name_mark a b body rest size h.bytes.1.1.0) ∙ sym (h.left low))
            ∙ h.front;
        left = λ p. refl;
        bytes = bytes_after body rest h.bytes.1.1.1;
      }

  with_class :
      f.stage ≡ 1 → class_ok body ≡ true → Keeps s f (2 ∷ (a ∷ (b ∷ (body ++ rest)))) → Keeps s (with_field f 2 body) rest
  unfolding with_field
  with_class at ok h =
      record {
        class_ok_fact = (class_parts body ok).1;
        no_rows = λ p. h.no_rows (omega arith);
        rows_below = h.rows_below;
        later = h.later;
        front = h.front;
        left = λ p. let z : ⊥ = omega arith in absurd z;
        bytes = bytes_after body rest h.bytes.1.1.1;
      }

  with_row :
      RowFits (length f.names) f.items body → Keeps s f (3 ∷ (a ∷ (b ∷ (body ++ rest)))) → Keeps s (with_field f 3 body) rest
  unfolding with_field
  with_row fits h =
      let below = ((and-eq-true_iff (leb (length body) row_limit) (all_below (length f.names) body)).0 fits.row_ok_fact).1 in
      record {
        class_ok_fact = h.class_ok_fact;
        no_rows = λ p. let z : ⊥ = omega arith in absurd z;
        rows_below = λ r m.
            ⊎_elim (λ n. h.rows_below r n)
            (λ n. subst (λ (z : List ℕ). all_below (length f.names) z ≡ true) (sym (Memᴰ.eq_of_singleton n)) below)
            (Memᴰ.append_cases f.items m);
        later = h.later;
        front = h.front;
        left = λ p. let z : ⊥ = omega arith in absurd z;
        bytes = bytes_after body rest h.bytes.1.1.1;
      }

  book_step :
      (mark : ℕ) → Fitting book f mark body → Keeps s f (mark ∷ (a ∷ (b ∷ (body ++ rest)))) →
      Keeps s (with_field f mark body) rest
  book_step mark (a_name e low fits) h = at_mark (Keeps s) f a b body rest mark 1 e (with_name low) h
  book_step mark (a_class k e at fits) h = at_mark (Keeps s) f a b body rest mark 2 e (with_class at fits) h
  book_step mark (a_row k e high fits) h = at_mark (Keeps s) f a b body rest mark 3 e (with_row fits) h
  book_step mark (a_state k e high fits) h = absurd (false≢true k)

-- before the first field
nothing_read : (s : List ℕ) (c : Class) → ClassOk c → Bytes s → Keeps s (unread c) s
unfolding name_fields flat_map
nothing_read s c ok bytes =
    record {
      class_ok_fact = ok;
      no_rows = λ h. refl;
      rows_below = λ r m. absurd (Memᴰ.not-nil m);
      later = s;
      front = refl;
      left = λ h. refl;
      bytes = bytes;
    }

-- the offsets of an accepted book lie within it
module _ (s : List ℕ) (p : Place) (at : BookAt s p) where
  pub names-fit : names_end p ≤ length s
  names-fit = let sound = at.read.kept.sound in omega (arith, sound.last_end, sound.names_within, sound.within)

  -- it is sound
  book_ok : BookOk (file_of s p)
  book_ok =
      subst BookOk (accepted_file-is at.settings book s p at.read)
      (read_book_lem at.settings at.allowed s (accepted_number at.settings book s p at.read)).1

  -- its rows are short and few
  pub rows_short : RowsShort (rows_at s p)
  rows_short =
      record { short = λ row m. ((tells_row_ok (length (file_of s p).names) row).fact (book_ok.rows_ok row m)).0 }

  pub items_few : p.items ≤ book_rows
  items_few = omega (arith, length_fields s p.start p.items, book_ok.few_rows)

-- what holds at its end, its bytes being bytes
module _ (s : List ℕ) (p : Place) (at : BookAt s p) (bytes : (i : ℕ) → i < length s → get_or s i 0 < 256) where
  keeps : Keeps s (file_of s p) []
  unfolding read_with
  keeps =
      let c = at.settings.default_class in
      subst (λ (f : File). Keeps s f []) (accepted_file-is at.settings book s p at.read)
      (read_keeps book (Keeps s)
      (λ f mark a b body rest size fit h. book_step s f a b body rest size mark (fitting book f mark body fit) h)
      (suc (length s)) (unread c) s (nothing_read s c at.allowed (bytes_of s bytes))
      (accepted_number at.settings book s p at.read)).1

  -- the names' fields are the book's first bytes
  pub names-front : name_fields (file_of s p).names ≡ take (names_end p) s
  names-front =
      let sound = at.read.kept.sound in
      let size : length (name_fields (file_of s p).names) ≡ names_end p =
      omega (arith, names_length s 0 p.names (omega (arith, sound.names_within, sound.within)), sound.last_end) in
      sym (take_at (name_fields (file_of s p).names) keeps.later (names_end p) size)
      ∙ ap (take (names_end p)) keeps.front

  pub class_allowed : ClassOk (class_at p)
  class_allowed = keeps.class_ok_fact

  -- entries of its rows are below the limit for names
  pub rows-entries : RowsBelow (rows_at s p)
  rows-entries row m =
      record {
        entry = λ i h.
            let few = at.read.kept.sound.few_names in
            omega (
              arith,
              length-names s p at.read.kept.sound,
              (tells_all_below (length (file_of s p).names) row).fact (keeps.rows_below row m) (get_or row i 0) (nth_in 0 row i h),
            );
      }
