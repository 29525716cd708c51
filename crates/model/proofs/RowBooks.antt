-- A list of names and rows make a book: reading an accepted list of names as another kind of file comes to the same names, and
-- what follows is read on from there; so a class field or none, and rows, are read after it. Assumes nothing.
use mathlib.Core.Path.{◌≡◌, refl, sym, ap, ◌∙◌, subst}
use mathlib.Core.Bool.{Bool, true, false, cond, false≢true}
use mathlib.Core.List.{List, [], ◌∷◌, ◌++◌, append_assoc}
use Prim.Native.Nat.{ℕ, zero, suc, ◌+◌, ◌*◌, ◌≤◌}
use native.Mathlib.Omega.{arith}
use lib.Dec.{eqb}
use lib.ListN.{length, length-append}
use borrow.Author.Tests.{eqb-true}
use Rattle.base.specs.Limits.{names_met, unfinished}
use Rattle.model.specs.Fields.{Class, Settings, standard, File, file, FileKind, book, name_list, Read, refused}
use Rattle.model.specs.Fields.{accepted_file, read_from, read_with, read_names, read_book, with_field}
use Rattle.model.specs.Tables.{class_field, row_fields}
use Rattle.model.specs.Calls.{names_of}
use Rattle.model.specs.Claims.{RowsMakeBooks}
use Rattle.model.proofs.FieldLaws.{NameFits, Fitting, a_name, a_class, a_row, a_state, fitting}
use Rattle.model.proofs.Turns.{Turn, ended, failed, went, turn, one_field}
use Rattle.model.proofs.ReadBack.{ReadsTo, name-passes, reads-class, reads-rows}

-- names read as those of a list, from this file on
abbrev names_after : ℕ → ℕ → List (List ℕ) → Class → List ℕ → List (List ℕ)
names_after l stage names d s = (read_from l name_list (file stage names d []) s).file_is.names

-- a field of a list of names is a name
only_name :
    (f : File) (mark : ℕ) (body : List ℕ) → Fitting name_list f mark body → (mark ≡ 1) × (f.stage ≤ 1) × NameFits f.names body
only_name f mark body (a_name e low fits) = (e, low, fits)
only_name f mark body (a_class k e at fits) = absurd (false≢true k)
only_name f mark body (a_row k e high fits) = absurd (false≢true k)
only_name f mark body (a_state k e high fits) = absurd (false≢true k)

-- a list of names, and then what follows it, is read as another kind of file: the names are those of the list, and what follows is
-- read on from there
module _ (kind : FileKind) (c d : Class) (rest : List ℕ) (r : Read) where
  -- what is shown, by induction on the fuel
  abbrev ReadsOn : ℕ → Type 0
  ReadsOn l =
      (stage : ℕ) (names : List (List ℕ)) (s : List ℕ) → (read_from l name_list (file stage names d []) s).number ≡ 0 →
      ReadsTo kind (file 1 (names_after l stage names d s) c []) rest r → ReadsTo kind (file stage names c []) (s ++ rest) r

  -- at the list's end
  on_end :
      (stage : ℕ) (names : List (List ℕ)) (t : Bool) → eqb stage names_met ≡ t →
      (cond t (accepted_file (file stage names d [])) (refused unfinished)).number ≡ 0 →
      ReadsTo kind (file 1 (cond t (accepted_file (file stage names d [])) (refused unfinished)).file_is.names c []) rest r →
      ReadsTo kind (file stage names c []) rest r
  on_end stage names true e ok again =
      subst (λ (k : ℕ). ReadsTo kind (file k names c []) rest r) (sym (eqb-true stage names_met e)) again
  on_end stage names false e ok again = let z : ⊥ = omega arith in absurd z

  -- at a name
  on_name :
      (stage : ℕ) (names : List (List ℕ)) (a b : ℕ) (body more : List ℕ) → length body ≡ 256 * a + b → stage ≤ 1 →
      NameFits names body → ReadsTo kind (file 1 (names ++ (body ∷ [])) c []) (more ++ rest) r →
      ReadsTo kind (file stage names c []) ((1 ∷ (a ∷ (b ∷ (body ++ more)))) ++ rest) r
  unfolding with_field
  on_name stage names a b body more size low fits again zero h = let z : ⊥ = omega arith in absurd z
  on_name stage names a b body more size low fits again (suc l) h =
      let f = file stage names c [] in
      ap (λ (z : List ℕ). read_from (suc l) kind f (1 ∷ (a ∷ (b ∷ z)))) (append_assoc body more rest)
      ∙ one_field l kind f 1 a b body (more ++ rest) size (name-passes kind stage names [] c body low fits)
      ∙ again l (omega (arith, length-append (body ++ more) rest, length-append body more, length-append more rest))

  reads_on : (l : ℕ) → ReadsOn l
  unfolding read_from with_field
  reads_on zero stage names s ok again = let z : ⊥ = omega arith in absurd z
  reads_on (suc l) stage names s ok again = go (turn l name_list f s) (reads_on l)
    where
      f : File
      f = file stage names d []

      Result : List ℕ → Type 0
      Result t = ReadsTo kind (file stage names c []) (t ++ rest) r

      Onward : Read → Type 0
      Onward x = ReadsTo kind (file 1 x.file_is.names c []) rest r

      go : Turn l name_list f s → ReadsOn l → Result s
      go (ended e q) on =
          subst Result (sym e)
          (on_end stage names (eqb stage names_met) refl (subst (λ (x : Read). x.number ≡ 0) q ok) (subst Onward q again))
      go (failed n q) on = let z : ⊥ = omega arith in absurd z
      go (went mark a b body more e size fit q) on =
          let name = only_name f mark body (fitting name_list f mark body fit) in
          let grown = file 1 (names ++ (body ∷ [])) d [] in
          let step : read_from (suc l) name_list f s ≡ read_from l name_list grown more =
          subst (λ (m : ℕ). read_from (suc l) name_list f s ≡ read_from l name_list (with_field f m body) more) name.0 q in
          subst Result (sym (subst (λ (m : ℕ). s ≡ m ∷ (a ∷ (b ∷ (body ++ more)))) name.0 e))
          (on_name stage names a b body more size name.1 name.2
          (on 1 (names ++ (body ∷ [])) more (subst (λ (x : Read). x.number ≡ 0) step ok) (subst Onward step again)))

module _ (settings : Settings) where
  -- an accepted list of names, and what is read after it
  after-names :
      (s rest : List ℕ) (r : Read) → (read_names s).number ≡ 0 →
      ReadsTo book (file 1 (names_of s) settings.default_class []) rest r → read_book settings (s ++ rest) ≡ r
  unfolding read_with
  after-names s rest r ok again =
      reads_on book settings.default_class standard.default_class rest r (suc (length s)) 0 [] s ok again
      (suc (length (s ++ rest))) (omega arith)

  -- rows, or a class and rows
  pub rows_make_books : RowsMakeBooks settings
  rows_make_books =
      record {
        without_class = λ s rows ok rows_ok.
            after-names s (row_fields rows) (accepted_file (file 3 (names_of s) settings.default_class rows)) ok
            (reads-rows 1 (names_of s) settings.default_class rows (omega arith) rows_ok.some rows_ok.each rows_ok.few);
        with_class = λ s c rows ok class_ok_fact rows_ok.
            let r = accepted_file (file 3 (names_of s) c rows) in
            after-names s (class_field c ++ row_fields rows) r ok
            (reads-class book refl (names_of s) settings.default_class c (row_fields rows) r class_ok_fact
            (reads-rows 2 (names_of s) c rows (omega arith) rows_ok.some rows_ok.each rows_ok.few));
      }
