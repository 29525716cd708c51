-- What an accepted book satisfies, by induction over its reading: names allowed one after the other, a class allowed, rows
-- allowed, at least one of them and not too many. Assumes nothing.
use mathlib.Core.Path.{◌≡◌, refl, sym, ◌∙◌, subst}
use mathlib.Core.Logic.{⊎_elim}
use mathlib.Core.Bool.{true, false, false≢true}
use mathlib.Core.List.Memᴰ.{head as here}
use mathlib.Core.List.{List, [], ◌∷◌, ◌++◌, append-nil, append_assoc, Memᴰ as In}
use mathlib.Core.List.Memᴰ.{tail as there}
use mathlib.Core.List.Memᴰ
use Prim.Native.Nat.{ℕ, suc, ◌≤◌, ◌<◌}
use native.Mathlib.Omega.{arith}
use lib.ListN.{length, length-append}
use Rattle.base.specs.Limits.{row_limit, book_rows}
use Rattle.model.specs.Fields.{Class, ClassOk, Settings, Allowed, File, FileKind, book, takes_states, unread, read_book, read_with}
use Rattle.model.specs.Fields.{with_field, class_ok, all_below, row_ok}
use Rattle.model.specs.Calls.{book_of, tree_fault, book_fault}
use Rattle.model.specs.Claims.{Accepted}
use Rattle.base.proofs.Tests.{Tells, tells_by, tells_and, tells_ltb, tells_leb}
use Rattle.model.proofs.FieldLaws.{NameFits, RowFits, Fitting, a_name, a_class, a_row, a_state, fitting}
use Rattle.model.proofs.FieldLaws.{first_of_lem, class_parts}
use Rattle.model.proofs.Turns.{read_keeps}

-- the second names may come one by one after the first
abbrev pub NamesOk : List (List ℕ) → List (List ℕ) → Type 0
NamesOk names [] = Unit {0}
NamesOk names (n ∷ more) = NameFits names n × NamesOk (names ++ (n ∷ [])) more

-- one name more at the end
names_ok_more :
    (names more : List (List ℕ)) (body : List ℕ) → NamesOk names more → NameFits (names ++ more) body →
    NamesOk names (more ++ (body ∷ []))
names_ok_more names [] body h fits = (subst (λ (z : List (List ℕ)). NameFits z body) (append-nil names) fits, tt)
names_ok_more names (n ∷ more) body h fits = (
  h.0,
  names_ok_more (names ++ (n ∷ [])) more body h.1
      (subst (λ (z : List (List ℕ)). NameFits z body) (sym (append_assoc names (n ∷ []) more)) fits),
)

-- each entry is below n
pub tells_all_below : (n : ℕ) (xs : List ℕ) → Tells (all_below n xs) ((x : ℕ) → In x xs → x < n)
unfolding all_below
tells_all_below n [] = record { fact = λ e x m. absurd (Memᴰ.not-nil m); test = λ h. refl }
tells_all_below n (y ∷ ys) =
    tells_by (tells_and (tells_ltb y n) (tells_all_below n ys))
    (λ h x m. ⊎_elim (λ e. subst (λ (z : ℕ). z < n) (sym e) h.0) (λ r. h.1 x r) (Memᴰ.cases_cons m))
    (λ h. (h y (here refl), λ x m. h x (there m)))

-- a row that is allowed: within the limit, its entries names' numbers
pub tells_row_ok : (n : ℕ) (row : List ℕ) → Tells (row_ok n row) ((length row ≤ row_limit) × ((x : ℕ) → In x row → x < n))
tells_row_ok n row = tells_and (tells_leb (length row) row_limit) (tells_all_below n row)

-- a book as read so far
pub record BookOk (f : File) : Type 0 where
  pub names_ok : NamesOk [] f.names
  pub named : 1 ≤ f.stage → 1 ≤ length f.names
  pub class_ok_fact : ClassOk f.class_is
  pub no_rows : f.stage ≤ 2 → f.items ≡ []
  pub some_row : 3 ≤ f.stage → 1 ≤ length f.items
  pub few_rows : length f.items ≤ book_rows
  pub rows_ok : (r : List ℕ) → In r f.items → row_ok (length f.names) r ≡ true

-- before the first field
pub nothing_read : (c : Class) → ClassOk c → BookOk (unread c)
nothing_read c ok =
    record {
      names_ok = tt;
      named = λ h. let z : ⊥ = omega arith in absurd z;
      class_ok_fact = ok;
      no_rows = λ h. refl;
      some_row = λ h. let z : ⊥ = omega arith in absurd z;
      few_rows = omega arith;
      rows_ok = λ r m. absurd (Memᴰ.not-nil m);
    }

-- what is read stays sound after a name, a class, a row
with_name : (f : File) (body : List ℕ) → f.stage ≤ 1 → NameFits f.names body → BookOk f → BookOk (with_field f 1 body)
unfolding with_field
with_name f body low fits ok =
    record {
      names_ok = names_ok_more [] f.names body ok.names_ok fits;
      named = λ h. omega (arith, length-append f.names (body ∷ []));
      class_ok_fact = ok.class_ok_fact;
      no_rows = λ h. ok.no_rows (omega arith);
      some_row = λ h. let z : ⊥ = omega arith in absurd z;
      few_rows = ok.few_rows;
      rows_ok = λ r m. absurd (Memᴰ.not-nil (subst (λ (z : List (List ℕ)). In r z) (ok.no_rows (omega arith)) m));
    }

with_class : (f : File) (body : List ℕ) → f.stage ≡ 1 → class_ok body ≡ true → BookOk f → BookOk (with_field f 2 body)
unfolding with_field
with_class f body at fits ok =
    record {
      names_ok = ok.names_ok;
      named = λ h. ok.named (omega arith);
      class_ok_fact = (class_parts body fits).1;
      no_rows = λ h. ok.no_rows (omega arith);
      some_row = λ h. let z : ⊥ = omega arith in absurd z;
      few_rows = ok.few_rows;
      rows_ok = ok.rows_ok;
    }

with_row :
    (f : File) (body : List ℕ) → 1 ≤ f.stage → RowFits (length f.names) f.items body → BookOk f →
    BookOk (with_field f 3 body)
unfolding with_field
with_row f body high fits ok =
    record {
      names_ok = ok.names_ok;
      named = λ h. ok.named high;
      class_ok_fact = ok.class_ok_fact;
      no_rows = λ h. let z : ⊥ = omega arith in absurd z;
      some_row = λ h. omega (arith, length-append f.items (body ∷ []));
      few_rows = omega (arith, length-append f.items (body ∷ []), fits.few);
      rows_ok = λ r m.
          ⊎_elim (λ n. ok.rows_ok r n)
          (λ n. subst (λ (z : List ℕ). row_ok (length f.names) z ≡ true) (sym (Memᴰ.eq_of_singleton n)) fits.row_ok_fact)
          (Memᴰ.append_cases f.items m);
    }

-- so it does after any field without a fault, in a kind of file that takes no states
pub book_step :
    (kind : FileKind) → takes_states kind ≡ false → (f : File) (mark : ℕ) (body : List ℕ) → Fitting kind f mark body →
    BookOk f → BookOk (with_field f mark body)
book_step kind none f mark body (a_name e low fits) ok =
    subst (λ (m : ℕ). BookOk (with_field f m body)) (sym e) (with_name f body low fits ok)
book_step kind none f mark body (a_class k e at fits) ok =
    subst (λ (m : ℕ). BookOk (with_field f m body)) (sym e) (with_class f body at fits ok)
book_step kind none f mark body (a_row k e high fits) ok =
    subst (λ (m : ℕ). BookOk (with_field f m body)) (sym e) (with_row f body high fits ok)
book_step kind none f mark body (a_state k e high fits) ok = absurd (false≢true (sym none ∙ k))

-- a book read without a fault is read to the end, and is sound
pub read_book_lem :
    (settings : Settings) → Allowed settings → (s : List ℕ) → (read_book settings s).number ≡ 0 →
    ((read_book settings s).file_is.stage ≡ 3) × BookOk (read_book settings s).file_is
unfolding read_with
read_book_lem settings allowed s ok =
    read_keeps book (λ f rest. BookOk f)
    (λ f mark a b body rest size fit h. book_step book refl f mark body (fitting book f mark body fit) h)
    (suc (length s)) (unread settings.default_class) s (nothing_read settings.default_class allowed) ok

-- so is an accepted book
pub accepted_book :
    (settings : Settings) → Allowed settings → (s : List ℕ) → Accepted settings s →
    ((book_of settings s).stage ≡ 3) × BookOk (book_of settings s)
unfolding book_of book_fault
accepted_book settings allowed s ok =
    read_book_lem settings allowed s (first_of_lem (read_book settings s).number (tree_fault (book_of settings s).items) ok).0
