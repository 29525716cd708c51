-- Written fields are read back, whatever was read before them: one field, then names, the class, rows and states, and with them a
-- whole table. Assumes nothing.
use mathlib.Core.Path.{◌≡◌, refl, sym, ap, ◌∙◌, subst}
use mathlib.Core.Bool.{Bool, true}
use mathlib.Core.List.Memᴰ.{head as here}
use mathlib.Core.List.{List, [], ◌∷◌, ◌++◌, map, map-id, flat_map, append-nil, append_assoc, Memᴰ as In}
use mathlib.Core.List.Memᴰ.{tail as there}
use Prim.Native.Nat.{ℕ, zero, suc, ◌+◌, ◌/◌, ◌%◌, ◌≤◌, ◌<◌}
use native.Mathlib.Omega.{arith}
use lib.ListN.{length, length-append}
use borrow.Author.Tests.{le-leb}
use Rattle.base.specs.Limits.{book_rows, state_limit}
use Rattle.model.specs.Fields.{Class, ClassOk, File, file, FileKind, book, table, takes_class, Read, accepted_file, last_stage}
use Rattle.model.specs.Fields.{read_from, field_fault, with_field, row_ok, state_ok}
use Rattle.model.specs.Tables.{State, field_bytes, name_fields, class_field, row_fields, state_body, state_fields, bytes_of_table}
use Rattle.model.proofs.FieldLaws.{NameFits, RowFits, StateFits, fits_name, fits_class, fits_row, fits_state}
use Rattle.model.proofs.Turns.{one_field}
use Rattle.model.proofs.StateBodies.{two_bytes_lem}
use Rattle.model.proofs.Books.{NamesOk}

-- reading these bytes from this file on comes to this result, whatever the fuel above the number of bytes
abbrev pub ReadsTo : FileKind → File → List ℕ → Read → Type 0
ReadsTo kind f s r = (l : ℕ) → length s < l → read_from l kind f s ≡ r

module _ (kind : FileKind) where
  -- a field without a fault is read, and the rest after it
  reads-field :
      (f : File) (mark : ℕ) (body rest : List ℕ) (r : Read) → field_fault kind f mark body ≡ 0 →
      ReadsTo kind (with_field f mark body) rest r → ReadsTo kind f (field_bytes mark body ++ rest) r
  unfolding field_bytes
  reads-field f mark body rest r ok again zero h = let z : ⊥ = omega arith in absurd z
  reads-field f mark body rest r ok again (suc l) h =
      one_field l kind f mark (length body / 256) (length body % 256) body rest (sym (two_bytes_lem (length body))) ok
      ∙ again l (omega (arith, length-append body rest))

  -- a name has no fault where names may come
  pub name-passes :
      (stage : ℕ) (names items : List (List ℕ)) (c : Class) (body : List ℕ) → stage ≤ 1 → NameFits names body →
      field_fault kind (file stage names c items) 1 body ≡ 0
  unfolding field_fault
  name-passes stage names items c body low fits = rw (le-leb stage 1 low, fits_name names body fits)

  -- at least one name is among those read and these
  reads-names :
      (stage : ℕ) (names more : List (List ℕ)) (c : Class) (rest : List ℕ) (r : Read) → stage ≤ 1 → (length more ≡ 0 → stage ≡ 1) →
      NamesOk names more → ReadsTo kind (file 1 (names ++ more) c []) rest r →
      ReadsTo kind (file stage names c []) (name_fields more ++ rest) r
  unfolding name_fields flat_map with_field
  reads-names stage names [] c rest r low named ok again =
      subst (λ (k : ℕ). ReadsTo kind (file k names c []) rest r) (sym (named refl))
      (subst (λ (z : List (List ℕ)). ReadsTo kind (file 1 z c []) rest r) (append-nil names) again)
  reads-names stage names (n ∷ more) c rest r low named ok again =
      subst (λ (z : List ℕ). ReadsTo kind (file stage names c []) z r) (sym (append_assoc (field_bytes 1 n) (name_fields more) rest))
      (reads-field (file stage names c []) 1 n (name_fields more ++ rest) r (name-passes stage names [] c n low ok.0)
      (reads-names 1 (names ++ (n ∷ [])) more c rest r (omega arith) (λ e. refl) ok.1
      (subst (λ (z : List (List ℕ)). ReadsTo kind (file 1 z c []) rest r) (sym (append_assoc names (n ∷ []) more)) again)))

  -- the class, after the names, in a kind of file that takes one
  pub reads-class :
      takes_class kind ≡ true → (names : List (List ℕ)) (d c : Class) (rest : List ℕ) (r : Read) → ClassOk c →
      ReadsTo kind (file 2 names c []) rest r → ReadsTo kind (file 1 names d []) (class_field c ++ rest) r
  unfolding field_fault with_field class_field
  reads-class takes names d c rest r ok again =
      let body = c.kind ∷ (c.first ∷ (c.second ∷ [])) in
      reads-field (file 1 names d []) 2 body rest r (rw takes (fits_class body ok)) again

  -- items with one mark, at least one among those read and these: `one` says that one more is read, from the stage `low` on
  module _ {X : Type 0} (mark : ℕ) (bytes : X → List ℕ) (names : List (List ℕ)) (c : Class) (low limit : ℕ) (ok : List ℕ → Bool)
      (low-enough : low ≤ 3) (ends : last_stage kind ≡ 3)
      (one :
      (stage : ℕ) (items : List (List ℕ)) (body : List ℕ) → low ≤ stage → length items < limit → ok body ≡ true →
      (field_fault kind (file stage names c items) mark body ≡ 0)
      × (with_field (file stage names c items) mark body ≡ file 3 names c (items ++ (body ∷ [])))) where
    reads-items :
        (stage : ℕ) (items : List (List ℕ)) (xs : List X) → low ≤ stage → (length xs ≡ 0 → stage ≡ 3) →
        ((x : X) → In x xs → ok (bytes x) ≡ true) → length items + length xs ≤ limit →
        ReadsTo kind (file stage names c items) (flat_map (λ (x : X). field_bytes mark (bytes x)) xs)
        (accepted_file (file 3 names c (items ++ map bytes xs)))
    unfolding flat_map read_from
    reads-items stage items [] high some fine few zero h = let z : ⊥ = omega arith in absurd z
    reads-items stage items [] high some fine few (suc l) h =
        subst (λ (k : ℕ). read_from (suc l) kind (file k names c items) [] ≡ accepted_file (file 3 names c (items ++ [])))
        (sym (some refl))
        (rw ends (ap (λ (z : List (List ℕ)). accepted_file (file 3 names c z)) (sym (append-nil items))))
    reads-items stage items (x ∷ xs) high some fine few l h =
        let body = bytes x in
        let rest = flat_map (λ (y : X). field_bytes mark (bytes y)) xs in
        let r : List (List ℕ) → Read = λ z. accepted_file (file 3 names c z) in
        let here-ok = one stage items body high (omega arith) (fine x (here refl)) in
        let more : length (items ++ (body ∷ [])) + length xs ≤ limit = omega (arith, length-append items (body ∷ [])) in
        reads-field (file stage names c items) mark body rest (r (items ++ map bytes (x ∷ xs))) here-ok.0
        (subst (λ (f : File). ReadsTo kind f rest (r (items ++ map bytes (x ∷ xs)))) (sym here-ok.1)
        (subst (λ (z : List (List ℕ)). ReadsTo kind (file 3 names c (items ++ (body ∷ []))) rest (r z))
        (append_assoc items (body ∷ []) (map bytes xs))
        (reads-items 3 (items ++ (body ∷ [])) xs low-enough (λ e. refl) (λ y m. fine y (there m)) more))) l h

-- the rows of a book, after its names or its class
pub reads-rows :
    (stage : ℕ) (names : List (List ℕ)) (c : Class) (rows : List (List ℕ)) → 1 ≤ stage → 1 ≤ length rows →
    ((r : List ℕ) → In r rows → row_ok (length names) r ≡ true) → length rows ≤ book_rows →
    ReadsTo book (file stage names c []) (row_fields rows) (accepted_file (file 3 names c rows))
unfolding field_fault with_field row_fields
reads-rows stage names c rows high some ok few =
    subst (λ (z : List (List ℕ)). ReadsTo book (file stage names c []) (row_fields rows) (accepted_file (file 3 names c z)))
    (map-id rows)
    (reads-items book 3 (λ (r : List ℕ). r) names c 1 book_rows (row_ok (length names)) (omega arith) refl
    (λ at items body after room fine.
    let fits : RowFits (length names) items body = record { few = room; row_ok_fact = fine } in
    (rw (le-leb 1 at after) (fits_row (file at names c items) body fits), refl))
    stage [] rows high (λ e. omega arith) ok (omega arith))

-- each state's bytes pass the test
abbrev pub StatesOk : ℕ → List State → Type 0
StatesOk n states = (s : State) → In s states → state_ok n (state_body s) ≡ true

-- the states of a table, after its class
reads-states :
    (names : List (List ℕ)) (c : Class) (states : List State) → 1 ≤ length states → StatesOk (length names) states →
    length states ≤ state_limit →
    ReadsTo table (file 2 names c []) (state_fields states) (accepted_file (file 3 names c (map state_body states)))
unfolding field_fault with_field state_fields
reads-states names c states some ok few =
    reads-items table 4 state_body names c 2 state_limit (state_ok (length names)) (omega arith) refl
    (λ at items body after room fine.
    let fits : StateFits (length names) items body = record { few = room; state_ok_fact = fine } in
    (rw (le-leb 2 at after) (fits_state (file at names c items) body fits), refl))
    2 [] states (omega arith) (λ e. omega arith) ok (omega arith)

-- a whole table, from a file of which nothing is read
pub reads-table :
    (names : List (List ℕ)) (d c : Class) (states : List State) → NamesOk [] names → 1 ≤ length names → ClassOk c →
    StatesOk (length names) states → 1 ≤ length states → length states ≤ state_limit →
    ReadsTo table (file 0 [] d []) (bytes_of_table names c states) (accepted_file (file 3 names c (map state_body states)))
unfolding bytes_of_table
reads-table names d c states names_ok named class_ok_fact states-ok some few =
    let r = accepted_file (file 3 names c (map state_body states)) in
    reads-names table 0 [] names d (class_field c ++ state_fields states) r (omega arith) (λ e. omega arith) names_ok
    (reads-class table refl names d c (state_fields states) r class_ok_fact (reads-states names c states some states-ok few))
