-- An accepted table's fields, written again, are the bytes that were read: by induction over the reading, what is read so far,
-- written, and then what is left, is the input. Assumes nothing.
use mathlib.Core.Path.{◌≡◌, refl, sym, ap, ap₂, ◌∙◌, subst}
use mathlib.Core.Logic.{⊎_elim}
use mathlib.Core.Bool.{Bool, true, false, cond, false≢true}
use mathlib.Core.List.Memᴰ.{head as here}
use mathlib.Core.List.{List, [], ◌∷◌, ◌++◌, flat_map, append-nil, append_assoc, Memᴰ as In}
use mathlib.Core.List.Memᴰ
use mathlib.Core.List.Memᴰ.{tail as there}
use Prim.Native.Nat.{ℕ, suc, ◌+◌, ◌*◌, ◌/◌, ◌%◌, ◌≤◌, ◌<◌}
use native.Mathlib.Omega.{arith}
use lib.Dec.{leb}
use lib.ListN.{length, get_or}
use borrow.Author.Tests.{le-leb, lt-leb}
use Rattle.model.specs.Fields.{Class, File, unread, standard, table, with_field, class_ok, class_from}
use Rattle.model.specs.Fields.{read_table, read_with}
use Rattle.model.specs.Tables.{field_bytes, name_fields, class_field, state_body, state_fields, state_in, states_in, bytes_of_table}
use Rattle.model.specs.Calls.{table_of, table_states, rewritten}
use Rattle.model.proofs.FieldLaws.{StateFits, Fitting, a_name, a_class, a_row, a_state, fitting, class_parts}
use Rattle.model.proofs.Turns.{read_keeps}
use Rattle.model.proofs.StateBodies.{Bytes, body_rewritten}

-- numbers below 256 at every place
pub bytes_of : (s : List ℕ) → ((i : ℕ) → i < length s → get_or s i 0 < 256) → Bytes s
bytes_of [] h = tt
bytes_of (x ∷ s) h = (h 0 (omega arith), bytes_of s (λ i p. h (suc i) (omega arith)))

-- both parts of bytes are bytes
bytes_parts : (xs ys : List ℕ) → Bytes (xs ++ ys) → Bytes xs × Bytes ys
bytes_parts [] ys h = (tt, h)
bytes_parts (x ∷ xs) ys h = let r = bytes_parts xs ys h.1 in ((h.0, r.0), r.1)

-- a field as it was read
pub field_again :
    (mark a b : ℕ) (body rest : List ℕ) → length body ≡ 256 * a + b → b < 256 →
    mark ∷ (a ∷ (b ∷ (body ++ rest))) ≡ field_bytes mark body ++ rest
unfolding field_bytes
field_again mark a b body rest size low =
    let high_byte : a ≡ length body / 256 = omega arith in
    let low_byte : b ≡ length body % 256 = omega arith in
    ap₂ (λ (x y : ℕ). mark ∷ (x ∷ (y ∷ (body ++ rest)))) high_byte low_byte

-- fields with one more at the end
pub fields_more :
    (mark : ℕ) (bodies : List (List ℕ)) (body rest : List ℕ) →
    flat_map (field_bytes mark) (bodies ++ (body ∷ [])) ++ rest ≡ flat_map (field_bytes mark) bodies ++ (field_bytes mark body ++ rest)
unfolding flat_map
fields_more mark [] body rest = ap (λ (z : List ℕ). z ++ rest) (append-nil (field_bytes mark body))
fields_more mark (n ∷ bodies) body rest =
    append_assoc (field_bytes mark n) (flat_map (field_bytes mark) (bodies ++ (body ∷ []))) rest
    ∙ ap (λ (z : List ℕ). field_bytes mark n ++ z) (fields_more mark bodies body rest)
    ∙ sym (append_assoc (field_bytes mark n) (flat_map (field_bytes mark) bodies) (field_bytes mark body ++ rest))

-- what a field does to a file and to what is left, for the mark as it was read
pub at_mark :
    (P : File → List ℕ → Type 0) (f : File) (a b : ℕ) (body rest : List ℕ) (mark m : ℕ) → mark ≡ m →
    (P f (m ∷ (a ∷ (b ∷ (body ++ rest)))) → P (with_field f m body) rest) →
    P f (mark ∷ (a ∷ (b ∷ (body ++ rest)))) → P (with_field f mark body) rest
at_mark P f a b body rest mark m e step h =
    subst (λ (z : ℕ). P (with_field f z body) rest) (sym e) (step (subst (λ (z : ℕ). P f (z ∷ (a ∷ (b ∷ (body ++ rest))))) e h))

-- a class field holds its class
class_again : (body : List ℕ) → class_ok body ≡ true → class_field (class_from body) ≡ field_bytes 2 body
unfolding class_field
class_again body ok =
    ap (field_bytes 2) (three body (class_parts body ok).0)
  where
    three : (s : List ℕ) → length s ≡ 3 → get_or s 0 0 ∷ (get_or s 1 0 ∷ (get_or s 2 0 ∷ [])) ≡ s
    three [] e = let z : ⊥ = omega arith in absurd z
    three (x ∷ []) e = let z : ⊥ = omega arith in absurd z
    three (x ∷ (y ∷ [])) e = let z : ⊥ = omega arith in absurd z
    three (x ∷ (y ∷ (w ∷ []))) e = refl
    three (x ∷ (y ∷ (w ∷ (v ∷ s)))) e = let z : ⊥ = omega arith in absurd z

-- names, the class if it is read, and items, written, and then what is left
abbrev written : List (List ℕ) → Bool → Class → List (List ℕ) → List ℕ → List ℕ
written names class-read c items rest =
    name_fields names ++ (cond class-read (class_field c) [] ++ (flat_map (field_bytes 4) items ++ rest))

-- a table as read so far, of the input s
record Rewrites (s : List ℕ) (f : File) (rest : List ℕ) : Type 0 where
  same : written f.names (leb 2 f.stage) f.class_is f.items rest ≡ s
  no_items : f.stage ≤ 2 → f.items ≡ []
  bytes : Bytes rest
  bodies : (r : List ℕ) → In r f.items → state_body (state_in r) ≡ r

module _ (s : List ℕ) (f : File) (a b : ℕ) (body rest : List ℕ) (size : length body ≡ 256 * a + b) where
  -- the field in front is as it is written
  front :
      (mark : ℕ) → Rewrites s f (mark ∷ (a ∷ (b ∷ (body ++ rest)))) →
      mark ∷ (a ∷ (b ∷ (body ++ rest))) ≡ field_bytes mark body ++ rest
  front mark h = field_again mark a b body rest size h.bytes.1.1.0

  -- it stays so after a name, the class, a state
  with_name : f.stage ≤ 1 → Rewrites s f (1 ∷ (a ∷ (b ∷ (body ++ rest)))) → Rewrites s (with_field f 1 body) rest
  unfolding with_field name_fields flat_map
  with_name low h =
      let no_items = h.no_items (omega arith) in
      let no_class : leb 2 f.stage ≡ false = lt-leb 2 f.stage (omega arith) in
      record {
        same =
            (λ i. written (f.names ++ (body ∷ [])) false f.class_is (no_items i) rest)
            ∙ fields_more 1 f.names body rest
            ∙ sym (λ i. written f.names (no_class i) f.class_is (no_items i) (front 1 h i))
            ∙ h.same;
        no_items = λ p. no_items;
        bytes = (bytes_parts body rest h.bytes.1.1.1).1;
        bodies = h.bodies;
      }

  with_class :
      f.stage ≡ 1 → class_ok body ≡ true → Rewrites s f (2 ∷ (a ∷ (b ∷ (body ++ rest)))) →
      Rewrites s (with_field f 2 body) rest
  unfolding with_field flat_map
  with_class at ok h =
      let no_items = h.no_items (omega arith) in
      let no_class : leb 2 f.stage ≡ false = lt-leb 2 f.stage (omega arith) in
      record {
        same =
            (λ i. name_fields f.names ++ (class_again body ok i ++ (flat_map (field_bytes 4) (no_items i) ++ rest)))
            ∙ sym (λ i. written f.names (no_class i) f.class_is (no_items i) (front 2 h i))
            ∙ h.same;
        no_items = λ p. no_items;
        bytes = (bytes_parts body rest h.bytes.1.1.1).1;
        bodies = h.bodies;
      }

  with_state_lem :
      2 ≤ f.stage → StateFits (length f.names) f.items body → Rewrites s f (4 ∷ (a ∷ (b ∷ (body ++ rest)))) →
      Rewrites s (with_field f 4 body) rest
  unfolding with_field
  with_state_lem high fits h =
      let parts = bytes_parts body rest h.bytes.1.1.1 in
      let again = body_rewritten (length f.names) body parts.0 fits.state_ok_fact in
      let class-read : leb 2 f.stage ≡ true = le-leb 2 f.stage high in
      record {
        same =
            ap (λ (z : List ℕ). name_fields f.names ++ (class_field f.class_is ++ z)) (fields_more 4 f.items body rest)
            ∙ sym (λ i. written f.names (class-read i) f.class_is f.items (front 4 h i))
            ∙ h.same;
        no_items = λ p. let z : ⊥ = omega arith in absurd z;
        bytes = parts.1;
        bodies = λ r m.
            ⊎_elim (λ n. h.bodies r n)
            (λ n. subst (λ (z : List ℕ). state_body (state_in z) ≡ z) (sym (Memᴰ.eq_of_singleton n)) again)
            (Memᴰ.append_cases f.items m);
      }

  -- so it does after any field without a fault
  table_step :
      (mark : ℕ) → Fitting table f mark body → Rewrites s f (mark ∷ (a ∷ (b ∷ (body ++ rest)))) →
      Rewrites s (with_field f mark body) rest
  table_step mark (a_name e low fits) h = at_mark (Rewrites s) f a b body rest mark 1 e (with_name low) h
  table_step mark (a_class k e at fits) h = at_mark (Rewrites s) f a b body rest mark 2 e (with_class at fits) h
  table_step mark (a_row k e high fits) h = absurd (false≢true k)
  table_step mark (a_state k e high fits) h = at_mark (Rewrites s) f a b body rest mark 4 e (with_state_lem high fits) h

-- before the first field
nothing_read : (s : List ℕ) → Bytes s → Rewrites s (unread standard.default_class) s
unfolding name_fields flat_map
nothing_read s bytes = record { same = refl; no_items = λ h. refl; bytes = bytes; bodies = λ r m. absurd (Memᴰ.not-nil m) }

-- state fields are written as they were read
states_again :
    (items : List (List ℕ)) → ((r : List ℕ) → In r items → state_body (state_in r) ≡ r) →
    state_fields (states_in items) ≡ flat_map (field_bytes 4) items
unfolding state_fields states_in flat_map
states_again [] h = refl
states_again (r ∷ items) h =
    ap₂ (λ (x xs : List ℕ). field_bytes 4 x ++ xs) (h r (here refl)) (states_again items (λ q m. h q (there m)))

-- so an accepted table is rewritten to the same bytes
pub rewritten-same : (s : List ℕ) → Bytes s → (read_table s).number ≡ 0 → rewritten s ≡ s
unfolding rewritten table_states table_of bytes_of_table read_with
rewritten-same s bytes ok =
    let kept =
    read_keeps table (Rewrites s)
    (λ f mark a b body rest size fit h. table_step s f a b body rest size mark (fitting table f mark body fit) h)
    (suc (length s)) (unread standard.default_class) s (nothing_read s bytes) ok in
    let f = table_of s in
    let class-read : leb 2 f.stage ≡ true = le-leb 2 f.stage (omega (arith, kept.0)) in
    ap (λ (z : List ℕ). name_fields f.names ++ (class_field f.class_is ++ z))
    (states_again f.items kept.1.bodies ∙ sym (append-nil (flat_map (field_bytes 4) f.items)))
    ∙ sym (λ i. written f.names (class-read i) f.class_is f.items [])
    ∙ kept.1.same
