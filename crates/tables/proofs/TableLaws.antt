-- Tables as read: where each state's field stands, which passed the reader's test; and the pass over the states, from its begin
-- over its turns to its answers. Assumes nothing.
use mathlib.Core.Path.{◌≡◌, refl, sym, ap, ◌∙◌, subst}
use mathlib.Core.Bool.{Bool, true, false}
use Rattle.std.specs.Prelude.{Ok, Err}
use mathlib.Core.List.{List, [], map, Memᴰ as In}
use Prim.Native.Nat.{ℕ, ◌+◌, ◌≤◌, ◌<◌}
use native.Mathlib.Numerals.{add-one}
use native.Mathlib.Omega.{arith}
use borrow.Author.Tests.{ltb-true, ltb-false, eq-eqb, ne_eqb}
use lib.Dec.{ltb}
use lib.ListN.{length, get_or, drop, length-map, get_or-map}
use Rattle.base.specs.Limits.{work_bytes, bad_numbering}
use Rattle.base.specs.Refusals.{number_of}
use Rattle.base.specs.declared.refusals.Refusal.{Refusal}
use Rattle.base.specs.declared.refusals.Refusal.TheVariants.{BadNumbering}
use Rattle.model.specs.Fields.{File, Read, read_table}
use Rattle.model.specs.Tables.{State, empty_state, state_in, states_in, met_by_arcs, met_by_states, is_first_met}
use Rattle.model.specs.Calls.{Refuses, sizes_fault, table_of, table_states, table_fault}
use Rattle.model.proofs.CallLaws.{refuses_first, refuses_then, sizes_fit}
use Rattle.base.proofs.Places.{nth_in}
use Rattle.model.proofs.TableBodies.{bodies_ok}
use Rattle.judging.specs.Offsets.{body_at, next_at, offset_at, fields_at}
use Rattle.fields.specs.Places.{TableReadAs}
use Rattle.fields.specs.declared.Place.{Place}
use Rattle.fields.proofs.PlaceLaws.{number_some}
use Rattle.judging.proofs.OffsetLaws.{offset_suc, field_within, length_fields, field_at_lem}
use Rattle.tables.specs.Arcs.{StateOk}
use Rattle.tables.specs.KeptFields.{field_at, with_field}
use Rattle.tables.specs.Accepting.{TableRead, StateField, TableAt, OpenedAs}
use Rattle.tables.proofs.KeptLaws.{length-with_field, field_same, field_other}
use Rattle.tables.proofs.MetLaws.{states-stop, states-go, states_end, first_met_some}

-- ---- where each state's field stands

module _ (s : List ℕ) (p : Place) (t : TableRead s p) where
  items_are : fields_at s p.start p.items ≡ (table_of s).items
  items_are = ap (λ (f : File). f.items) t.file_is

  pub states_are : table_states s ≡ map state_in (fields_at s p.start p.items)
  unfolding table_states states_in
  states_are = ap (map state_in) (sym items_are)

  pub states-count : length (table_states s) ≡ p.items
  states-count =
      ap length states_are ∙ length-map (fields_at s p.start p.items) state_in ∙ length_fields s p.start p.items

  -- the i-th field lies within the input and is a state's
  pub field_is : (i : ℕ) → i < p.items → StateField s (offset_at s p.start i)
  field_is i h =
      let within = field_within s p.start p.items i h in
      let place : i < length (fields_at s p.start p.items) = omega (arith, length_fields s p.start p.items) in
      record {
        fits = omega (arith, within, t.sound.items_end, t.sound.within);
        ok =
            subst StateOk (field_at_lem s p.start p.items i h)
            (bodies_ok s t.no_refusal (get_or (fields_at s p.start p.items) i [])
            (subst (λ (l : List (List ℕ)). In (get_or (fields_at s p.start p.items) i []) l) items_are
            (nth_in [] (fields_at s p.start p.items) i place)));
      }

  -- and means the i-th state
  pub field_means : (i : ℕ) → i < p.items → state_in (body_at s (offset_at s p.start i)) ≡ get_or (table_states s) i empty_state
  unfolding state_in
  field_means i h =
      ap state_in (sym (field_at_lem s p.start p.items i h))
      ∙ sym (get_or-map state_in (fields_at s p.start p.items) i [])
      ∙ ap (λ (l : List State). get_or l i empty_state) (sym states_are)

-- ---- the pass over the states

-- before state i: the offset is its field's, the offsets of those before are kept, and the numbers met decide
pub record Passing (s : List ℕ) (p : Place) (lent work : List ℕ) (at met i : ℕ) : Type 0 where
  pub sized : sizes_fault s lent ≡ 0
  pub same_length : length work ≡ length lent
  pub within : i ≤ p.items
  pub at_is : at ≡ offset_at s p.start i
  pub kept : (j : ℕ) → j < i → field_at work j ≡ offset_at s p.start j
  pub decides : met_by_states i met (drop i (table_states s)) ≡ met_by_states 0 1 (table_states s)

pub passing_begins : (s : List ℕ) (p : Place) (lent : List ℕ) → sizes_fault s lent ≡ 0 → Passing s p lent lent p.start 1 0
unfolding offset_at
passing_begins s p lent sized =
    record {
      sized = sized;
      same_length = refl;
      within = omega arith;
      at_is = refl;
      kept = λ (j : ℕ) (h : j < 0). let z : ⊥ = omega arith in absurd z;
      decides = refl;
    }

module _ (s lent : List ℕ) (sized : sizes_fault s lent ≡ 0) where
  fault-none : (read_table s).number ≡ 0 → is_first_met (table_states s) ≡ true → table_fault s lent ≡ 0
  unfolding table_fault
  fault-none e f = rw (sized, e, f)

  fault-12 : (read_table s).number ≡ 0 → is_first_met (table_states s) ≡ false → table_fault s lent ≡ bad_numbering
  unfolding table_fault
  fault-12 e f = rw (sized, e, f)

  fault-fields : (k : ℕ) → Refuses (read_table s).number k → table_fault s lent ≡ k
  unfolding table_fault
  fault-fields k r = (refuses_then sized (refuses_first _ r)).is

module _ (s : List ℕ) (p : Place) (t : TableRead s p) (lent work : List ℕ) (at met i : ℕ) (now : Passing s p lent work at met i) where
  -- the place of state i's field
  pub field_here : i < p.items → StateField s at
  field_here h = subst (StateField s) (sym now.at_is) (field_is s p t i h)

  pub passing-goes : (next : ℕ) → i < p.items → i < met
      → next ≡ met_by_arcs met (state_in (body_at s at)).arcs
      → Passing s p lent (with_field work i at) (next_at s at) next (i + 1)
  passing-goes next h low e =
      let room = (sizes_fit s lent now.sized).work_fits in
      let few : i < 512 = omega (arith, t.sound.few_items) in
      let big : work_bytes ≤ length work = omega (arith, now.same_length) in
      let state-is : state_in (body_at s at) ≡ get_or (table_states s) i empty_state =
      ap (λ (a : ℕ). state_in (body_at s a)) now.at_is ∙ field_means s p t i h in
      let there-is : i < length (table_states s) = omega (arith, states-count s p t) in
      record {
        sized = now.sized;
        same_length = length-with_field work i at ∙ now.same_length;
        within = omega arith;
        at_is = ap (next_at s) now.at_is ∙ sym (offset_suc s p.start i) ∙ ap (offset_at s p.start) (sym (add-one i));
        kept = λ (j : ℕ) (l : j < i + 1). keep few big j l (ltb j i) refl;
        decides =
            ap (λ (m : ℕ). met_by_states (i + 1) m (drop (i + 1) (table_states s)))
            (e ∙ ap (λ (st : State). met_by_arcs met st.arcs) state-is)
            ∙ sym (states-go (table_states s) i met there-is low)
            ∙ now.decides;
      }
    where
      keep : i < 512 → work_bytes ≤ length work → (j : ℕ) → j < i + 1 → (b : Bool) → ltb j i ≡ b
          → field_at (with_field work i at) j ≡ offset_at s p.start j
      keep few big j l true q =
          let less : j < i = ltb-true j i q in
          field_other work i at j (λ (z : j ≡ i). omega arith) ∙ now.kept j less
      keep few big j l false q =
          let same : j ≡ i = omega (arith, ltb-false j i q) in
          subst (λ (k : ℕ). field_at (with_field work i at) k ≡ offset_at s p.start k) (sym same)
          (field_same work i at few big ∙ now.at_is)

  refuse : (met_by_states 0 1 (table_states s) ≡ length (table_states s) → ⊥) → OpenedAs s lent work (Err BadNumbering)
  unfolding is_first_met
  refuse n =
      record {
        number = sym (fault-12 s lent now.sized t.no_refusal (ne_eqb (met_by_states 0 1 (table_states s)) (length (table_states s)) n));
        kept = tt;
        same_length = now.same_length;
      }

  -- a state never met when its turn comes
  pub passing-stops : i < p.items → met ≤ i → OpenedAs s lent work (Err BadNumbering)
  passing-stops h low =
      let there-is : i < length (table_states s) = omega (arith, states-count s p t) in
      let none = states-stop (table_states s) i met there-is low in
      refuse (λ (e : met_by_states 0 1 (table_states s) ≡ length (table_states s)). omega (arith, none, now.decides))

  all-met : p.items ≤ i → met_by_states 0 1 (table_states s) ≡ met
  all-met h =
      let past : length (table_states s) ≤ i = omega (arith, states-count s p t) in
      sym now.decides ∙ states_end (table_states s) i met past

  -- at the end more or fewer states are met than there are
  pub passing-refused : p.items ≤ i → (met ≡ p.items → ⊥) → OpenedAs s lent work (Err BadNumbering)
  passing-refused h n =
      refuse (λ (e : met_by_states 0 1 (table_states s) ≡ length (table_states s)). n (omega (arith, all-met h, states-count s p t)))

  pub passing-accepted : p.items ≤ i → met ≡ p.items → OpenedAs s lent work (Ok p)
  unfolding is_first_met
  passing-accepted h e =
      let room = (sizes_fit s lent now.sized).work_fits in
      let count = states-count s p t in
      let first_met : is_first_met (table_states s) ≡ true =
      eq-eqb (met_by_states 0 1 (table_states s)) (length (table_states s)) (omega (arith, all-met h, count)) in
      record {
        number = sym (fault-none s lent now.sized t.no_refusal first_met);
        kept =
            record {
              read = t;
              items_are = sym count;
              first_met = first_met;
              kept_offsets = λ (j : ℕ) (l : j < p.items). now.kept j (omega arith);
              ready =
                  record {
                    room = omega (arith, now.same_length);
                    some_state = first_met_some (table_states s) first_met;
                    few_states = omega (arith, t.sound.few_items);
                    first_met = first_met;
                    field = λ (j : ℕ) (l : j < length (table_states s)).
                        let less : j < p.items = omega arith in
                        subst (StateField s) (sym (now.kept j (omega arith))) (field_is s p t j less);
                    means = λ (j : ℕ) (l : j < length (table_states s)).
                        let less : j < p.items = omega arith in
                        ap (λ (a : ℕ). state_in (body_at s a)) (now.kept j (omega arith)) ∙ field_means s p t j less;
                  };
            };
        same_length = now.same_length;
      }

-- an arc past the next new state
pub passing-none :
    (s : List ℕ) (p : Place) (t : TableRead s p) (lent work : List ℕ) (at met i : ℕ) → Passing s p lent work at met i →
    i < p.items → i < met → met_by_arcs met (state_in (body_at s at)).arcs ≡ 0 → OpenedAs s lent (with_field work i at) (Err BadNumbering)
passing-none s p t lent work at met i now h low e = go (ltb (i + 1) p.items) refl
  where
    after : List ℕ
    after = with_field work i at

    gone : Passing s p lent after (next_at s at) 0 (i + 1)
    gone = passing-goes s p t lent work at met i now 0 h low (sym e)

    go : (b : Bool) → ltb (i + 1) p.items ≡ b → OpenedAs s lent after (Err BadNumbering)
    go true q =
        passing-stops s p t lent after (next_at s at) 0 (i + 1) gone (ltb-true (i + 1) p.items q) (omega arith)
    go false q =
        passing-refused s p t lent after (next_at s at) 0 (i + 1) gone (ltb-false (i + 1) p.items q) (omega arith)

-- ---- the reader's answer

pub table_read : (s : List ℕ) (p : Place) → TableReadAs s (Ok p) → TableRead s p
unfolding table_of
table_read s p r =
    record {
      no_refusal = sym (ap (λ (a : Read). a.number) r.is);
      sound = r.kept.sound;
      file_is = ap (λ (a : Read). a.file_is) r.is;
    }

pub table_refused :
    (s lent : List ℕ) (k : Refusal) → sizes_fault s lent ≡ 0 → TableReadAs s (Err k) → OpenedAs s lent lent (Err k)
table_refused s lent k sized r =
    record {
      number =
          sym (fault-fields s lent sized (number_of k) (record { is = sym (ap (λ (a : Read). a.number) r.is); some = number_some k }));
      kept = tt;
      same_length = refl;
    }

-- ---- the sizes judged first

pub opened_bad : (s lent : List ℕ) (k : Refusal) → number_of k ≡ sizes_fault s lent → OpenedAs s lent lent (Err k)
unfolding table_fault
opened_bad s lent k e =
    record {
      number = sym (refuses_first _ (record { is = sym e; some = number_some k })).is;
      kept = tt;
      same_length = refl;
    }

-- ---- what an opened table is, and one that is refused

pub record TableOpened (s before after : List ℕ) (p : Place) : Type 0 where
  pub not_refused : table_fault s before ≡ 0
  pub kept : TableAt s after p

pub opened_table : {s before after : List ℕ} {p : Place} → OpenedAs s before after (Ok p) → TableOpened s before after p
opened_table opened = record { not_refused = sym opened.number; kept = opened.kept }

pub opened_refused :
    {s before after : List ℕ} {k : Refusal} → OpenedAs s before after (Err k) → Refuses (table_fault s before) (number_of k)
opened_refused {k = k} opened = record { is = sym opened.number; some = number_some k }
