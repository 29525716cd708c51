-- One turn of reading: of the definition over the bytes that are left, and then at a place; how the reader begins, and how it ends.
-- Assumes nothing.
use mathlib.Core.Path.{◌≡◌, refl, sym, ◌∙◌, ap}
use mathlib.Core.Bool.{true, false}
use mathlib.Core.List.{List, []}
use Prim.Native.Nat.{ℕ, zero, suc, ◌+◌, ◌-◌, ◌≤◌, ◌<◌}
use native.Mathlib.Nat.{add-zero}
use native.Mathlib.Omega.{arith}
use borrow.Author.Tests.{lt-ltb, le-ltb, eq-eqb, ne_eqb}
use lib.Dec.{eqb}
use lib.ListN.{length, get_or, drop, length-drop, drop_of_length-le}
use lib.Seq.{get_or-drop, drop-drop}
use Rattle.model.specs.Fields.{FileKind, File, refused, last_stage, at_end, field_fault, with_field, runs_past, body_of, after_field}
use Rattle.model.specs.Fields.{stated_length, Settings, read_from, read_with}
use Rattle.base.specs.Lists.{last_or}
use Rattle.judging.specs.Offsets.{length_at, body_at, next_at, offset_at, fields_at}
use Rattle.base.specs.Refusals.{number_of}
use Rattle.base.specs.declared.refusals.Refusal.{Refusal}
use Rattle.base.specs.declared.refusals.Refusal.TheVariants.{Unfinished}
use Rattle.judging.specs.declared.classes.Class.{Class}
use Rattle.std.specs.Prelude.{Result, Ok, Err}
use Rattle.std.specs.Result.{IsErrAnd}
use Rattle.fields.specs.Places.{stage_of, settings_of, file_of, Sound, FieldStep, Turned, Goes, RefusedAt, Finished, ReadAs}
use Rattle.fields.specs.declared.Settings as given
use Rattle.fields.specs.declared.Place.{Place}
use Rattle.fields.specs.declared.Stage.TheVariants as stage
use Rattle.base.specs.Limits.{cut_off}

-- the definition, over the bytes that are left: at the end, past the end, refused, and going on
read_end : (l : ℕ) (kind : FileKind) (f : File) → read_from (suc l) kind f [] ≡ at_end kind f
unfolding read_from
read_end l kind f = refl

read_cut : (l : ℕ) (kind : FileKind) (f : File) (t : List ℕ) → eqb (length t) 0 ≡ false → runs_past t ≡ true
    → read_from (suc l) kind f t ≡ refused cut_off
unfolding read_from
read_cut l kind f t a b = rw (a, read_from, b)

read_refused : (l : ℕ) (kind : FileKind) (f : File) (t : List ℕ) (fault : ℕ) → eqb (length t) 0 ≡ false → runs_past t ≡ false
    → field_fault kind f (get_or t 0 0) (body_of t) ≡ fault → eqb fault 0 ≡ false → read_from (suc l) kind f t ≡ refused fault
unfolding read_from
read_refused l kind f t fault a b e n = rw (a, read_from, b, e, n) (ap (λ (k : ℕ). refused k) e)

read_on : (l : ℕ) (kind : FileKind) (f : File) (t : List ℕ) → eqb (length t) 0 ≡ false → runs_past t ≡ false
    → field_fault kind f (get_or t 0 0) (body_of t) ≡ 0
    → read_from (suc l) kind f t ≡ read_from l kind (with_field f (get_or t 0 0) (body_of t)) (after_field t)
unfolding read_from
read_on l kind f t a b e = rw (a, read_from, b, e)

module _ (s : List ℕ) (p : Place) (before-end : p.at < length s) where
  -- what is left at a place, in the input's own offsets
  some_left : eqb (length (drop p.at s)) 0 ≡ false
  some_left = ne_eqb (length (drop p.at s)) 0 (λ (e : length (drop p.at s) ≡ 0). omega (arith, e, length-drop p.at s))

  mark_left : get_or (drop p.at s) 0 0 ≡ get_or s p.at 0
  mark_left = get_or-drop p.at s 0 0 ∙ rw add-zero

  after-left : after_field (drop p.at s) ≡ drop (next_at s p.at) s
  unfolding length_at
  after-left = drop-drop (3 + stated_length (drop p.at s)) p.at s

  past : length s - p.at < 3 → runs_past (drop p.at s) ≡ true
  past h = rw (length-drop p.at s, lt-ltb (length s - p.at) 3 h)

  past_body : 3 ≤ length s - p.at → length s - p.at - 3 < length_at s p.at → runs_past (drop p.at s) ≡ true
  unfolding length_at
  past_body g h =
      let q : length s - p.at < 3 + length_at s p.at = omega arith in
      rw (length-drop p.at s, le-ltb (length s - p.at) 3 g, lt-ltb (length s - p.at) (3 + length_at s p.at) q)

  whole : next_at s p.at ≤ length s → runs_past (drop p.at s) ≡ false
  unfolding length_at
  whole h =
      let g : 3 ≤ length s - p.at = omega arith in
      let q : 3 + length_at s p.at ≤ length s - p.at = omega arith in
      rw (length-drop p.at s, le-ltb (length s - p.at) 3 g, le-ltb (length s - p.at) (3 + length_at s p.at) q)

  pub turn_cut : (kind : FileKind) → length s - p.at < 3 → RefusedAt kind s p cut_off
  turn_cut kind h =
      record { some = omega arith; reads = λ (l : ℕ). read_cut l kind (file_of s p) (drop p.at s) some_left (past h) }

  pub turn_cut_body : (kind : FileKind) → 3 ≤ length s - p.at → length s - p.at - 3 < length_at s p.at → RefusedAt kind s p cut_off
  turn_cut_body kind g h =
      record { some = omega arith; reads = λ (l : ℕ). read_cut l kind (file_of s p) (drop p.at s) some_left (past_body g h) }

  -- what judging the field found, of the bytes that are left
  fault-left : (kind : FileKind) (fault : ℕ) → field_fault kind (file_of s p) (get_or s p.at 0) (body_at s p.at) ≡ fault
      → field_fault kind (file_of s p) (get_or (drop p.at s) 0 0) (body_of (drop p.at s)) ≡ fault
  unfolding body_at
  fault-left kind fault e = rw mark_left e

  goes : (kind : FileKind) (q : Place) → next_at s p.at ≤ length s → FieldStep kind s p (Ok q) → Goes kind s p q
  unfolding body_at
  goes kind q h j =
      record {
        sound = j.sound;
        further = omega (arith, j.after);
        reads =
            λ (l : ℕ).
            read_on l kind (file_of s p) (drop p.at s) some_left (whole h) (fault-left kind 0 j.no_fault)
            ∙ rw (mark_left, after-left, j.file_is, j.after);
      }

  refuses : (kind : FileKind) (k : Refusal) → next_at s p.at ≤ length s → FieldStep kind s p (Err k) → RefusedAt kind s p (number_of k)
  refuses kind k h j =
      let fault = number_of k in
      let n : fault ≡ 0 → ⊥ = λ (e : fault ≡ 0). omega (arith, j.some, e) in
      record {
        some = j.some;
        reads =
            λ (l : ℕ).
            read_refused l kind (file_of s p) (drop p.at s) fault some_left (whole h) (fault-left kind fault j.is) (ne_eqb fault 0 n);
      }

  -- a whole field: the turn is what judging it found
  pub turn : (kind : FileKind) (r : Result Place Refusal) → next_at s p.at ≤ length s → FieldStep kind s p r → Turned kind s p r
  turn kind (Ok q) h j = goes kind q h j
  turn kind (Err k) h j = refuses kind k h j

-- where reading begins
abbrev pub begin : Class → Place
begin default =
    record {
      at = 0;
      stage = stage.NameDue;
      names = 0;
      last = 0;
      width = 0;
      class = default;
      start = 0;
      items = 0;
    }

-- reading the whole file comes to reading on from this place, with fuel for what is left
pub record Reading (settings : Settings) (kind : FileKind) (s : List ℕ) (p : Place) : Type 0 where
  pub sound : Sound s p
  pub fuel : ℕ
  pub enough : length s < fuel + p.at
  pub reads : read_from fuel kind (file_of s p) (drop p.at s) ≡ read_with settings kind s

begin-sound : (default : Class) (s : List ℕ) → Sound s (begin default)
unfolding offset_at fields_at last_or
begin-sound default s =
    record {
      within = omega arith;
      few_names = omega arith;
      few_items = omega arith;
      names_within = omega arith;
      names_end_fact = λ _. refl;
      last_end = refl;
      last_is = refl;
      items_end = refl;
      no_items = λ _. refl;
      some_items = λ (g : 3 ≤ 0). let z : ⊥ = omega arith in absurd z;
    }

pub reading_begins :
    (settings : given.Settings) (kind : FileKind) (s : List ℕ) →
    Reading (settings_of settings) kind s (begin settings.default_class)
unfolding fields_at read_with
reading_begins settings kind s =
    record {
      sound = begin-sound settings.default_class s;
      fuel = suc (length s);
      enough = omega arith;
      reads = refl;
    }

module _ (settings : Settings) (kind : FileKind) (s : List ℕ) (p : Place) (reading : Reading settings kind s p) where
  -- there is fuel for one turn at least
  one_turn : (l : ℕ) × (length s < suc l + p.at) × (read_from (suc l) kind (file_of s p) (drop p.at s) ≡ read_with settings kind s)
  one_turn = go reading.fuel reading.enough reading.reads
    where
      go : (f : ℕ) → length s < f + p.at → read_from f kind (file_of s p) (drop p.at s) ≡ read_with settings kind s
          → (l : ℕ) × (length s < suc l + p.at) × (read_from (suc l) kind (file_of s p) (drop p.at s) ≡ read_with settings kind s)
      go zero e r = let z : ⊥ = omega (arith, e, reading.sound.within) in absurd z
      go (suc l) e r = (l, e, r)

  pub reading_goes : (q : Place) → Goes kind s p q → Reading settings kind s q
  reading_goes q g =
      let t = one_turn in
      record {
        sound = g.sound;
        fuel = t.0;
        enough = omega (arith, t.1, g.further);
        reads = sym (g.reads t.0) ∙ t.2;
      }

  -- what refuses a turn refuses the file
  pub reading_refused : (r : Result Place Refusal) (k : Refusal) → IsErrAnd r (λ y. y ≡ k) → RefusedAt kind s p (number_of k)
      → ReadAs settings kind s r
  reading_refused (Ok q) k e g = absurd e
  reading_refused (Err y) k e g =
      let t = one_turn in
      rw e (record { is = sym (g.reads t.0) ∙ t.2; kept = g.some })

  at_end_fact : length s ≤ p.at → at_end kind (file_of s p) ≡ read_with settings kind s
  at_end_fact h =
      let t = one_turn in
      sym (read_end t.0 kind (file_of s p)) ∙ rw (drop_of_length-le s h) at t.2

  finished : length s ≤ p.at → stage_of p.stage ≡ last_stage kind → Finished kind s p
  finished h e = record { sound = reading.sound; at_end_fact = omega (arith, reading.sound.within); met = e }

  pub reading_accepted : length s ≤ p.at → stage_of p.stage ≡ last_stage kind → ReadAs settings kind s (Ok p)
  reading_accepted h e = record { is = rw (eq-eqb (stage_of p.stage) (last_stage kind) e) at (at_end_fact h); kept = finished h e }

  pub reading_unfinished : length s ≤ p.at → (stage_of p.stage ≡ last_stage kind → ⊥) → ReadAs settings kind s (Err Unfinished)
  reading_unfinished h e = record { is = rw (ne_eqb (stage_of p.stage) (last_stage kind) e) at (at_end_fact h); kept = omega arith }
