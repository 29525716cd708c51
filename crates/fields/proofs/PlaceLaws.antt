-- The places of the reader: where nothing refuses a field, the place after it is sound and stands for the file with that field. One
-- law for each of a name, a class and an item, that is a row or a state. Assumes nothing.
use mathlib.Core.Path.{◌≡◌, refl, sym, ◌∙◌, subst}
use mathlib.Core.List.{List, [], ◌∷◌, ◌++◌}
use Prim.Native.Nat.{ℕ, ◌+◌, ◌-◌, ◌≤◌, ◌<◌}
use native.Mathlib.Numerals.{add-one}
use native.Mathlib.Omega.{arith}
use lib.ListN.{length, get_or, take, drop}
use Rattle.base.specs.Lists.{last_or}
use Rattle.base.specs.Limits.{name_limit, state_limit}
use Rattle.base.specs.Refusals.{number_of}
use Rattle.base.specs.declared.refusals.Refusal.{Refusal}
use Rattle.base.specs.declared.refusals.Refusal.TheVariants as refusal
use Rattle.std.specs.Prelude.{Result, Ok, Err}
use Rattle.std.specs.Result.{IsErrAnd}
use Rattle.model.specs.Fields.{File, name_fault, class_fault, row_fault, state_fault, with_field}
use Rattle.model.proofs.FieldLaws.{name_fits, class_fits, class_parts, row_fits, state-fits}
use Rattle.judging.specs.Offsets.{length_at, body_at, next_at, offset_at, fields_at}
use Rattle.judging.specs.Judged.{NameJudged, ItemJudged}
use Rattle.fields.specs.Places.{stage_of, file_of, Sound, Whole, Grown, Stepped, StepBy}
use Rattle.fields.specs.declared.Place.{Place}
use Rattle.fields.specs.declared.Stage.TheVariants as stage
use Rattle.base.proofs.Lists.{last_or-snoc}
use Rattle.judging.proofs.OffsetLaws.{body_at_lem, length-body, offset_suc, length_fields, fields_more}

-- where nothing refuses one more row or state, there are fewer than the limit of both; a class has three bytes
pub rows_left : (f : File) (b : List ℕ) → row_fault f b ≡ 0 → length f.items < state_limit
rows_left f b e = omega (arith, (row_fits f b e).few)

pub states_left : (f : File) (b : List ℕ) → state_fault f b ≡ 0 → length f.items < state_limit
states_left f b e = (state-fits f b e).few

pub class_bytes : (b : List ℕ) → class_fault b ≡ 0 → length b ≡ 3
class_bytes b e = (class_parts b (class_fits b e)).0

-- the place after one name more, which ends where the field at `next` begins
abbrev pub name_place : Place → ℕ → ℕ → Place
name_place p next width =
    record {
      at = next;
      stage = stage.NamesMet;
      names = p.names + 1;
      last = p.at + 3;
      width = width;
      class = p.class;
      start = next;
      items = 0;
    }

-- the place after a class field with these bytes
abbrev pub class_place : Place → ℕ → List ℕ → Place
class_place p next bytes =
    record {
      at = next;
      stage = stage.ClassMet;
      names = p.names;
      last = p.last;
      width = p.width;
      class = record { kind = get_or bytes 0 0; first = get_or bytes 1 0; second = get_or bytes 2 0 };
      start = next;
      items = 0;
    }

-- the place after one row or state more, which ends where the field at `next` begins
abbrev pub item_place : Place → ℕ → Place
item_place p next =
    record {
      at = next;
      stage = stage.ItemsMet;
      names = p.names;
      last = p.last;
      width = p.width;
      class = p.class;
      start = p.start;
      items = p.items + 1;
    }

module _ (s : List ℕ) (p : Place) (whole : Whole s p) where
  sound : Sound s p
  sound = whole.sound

  fits : next_at s p.at ≤ length s
  fits = whole.fits

  -- what a name ends at, and the run of names with it
  names-next : stage_of p.stage ≤ 1 → offset_at s 0 (p.names + 1) ≡ next_at s p.at
  names-next h = rw (add-one, offset_suc, sound.names_end_fact h)

  names_more : stage_of p.stage ≤ 1 → fields_at s 0 (p.names + 1) ≡ fields_at s 0 p.names ++ (body_at s p.at ∷ [])
  names_more h = rw (add-one, fields_more, sound.names_end_fact h)

  no_items_yet : stage_of p.stage ≤ 2 → fields_at s p.start p.items ≡ []
  unfolding fields_at
  no_items_yet h = rw (sound.no_items h)

  last_body : body_at s p.at ≡ take (length_at s p.at) (drop (p.at + 3) s)
  last_body =
      let q : next_at s p.at - (p.at + 3) ≡ length_at s p.at = omega arith in
      rw q at (body_at_lem s p.at)

  name-sound : stage_of p.stage ≤ 1 → p.names < name_limit → Sound s (name_place p (next_at s p.at) (length_at s p.at))
  unfolding offset_at
  name-sound h few =
      record {
        within = fits;
        few_names = omega arith;
        few_items = omega arith;
        names_within = omega (arith, names-next h);
        names_end_fact = λ _. names-next h;
        last_end = omega (arith, names-next h);
        last_is = rw (names_more h, last_or-snoc) last_body;
        items_end = refl;
        no_items = λ _. refl;
        some_items = λ (g : 3 ≤ 1). let z : ⊥ = omega arith in absurd z;
      }

  name-grows : stage_of p.stage ≤ 1 → name_fault (file_of s p).names (body_at s p.at) ≡ 0
      → Grown s p (name_fault (file_of s p).names (body_at s p.at)) (with_field (file_of s p) 1 (body_at s p.at))
      (name_place p (next_at s p.at) (length_at s p.at))
  unfolding with_field fields_at
  name-grows h e =
      record {
        no_fault = e;
        sound = name-sound h (omega (arith, (name_fits (file_of s p).names (body_at s p.at) e).few, length_fields s 0 p.names));
        file_is = rw (names_more h, no_items_yet (omega arith));
        after = refl;
      }

  class_grows : stage_of p.stage ≤ 2 → class_fault (body_at s p.at) ≡ 0
      → Grown s p (class_fault (body_at s p.at)) (with_field (file_of s p) 2 (body_at s p.at))
      (class_place p (next_at s p.at) (body_at s p.at))
  unfolding with_field fields_at offset_at
  class_grows h e =
      record {
        no_fault = e;
        sound =
            record {
              within = fits;
              few_names = sound.few_names;
              few_items = omega arith;
              names_within = omega (arith, sound.names_within);
              names_end_fact = λ (g : 2 ≤ 1). let z : ⊥ = omega arith in absurd z;
              last_end = sound.last_end;
              last_is = sound.last_is;
              items_end = refl;
              no_items = λ _. refl;
              some_items = λ (g : 3 ≤ 2). let z : ⊥ = omega arith in absurd z;
            };
        file_is = rw (no_items_yet h);
        after = refl;
      }

  items_next : offset_at s p.start (p.items + 1) ≡ next_at s p.at
  items_next = rw (add-one, offset_suc, sound.items_end)

  items_more : fields_at s p.start (p.items + 1) ≡ fields_at s p.start p.items ++ (body_at s p.at ∷ [])
  items_more = rw (add-one, fields_more, sound.items_end)

  item_sound : p.items < state_limit → Sound s (item_place p (next_at s p.at))
  item_sound few =
      record {
        within = fits;
        few_names = sound.few_names;
        few_items = omega arith;
        names_within = omega (arith, sound.names_within);
        names_end_fact = λ (g : 3 ≤ 1). let z : ⊥ = omega arith in absurd z;
        last_end = sound.last_end;
        last_is = sound.last_is;
        items_end = items_next;
        no_items = λ (g : 3 ≤ 2). let z : ⊥ = omega arith in absurd z;
        some_items = λ _. omega arith;
      }

  -- the place after an item that nothing refuses
  pub item_goes : (next fault : ℕ) → next ≡ next_at s p.at → fault ≡ 0 → p.items < state_limit
      → Grown s p fault (with_field (file_of s p) 3 (body_at s p.at)) (item_place p next)
  unfolding with_field
  item_goes next fault n e few =
      rw n (record { no_fault = e; sound = item_sound few; file_is = rw items_more; after = refl })

-- a refusal's number is not 0
pub number_some : (k : Refusal) → 0 < number_of k
number_some refusal.BadSizes = omega arith
number_some refusal.CutOff = omega arith
number_some refusal.Misplaced = omega arith
number_some refusal.Unfinished = omega arith
number_some refusal.BadName = omega arith
number_some refusal.NameOrder = omega arith
number_some refusal.TooMany = omega arith
number_some refusal.BadClass = omega arith
number_some refusal.BadRow = omega arith
number_some refusal.TreeTooLarge = omega arith
number_some refusal.BadState = omega arith
number_some refusal.BadNumbering = omega arith
number_some refusal.OutputTooShort = omega arith
number_some refusal.BadPlan = omega arith
number_some refusal.TooDeep = omega arith
number_some refusal.UnknownChild = omega arith

-- what is handed on as it was found
pub handed_on : (s : List ℕ) (p : Place) (fault : ℕ) (grown : File) (r : Result Place Refusal) (k : Refusal) → IsErrAnd r (λ y. y ≡ k)
    → fault ≡ number_of k → Stepped s p fault grown r
handed_on s p fault grown (Ok q) k e h = absurd e
handed_on s p fault grown (Err y) k e h = rw e (record { is = h; some = number_some k })

-- What the code has at hand after judging a field: the field's bytes, its fault, where the next field begins. Of a name:
module _ (s : List ℕ) (p : Place) (whole : Whole s p) (name : List ℕ) (fault : ℕ) (bytes : name ≡ body_at s p.at)
    (judged : NameJudged (take (p.last + p.width - p.last) (drop p.last s)) p.names name fault) where
  pub name-fault-is : name_fault (file_of s p).names (body_at s p.at) ≡ fault
  name-fault-is =
      let q : p.last + p.width - p.last ≡ p.width = omega arith in
      let last : last_or [] (fields_at s 0 p.names) ≡ take (p.last + p.width - p.last) (drop p.last s) =
      rw q whole.sound.last_is in
      subst (λ (b : List ℕ). name_fault (file_of s p).names b ≡ fault) bytes
      (judged.is (file_of s p).names last (length_fields s 0 p.names))

  pub name-goes : (next : ℕ) → next ≡ next_at s p.at → stage_of p.stage ≤ 1 → fault ≡ 0
      → Grown s p (name_fault (file_of s p).names (body_at s p.at)) (with_field (file_of s p) 1 (body_at s p.at))
      (name_place p next (length name))
  name-goes next n h e = rw (n, bytes, length-body s p.at whole.fits) (name-grows s p whole h (name-fault-is ∙ e))

-- of a class:
module _ (s : List ℕ) (p : Place) (whole : Whole s p) (class : List ℕ) (fault : ℕ) (bytes : class ≡ body_at s p.at)
    (judged : fault ≡ class_fault class) where
  pub class-fault-is : class_fault (body_at s p.at) ≡ fault
  class-fault-is = rw bytes at (sym judged)

  pub class_goes : (next : ℕ) → next ≡ next_at s p.at → stage_of p.stage ≤ 2 → fault ≡ 0
      → Grown s p (class_fault (body_at s p.at)) (with_field (file_of s p) 2 (body_at s p.at)) (class_place p next class)
  class_goes next n h e = rw (n, bytes) (class_grows s p whole h (class-fault-is ∙ e))

-- of an item, a row or a state, by what judges it:
module _ (judge : File → List ℕ → ℕ) (s : List ℕ) (p : Place) (item : List ℕ) (fault : ℕ) (bytes : item ≡ body_at s p.at)
    (judged : ItemJudged judge p.names p.items item fault) where
  item-fault-is : judge (file_of s p) (body_at s p.at) ≡ fault
  item-fault-is =
      subst (λ (b : List ℕ). judge (file_of s p) b ≡ fault) bytes
      (judged.is (file_of s p) (length_fields s 0 p.names) (length_fields s p.start p.items))

  -- where nothing refuses it there is room for it
  pub item_room : ((f : File) (b : List ℕ) → judge f b ≡ 0 → length f.items < state_limit) → fault ≡ 0 → p.items < state_limit
  item_room few e =
      omega (arith, few (file_of s p) (body_at s p.at) (item-fault-is ∙ e), length_fields s p.start p.items)

  -- what is found of its fault is found of what judges it; a row and a state are added to a file in one way
  pub item_step : (r : Result Place Refusal) → StepBy (λ _ _. fault) 3 s p r → StepBy judge 3 s p r
  item_step r h = rw item-fault-is h
