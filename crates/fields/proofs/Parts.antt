-- What a later crate uses of an accepted file's place: how many names there are, and that they lie within the input; the
-- definition's answer; and what an accepted list of names is. Assumes nothing.
use mathlib.Core.Path.{◌≡◌, sym, ap, subst, ◌∙◌}
use mathlib.Core.List.{List}
use Prim.Native.Nat.{ℕ, ◌≤◌}
use native.Mathlib.Omega.{arith}
use lib.ListN.{length}
use Rattle.base.specs.Limits.{name_limit, names_met}
use Rattle.model.specs.Fields.{Settings, standard, File, FileKind, name_list, Read, read_with, read_names}
use Rattle.model.specs.Calls.{names_of}
use Rattle.judging.specs.Offsets.{offset_at, fields_at}
use Rattle.fields.specs.Places.{stage_of, file_of, Sound, ReadAs, NamesReadAs}
use Rattle.fields.specs.declared.Place.{Place}
use Rattle.base.specs.Refusals.{number_of}
use Rattle.base.specs.declared.refusals.Refusal.{Refusal}
use Rattle.std.specs.Prelude.{Ok, Err}
use Rattle.model.proofs.NameLists.{NamesRead, accepted_names}
use Rattle.judging.proofs.OffsetLaws.{length_fields}

module _ (s : List ℕ) (p : Place) (sound : Sound s p) where
  pub length-names : length (file_of s p).names ≡ p.names
  length-names = length_fields s 0 p.names

  -- they lie within the input, as names::name_at requires
  pub names-inside : offset_at s 0 p.names ≤ length s
  names-inside = omega (arith, sound.names_within, sound.within)

-- the definition's answer, by the code's
pub accepted_number : (settings : Settings) (kind : FileKind) (s : List ℕ) (p : Place) → ReadAs settings kind s (Ok p)
    → (read_with settings kind s).number ≡ 0
accepted_number settings kind s p r = sym (ap (λ (x : Read). x.number) r.is)

pub accepted_file-is : (settings : Settings) (kind : FileKind) (s : List ℕ) (p : Place) → ReadAs settings kind s (Ok p)
    → (read_with settings kind s).file_is ≡ file_of s p
accepted_file-is settings kind s p r = sym (ap (λ (x : Read). x.file_is) r.is)

pub refused-number : (settings : Settings) (kind : FileKind) (s : List ℕ) (k : Refusal) → ReadAs settings kind s (Err k)
    → (read_with settings kind s).number ≡ number_of k
refused-number settings kind s k r = sym (ap (λ (x : Read). x.number) r.is)

-- an accepted list of names: its fields from the first byte on are its names, up to the end of the input; there are 1 to 64, and
-- they ascend
pub record ListAt (s : List ℕ) (p : Place) : Type 0 where
  pub accepted : (read_names s).number ≡ 0
  pub names_are : names_of s ≡ fields_at s 0 p.names
  pub stage_is : stage_of p.stage ≡ names_met
  pub at_end_fact : p.at ≡ length s
  pub names_end_fact : offset_at s 0 p.names ≡ length s
  pub some : 1 ≤ p.names
  pub few : p.names ≤ name_limit
  pub names_read : NamesRead (fields_at s 0 p.names)

pub list_at : (s : List ℕ) (p : Place) → NamesReadAs s (Ok p) → ListAt s p
list_at s p r =
    let number = accepted_number standard name_list s p r in
    let same = ap (λ (f : File). f.names) (accepted_file-is standard name_list s p r) in
    let read = subst NamesRead same (accepted_names s number) in
    let sound = r.kept.sound in
    record {
      accepted = number;
      names_are = same;
      stage_is = r.kept.met;
      at_end_fact = r.kept.at_end_fact;
      names_end_fact = sound.names_end_fact (omega (arith, r.kept.met)) ∙ r.kept.at_end_fact;
      some = omega (arith, read.some, length-names s p sound);
      few = sound.few_names;
      names_read = read;
    }
