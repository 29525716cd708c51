-- The kind of file and the stage that the code's stand for; the file that a place of the reader stands for; what holds of every place
-- that the reader reaches; and what the answers of the reader say: of one field judged, of one field read, and of a whole file.
-- Assumes nothing.
use Rattle.std.specs.Prelude.{◌≡◌, List, [], ℕ, suc, ◌+◌, ◌≤◌, ◌<◌, length, get_or, take, drop, Result, Ok, Err}
use Rattle.base.specs.Lists.{last_or}
use Rattle.base.specs.Limits.{name_limit, state_limit, name_due, names_met, class_met, items_met}
use Rattle.base.specs.Refusals.{number_of}
use Rattle.base.specs.declared.refusals.Refusal.{Refusal}
use Rattle.model.specs.Fields.{Settings, standard, File, file, FileKind, book, table, name_list, Read, refused, accepted_file}
use Rattle.model.specs.Fields.{last_stage, read_from, read_with, field_fault, with_field}
use Rattle.model.specs.Calls.{Refuses}
use Rattle.judging.specs.Classes.{class_in}
use Rattle.judging.specs.Offsets.{body_at, next_at, offset_at, fields_at}
use Rattle.fields.specs.declared.Settings as given
use Rattle.fields.specs.declared.FileKind as code
use Rattle.fields.specs.declared.FileKind.TheVariants as kind
use Rattle.fields.specs.declared.Stage.{Stage}
use Rattle.fields.specs.declared.Stage.TheVariants as stage
use Rattle.fields.specs.declared.Place.{Place}

-- the kind of file that the code's stands for
abbrev pub kind_of : code.FileKind → FileKind
kind_of kind.Book = book
kind_of kind.Table = table
kind_of kind.NameList = name_list

-- the stage that the code's stands for
abbrev pub stage_of : Stage → ℕ
stage_of stage.NameDue = name_due
stage_of stage.NamesMet = names_met
stage_of stage.ClassMet = class_met
stage_of stage.ItemsMet = items_met

-- the file that is read at a place: names from the file's first byte on, rows or states from the place's start on
abbrev pub file_of : List ℕ → Place → File
file_of s p = file (stage_of p.stage) (fields_at s 0 p.names) (class_in p.class) (fields_at s p.start p.items)

-- every offset lies within the input; the last name's bytes end where the names do; the names, before other fields come, and the
-- rows or states end where the next field begins
pub record Sound (s : List ℕ) (p : Place) : Type 0 where
  pub within : p.at ≤ length s
  pub few_names : p.names ≤ name_limit
  pub few_items : p.items ≤ state_limit
  pub names_within : offset_at s 0 p.names ≤ p.at
  pub names_end_fact : stage_of p.stage ≤ names_met → offset_at s 0 p.names ≡ p.at
  pub last_end : p.last + p.width ≡ offset_at s 0 p.names
  pub last_is : last_or [] (fields_at s 0 p.names) ≡ take p.width (drop p.last s)
  pub items_end : offset_at s p.start p.items ≡ p.at
  pub no_items : stage_of p.stage ≤ class_met → p.items ≡ 0
  pub some_items : items_met ≤ stage_of p.stage → 1 ≤ p.items

-- a sound place whose next field does not run past the end
pub record Whole (s : List ℕ) (p : Place) : Type 0 where
  pub sound : Sound s p
  pub fits : next_at s p.at ≤ length s

-- a field judged: nothing refuses it, and the new place stands for the file with that field; or this is its refusal
pub record Grown (s : List ℕ) (p : Place) (fault : ℕ) (grown : File) (q : Place) : Type 0 where
  pub no_fault : fault ≡ 0
  pub sound : Sound s q
  pub file_is : file_of s q ≡ grown
  pub after : q.at ≡ next_at s p.at

abbrev pub Stepped : List ℕ → Place → ℕ → File → Result Place Refusal → Type 0
Stepped s p fault grown (Ok q) = Grown s p fault grown q
Stepped s p fault grown (Err k) = Refuses fault (number_of k)

-- the field at a place, judged by these refusals as one of this mark
abbrev pub StepBy : (File → List ℕ → ℕ) → ℕ → List ℕ → Place → Result Place Refusal → Type 0
StepBy judge mark s p r =
    Stepped s p (judge (file_of s p) (body_at s p.at)) (with_field (file_of s p) mark (body_at s p.at)) r

-- the same, judged by the mark that it has
abbrev pub FieldStep : FileKind → List ℕ → Place → Result Place Refusal → Type 0
FieldStep kind s p r =
    let mark = get_or s p.at 0 in
    StepBy (λ (f : File). field_fault kind f mark) mark s p r

-- a field read: reading from the new place is what reading from the old one comes to; or it comes to this refusal
pub record Goes (kind : FileKind) (s : List ℕ) (p q : Place) : Type 0 where
  pub sound : Sound s q
  pub further : p.at < q.at
  pub reads : (l : ℕ) → read_from (suc l) kind (file_of s p) (drop p.at s) ≡ read_from l kind (file_of s q) (drop q.at s)

pub record RefusedAt (kind : FileKind) (s : List ℕ) (p : Place) (number : ℕ) : Type 0 where
  pub some : 0 < number
  pub reads : (l : ℕ) → read_from (suc l) kind (file_of s p) (drop p.at s) ≡ refused number

abbrev pub Turned : FileKind → List ℕ → Place → Result Place Refusal → Type 0
Turned kind s p (Ok q) = Goes kind s p q
Turned kind s p (Err k) = RefusedAt kind s p (number_of k)

-- what an answer stands for: the refusal's number, and the file
abbrev pub answer_of : List ℕ → Result Place Refusal → Read
answer_of s (Ok p) = accepted_file (file_of s p)
answer_of s (Err k) = refused (number_of k)

-- the place of an accepted file: every byte is read, and what a file of its kind must have was met
pub record Finished (kind : FileKind) (s : List ℕ) (p : Place) : Type 0 where
  pub sound : Sound s p
  pub at_end_fact : p.at ≡ length s
  pub met : stage_of p.stage ≡ last_stage kind

-- the place of an accepted file is finished, and a refusal is not 0
abbrev pub Kept : FileKind → List ℕ → Result Place Refusal → Type 0
Kept kind s (Ok p) = Finished kind s p
Kept kind s (Err k) = 0 < number_of k

-- the settings that the code's stand for
abbrev pub settings_of : given.Settings → Settings
settings_of s = record { default_class = class_in s.default_class }

-- a file read: the answer is what the definition gives with these settings
pub record ReadAs (settings : Settings) (kind : FileKind) (s : List ℕ) (answer : Result Place Refusal) : Type 0 where
  pub is : answer_of s answer ≡ read_with settings kind s
  pub kept : Kept kind s answer

-- a table read, which names its class itself, whatever the settings
abbrev pub TableReadAs : List ℕ → Result Place Refusal → Type 0
TableReadAs s answer = ReadAs standard table s answer

-- a list of names read, which has no class, whatever the settings
abbrev pub NamesReadAs : List ℕ → Result Place Refusal → Type 0
NamesReadAs s answer = ReadAs standard name_list s answer
