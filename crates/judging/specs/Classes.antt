-- The class that the code's three bytes stand for, the class that a rule of the code means, and what judging the one by the other says.
-- Assumes nothing.
use Rattle.std.specs.Prelude.{◌≡◌, false, Result, Ok, Err}
use Rattle.base.specs.Limits.{context_kind, seen_set_kind, last_names_kind}
use Rattle.base.specs.declared.refusals.Refusal.{Refusal}
use Rattle.base.specs.declared.refusals.Refusal.TheVariants.{BadClass}
use Rattle.model.specs.Fields.{Class, class_of, settings_ok, ClassOk}
use Rattle.judging.specs.declared.classes.Class as bytes
use Rattle.judging.specs.declared.classes.Rule.{Rule}
use Rattle.judging.specs.declared.classes.Rule.TheVariants as rule

-- the class that the three bytes stand for
abbrev pub class_in : bytes.Class → Class
class_in c = class_of c.kind c.first c.second

-- the class that a rule means
abbrev pub meaning_of : Rule → Class
meaning_of (rule.Context k h) = class_of context_kind k h
meaning_of rule.SeenSet = class_of seen_set_kind 0 0
meaning_of (rule.LastNames j) = class_of last_names_kind j 0

-- a rule is found exactly where the settings go with the kind, and means the class; else the refusal is 8
abbrev pub Judged : bytes.Class → Result Rule Refusal → Type 0
Judged c (Ok r) = ClassOk (class_in c) × (meaning_of r ≡ class_in c)
Judged c (Err k) = (settings_ok c.kind c.first c.second ≡ false) × (k ≡ BadClass)
