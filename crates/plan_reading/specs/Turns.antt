-- Reading from tag to tag: what is looked for, what holds between two tags, and what a turn of the reader and a whole plan answer. Assumes
-- nothing.
use Rattle.std.specs.Prelude.{◌≡◌, List, [], ◌++◌, map, ℕ, ◌+◌, ◌*◌, ◌≤◌, ◌<◌, length, get_or, Result, Ok, Err}
use Rattle.base.specs.Limits.{input_limit, work_bytes}
use Rattle.base.specs.Refusals.{number_of}
use Rattle.base.specs.declared.refusals.Refusal.{Refusal}
use Rattle.base.specs.declared.refusals.Refusal.TheVariants as refusal
use Rattle.model.specs.Fields.{name_number}
use Rattle.judging.specs.Offsets.{fields_at}
use Rattle.written_plans.specs.Written.{Tag, tag}
use Rattle.written_plans.specs.Reading.{Place, named, tag_fault, Reading, with_tags, read_plan, Entry, entry_of}
use Rattle.written_plans.specs.Logs.{entries_at}
use Rattle.plan_reading.specs.Scanning.{part}
use Rattle.plan_reading.specs.Pieces.{open_at, open_name, open_names, place_of, reads, ReadsOn, Stops, Stacked}
use Rattle.plan_reading.specs.declared.sought.Sought.{Sought}
use Rattle.plan_reading.specs.declared.Fault.{Fault}
use Rattle.plan_reading.specs.declared.opens.Open.{Open}
use Rattle.plan_reading.specs.declared.opens.Stack.{Stack}
use Rattle.plan_reading.specs.declared.pieces.BadByte.{BadByte}
use Rattle.plan_reading.specs.declared.pieces.Reached.{Reached}

-- ---- what is looked for

-- the names of the list
abbrev pub sought_names : Sought → List (List ℕ)
sought_names sought = fields_at sought.names.list.now 0 sought.names.count

-- the chosen one
abbrev pub sought_name : Sought → List ℕ
sought_name sought = get_or (sought_names sought) sought.chosen []

-- how a tag is judged
abbrev pub judge_of : Sought → Tag → ℕ
judge_of sought = tag_fault (sought_names sought) (sought_name sought)

-- ---- between two tags

-- a plan, and an area that takes its log
pub record Room (s log : List ℕ) : Type 0 where
  pub short : length s ≤ input_limit
  pub long : work_bytes ≤ length log

-- beside each open element's name stands its number among these names
abbrev pub Numbered : List (List ℕ) → List ℕ → List Open → ℕ → Type 0
Numbered names s opens depth = (d : ℕ) → d < depth → (open_at opens d).number ≡ name_number names (open_name s opens d)

-- what holds between two tags
pub record Standing (names : List (List ℕ)) (s : List ℕ) (opens : List Open) (depth : ℕ) (r : Reached) : Type 0 where
  pub stacked : Stacked s opens depth r
  pub numbered : Numbered names s opens depth

-- what refuses a tag whose name has this number among those sought, as the open elements' numbers on the stack
pub record TagJudged (opens : List Open) (depth number : ℕ) (sought : Sought) (fault : ℕ) : Type 0 where
  pub is : (s name onward : List ℕ) → Numbered (sought_names sought) s opens depth → number ≡ name_number (sought_names sought) name
      → judge_of sought (tag (open_names s opens depth) name onward) ≡ fault

-- an element from the end of its name on: reading goes on between two tags; where it has a start tag, it is open there
pub record Begun (names : List (List ℕ)) (s : List ℕ) (stack' : Stack) (q : Place) (i : ℕ) (r t : Reached) : Type 0 where
  pub reads_on : ReadsOn s q i (place_of s stack'.opens stack'.depth t) t.at
  pub standing : Standing names s stack'.opens stack'.depth t
  pub further : i < t.at
  pub one_tag : t.tags ≡ r.tags + 1

-- the place after the name of this element
abbrev pub after_name_of : List ℕ → Stack → Open → Place
after_name_of s stack element = named (open_names s stack.opens stack.depth) (part s element.from element.end)

-- this element
abbrev pub ElementFrom : List (List ℕ) → List ℕ → Stack → Stack → Reached → Open → Result Reached BadByte → Type 0
ElementFrom names s stack stack' r element (Ok t) = Begun names s stack' (after_name_of s stack element) element.end r t
ElementFrom names s stack stack' r element (Err bad) = Stops s (after_name_of s stack element) element.end bad.at

-- the same for all names among which the open elements' numbers stand on the stack, and this one's is the number of its name
pub record ElementAs (s : List ℕ) (stack stack' : Stack) (r : Reached) (element : Open) (t : Result Reached BadByte) : Type 0 where
  pub is : (names : List (List ℕ)) → Standing names s stack.opens stack.depth r
      → element.number ≡ name_number names (part s element.from element.end) → ElementFrom names s stack stack' r element t

-- ---- one turn, and a whole plan

-- an entry of the log by its parts
abbrev pub entry : ℕ → ℕ → Entry
entry number depth = record { number = number; depth = depth }

-- what was reached before comes to what is reached after, with the tags met between, which are in the log
pub record ReadFurther (names : List (List ℕ)) (judge : Tag → ℕ) (s : List ℕ) (stack stack' : Stack) (log log' : List ℕ)
    (r t : Reached) : Type 0 where
  pub met_tags : List Tag
  pub reads_on : reads judge s (place_of s stack.opens stack.depth r) r.at
      ≡ with_tags met_tags (reads judge s (place_of s stack'.opens stack'.depth t) t.at)
  pub logged : entries_at log' 0 t.tags ≡ entries_at log 0 r.tags ++ map (entry_of names) met_tags
  pub standing : Standing names s stack'.opens stack'.depth t
  pub further : r.at < t.at
  pub same_room : length log' ≡ length log

-- reading comes to this refusal at this place
pub record RefusedAs (reading : Reading) (number place : ℕ) : Type 0 where
  pub number_is : reading.number ≡ number
  pub place_is : reading.place ≡ place
  pub some : 0 < number

-- a refusal that has no place in the plan, as a fault
abbrev pub placeless : Refusal → Fault
placeless k = record { refusal = k; at = 0 }

-- a byte that no plan can have, as a fault
abbrev pub bad_byte : BadByte → Fault
bad_byte bad = record { refusal = refusal.BadPlan; at = bad.at }

-- what a turn answers
abbrev pub TurnFrom :
    List (List ℕ) → (Tag → ℕ) → List ℕ → Stack → Stack → List ℕ → List ℕ → Reached → Result Reached Fault → Type 0
TurnFrom names judge s stack stack' log log' r (Ok t) = ReadFurther names judge s stack stack' log log' r t
TurnFrom names judge s stack stack' log log' r (Err f) =
    RefusedAs (reads judge s (place_of s stack.opens stack.depth r) r.at) (number_of f.refusal) f.at

-- a plan without a refusal: its tags are in the log, so many
pub record Logged (names : List (List ℕ)) (reading : Reading) (s log : List ℕ) (count : ℕ) : Type 0 where
  pub no_fault : reading.number ≡ 0
  pub logged : entries_at log 0 count ≡ map (entry_of names) reading.met_tags
  pub few : 3 * count ≤ length s

-- what reading a whole plan answers
abbrev pub PlanReadAs : List (List ℕ) → List ℕ → List ℕ → List ℕ → Result ℕ Fault → Type 0
PlanReadAs names chosen s log (Ok count) = Logged names (read_plan names chosen s) s log count
PlanReadAs names chosen s log (Err f) = RefusedAs (read_plan names chosen s) (number_of f.refusal) f.at
