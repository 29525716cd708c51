-- Joining until closed by the structs that are handed on: the rules, and the lists of all kinds with the queue. Assumes nothing.
use Rattle.std.specs.Prelude.{◌≡◌, List, ℕ, option_copied}
use Rattle.worklist.specs.declared.kinds.Rules.{Rules}
use Rattle.worklist.specs.declared.kinds.Kinds.{Kinds}
use Rattle.worklist.specs.Keys.{given_keys}
use Rattle.worklist.specs.Settling.{RoundReady, NoLists, FilledAll, ListedAll, MergedAll, Settling, SettledAll}

-- n states, with what they are to be closed under
abbrev pub ReadyBy : ℕ → Rules → List ℕ → Type 0
ReadyBy n rules groups =
    RoundReady n rules.parents.now rules.names.now rules.numbers.now rules.keys.now
    (given_keys n (option_copied rules.more)) groups

-- no arc in any list, and no pair in the queue
pub record NoArcs (kinds : Kinds) : Type 0 where
  pub forks : NoLists kinds.forks.links kinds.forks.heads
  pub backs : NoLists kinds.backs.links kinds.backs.heads
  pub others : NoLists kinds.others.links kinds.others.heads
  pub pairs : kinds.queue.tail ≡ 0

-- all arcs put into their lists
abbrev pub FilledBy : ℕ → Rules → List ℕ → Kinds → Kinds → Type 0
FilledBy n rules groups kinds kinds' =
    FilledAll n rules.parents.now rules.names.now rules.numbers.now rules.keys.now
    (given_keys n (option_copied rules.more)) groups kinds'.forks.links kinds'.forks.heads kinds'.backs.links kinds'.backs.heads
    kinds'.others.links kinds'.others.heads kinds.queue.firsts kinds.queue.seconds kinds'.queue.firsts kinds'.queue.seconds
    kinds.queue.tail kinds'.queue.tail

-- three kinds of lists, and room in the queue for a pair for each arc that is in one
abbrev pub ListedBy : ℕ → Rules → List ℕ → List ℕ → List ℕ → Kinds → Type 0
ListedBy n rules fork_rows back_rows more_rows kinds =
    ListedAll n rules.names.now rules.keys.now (given_keys n (option_copied rules.more)) fork_rows back_rows more_rows
    kinds.forks.links kinds.forks.heads kinds.backs.links kinds.backs.heads kinds.others.links kinds.others.heads
    kinds.queue.tail

-- the lists of two groups merged
abbrev pub MergedBy : ℕ → Rules → List ℕ → List ℕ → List ℕ → ℕ → ℕ → Kinds → Kinds → Type 0
MergedBy n rules fork_rows back_rows more_rows to from kinds kinds' =
    MergedAll n rules.parents.now rules.names.now rules.numbers.now rules.keys.now
    (given_keys n (option_copied rules.more)) fork_rows back_rows more_rows to from kinds'.forks.links kinds'.forks.heads
    kinds'.backs.links kinds'.backs.heads kinds'.others.links kinds'.others.heads kinds.queue.firsts kinds.queue.seconds
    kinds'.queue.firsts kinds'.queue.seconds kinds.queue.tail kinds'.queue.tail

-- what holds while the pairs from `done` on are still to be joined
abbrev pub SettlingBy : ℕ → Rules → List ℕ → List ℕ → Kinds → ℕ → Type 0
SettlingBy n rules start groups kinds done =
    Settling n rules.parents.now rules.names.now rules.numbers.now rules.keys.now
    (given_keys n (option_copied rules.more)) start groups kinds.forks.links kinds.forks.heads kinds.backs.links
    kinds.backs.heads kinds.others.links kinds.others.heads kinds.queue.firsts kinds.queue.seconds done kinds.queue.tail

-- all pairs joined
abbrev pub SettledBy : ℕ → Rules → List ℕ → List ℕ → Type 0
SettledBy n rules above above' =
    SettledAll n rules.parents.now rules.names.now rules.numbers.now rules.keys.now
    (given_keys n (option_copied rules.more)) above above'
