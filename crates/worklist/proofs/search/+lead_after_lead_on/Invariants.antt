-- The lists of both groups are followed by ascending name. The measure of the cycle is twice the number of names still to come, and
-- one more for `lead_on`; that of the loop is what is left of both lists.
use Rattle.std.proofs.Common.{List, ℕ, suc, ◌+◌, ◌-◌, length}
use Rattle.indexed.specs.Trees.{Arrays}
use Rattle.partition.specs.Forests.{roots_of}
use Rattle.worklist.specs.Lists.{plus_one}
use Rattle.worklist.specs.Forks.{ForkLists}
use Rattle.worklist.proofs.ListLaws.{left}
use Rattle.worklist.proofs.SearchLaws.{Walking}
use Rattle.worklist.proofs.search.+lead_after_lead_on.Given as goal

abbrev pub decreases-lead_after : goal.decreases-lead_after
decreases-lead_after l = l.j + l.j

abbrev pub decreases-lead_on : goal.decreases-lead_on
decreases-lead_on l = suc (l.j + l.j)

abbrev pub invariant-lead_on-loop-first : goal.invariant-lead_on-loop-first
invariant-lead_on-loop-first l =
    (parents : List ℕ) → Arrays (length l.groups) parents l.names →
    (lists : ForkLists (length l.groups) parents l.names (roots_of l.groups) l.lists.links l.lists.heads) →
    Walking (length l.groups) parents l.names (roots_of l.groups) lists.rows (l.j - 1) l.x l.y (plus_one l.first) (plus_one l.second)

abbrev pub decreases-lead_on-loop-first : goal.decreases-lead_on-loop-first
decreases-lead_on-loop-first l = left l.names (plus_one l.first) + left l.names (plus_one l.second)
