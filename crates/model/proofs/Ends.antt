-- The joining that defines the table comes to an end: it is a list of open steps, and it is full. First that an open step
-- leaves fewer groups, then that joining with enough steps ends in no open step, then the prefix tree's. Assumes nothing.
use mathlib.Core.Path.{◌≡◌, refl, sym, ap, ap₂, ◌∙◌, subst}
use mathlib.Core.Bool.{Bool, true, ◌&&◌}
use mathlib.Core.List.Memᴰ.{head as here}
use mathlib.Core.List.{List, [], ◌∷◌, flat_map, Memᴰ as In}
use Prim.Native.Nat.{ℕ, zero, suc, ◌≤◌, ◌<◌}
use native.Mathlib.Omega.{arith}
use lib.Dec.{eqb}
use lib.ListN.{length}
use Rattle.base.specs.Lists.{filter_by}
use Rattle.model.specs.Fields.{Class}
use Rattle.model.specs.Classes.{Word}
use Rattle.model.specs.Joinings.{tree_of, apart, merged, groups_in, Step, is_open, steps_between, open_steps, is_full}
use Rattle.model.specs.Joinings.{after_steps, all_open, is_full_joining, join_from, joined_groups}
use Rattle.base.proofs.Lists.{filter_by-in}
use Rattle.model.proofs.Groups.{apart_fits, groups_in-length, merged-fewer}
use Rattle.model.proofs.Rules.{tells_open}

module _ (c : Class) (rows nodes : List Word) where
  -- what is to be shown of joining from any groups: each step is open, they lead to the result, and that is full
  record Joins (groups result : List ℕ) : Type 0 where
    steps : List Step
    open-steps : all_open c rows nodes groups steps ≡ true
    leads : after_steps groups steps ≡ result
    full : is_full c rows nodes result ≡ true

  -- where no step is open the joining is full
  none_full : (groups : List ℕ) → open_steps c rows nodes groups ≡ [] → is_full c rows nodes groups ≡ true
  unfolding is_full
  none_full groups e = ap (λ (l : List Step). eqb (length l) 0) e

  -- without groups nothing is open
  nothing_open : (groups : List ℕ) → length (groups_in groups) ≤ 0 → open_steps c rows nodes groups ≡ []
  unfolding open_steps steps_between filter_by flat_map
  nothing_open groups few = go (groups_in groups) few
    where
      go : (gs : List ℕ) → length gs ≤ 0 → filter_by (is_open c rows nodes groups) (steps_between gs gs) ≡ []
      go [] h = refl
      go (g ∷ gs) h = let z : ⊥ = omega arith in absurd z

  -- no step more
  joins_none : (groups : List ℕ) → open_steps c rows nodes groups ≡ [] → Joins groups groups
  unfolding all_open after_steps
  joins_none groups e = record { steps = []; open-steps = refl; leads = refl; full = none_full groups e }

  -- one open step more
  joins_step :
      (groups : List ℕ) (s : Step) (result : List ℕ) → is_open c rows nodes groups s ≡ true →
      Joins (merged s.left s.right groups) result → Joins groups result
  unfolding all_open after_steps
  joins_step groups s result o j =
      record {
        steps = s ∷ j.steps;
        open-steps = ap₂ (λ (x y : Bool). x && y) o j.open-steps;
        leads = j.leads;
        full = j.full;
      }

  -- an open step leaves fewer groups
  open_fewer :
      (groups : List ℕ) (s : Step) → is_open c rows nodes groups s ≡ true →
      length (groups_in (merged s.left s.right groups)) < length (groups_in groups)
  open_fewer groups s o =
      let f = (tells_open c rows nodes groups s.left s.right).fact o in
      merged-fewer groups s.left s.right f.left_in f.right_in f.different

  -- the first of the open steps is open
  first_open :
      (groups : List ℕ) (s : Step) (rest : List Step) → open_steps c rows nodes groups ≡ s ∷ rest →
      is_open c rows nodes groups s ≡ true
  unfolding open_steps
  first_open groups s rest e =
      (filter_by-in (is_open c rows nodes groups) (steps_between (groups_in groups) (groups_in groups))
      (subst (λ (l : List Step). In s l) (sym e) (here refl))).1

  -- with as many steps as there are groups, joining comes to its end
  join_from_joins : (n : ℕ) (groups : List ℕ) → length (groups_in groups) ≤ n → Joins groups (join_from n c rows nodes groups)
  unfolding join_from
  join_from_joins zero groups enough = joins_none groups (nothing_open groups enough)
  join_from_joins (suc n) groups enough =
      go (open_steps c rows nodes groups) refl (λ gs few. join_from_joins n gs few)
    where
      go :
          (open-ones : List Step) → open_steps c rows nodes groups ≡ open-ones →
          ((gs : List ℕ) → length (groups_in gs) ≤ n → Joins gs (join_from n c rows nodes gs)) →
          Joins groups
          (elim open-ones [
            | [] ↦ groups
            | s ∷ steps ↦ join_from n c rows nodes (merged s.left s.right groups)
          ])
      go [] e again = joins_none groups e
      go (s ∷ rest) e again =
          let o = first_open groups s rest e in
          let after : List ℕ = merged s.left s.right groups in
          let fewer : length (groups_in after) < length (groups_in groups) = open_fewer groups s o in
          joins_step groups s (join_from n c rows nodes after) o (again after (omega arith))

-- the prefix tree has no more groups than states, so the steps suffice
joined_joins : (c : Class) (rows : List Word) → Joins c rows (tree_of rows) (apart (tree_of rows)) (joined_groups c rows)
unfolding joined_groups
joined_joins c rows =
    let few : length (groups_in (apart (tree_of rows))) ≤ length (apart (tree_of rows)) = groups_in-length (apart (tree_of rows)) in
    let size : length (apart (tree_of rows)) ≡ length (tree_of rows) = (apart_fits (tree_of rows)).lengths in
    join_from_joins c rows (tree_of rows) (length (tree_of rows)) (apart (tree_of rows)) (omega arith)

-- the groups that define the table come of a full joining
pub joined_is_full_joining :
    (c : Class) (rows : List Word) →
    (steps : List Step) × (is_full_joining c rows steps ≡ true) × (after_steps (apart (tree_of rows)) steps ≡ joined_groups c rows)
unfolding is_full_joining
joined_is_full_joining c rows =
    let j = joined_joins c rows in (
      j.steps,
      ap₂ (λ (x y : Bool). x && y) j.open-steps (ap (is_full c rows (tree_of rows)) j.leads ∙ j.full),
      j.leads,
    )
