use mathlib.Core.Path.{◌≡◌, refl, sym, ap, ◌∙◌, subst}
use mathlib.Core.Bool.{true, false, true≢false, false≢true}
use mathlib.Core.Logic.{◌⊎◌, inl, inr, ◌↔◌}
use mathlib.Core.List.{List}
use Prim.Native.Nat.{ℕ, suc, ◌-◌, ◌<◌}
use native.Mathlib.Omega.{arith}
use lib.ListN.{length, get_or}
use Rattle.base.specs.Limits.{state_limit}
use Rattle.indexed.specs.Trees.{Arrays}
use Rattle.indexed.specs.Partitions.{Share}
use Rattle.partition.specs.Forests.{Forest, roots_of}
use Rattle.partition.proofs.ForestLaws.{roots_labelled}
use Rattle.worklist.specs.Lists.{plus_one}
use Rattle.worklist.specs.Forks.{ForkLists}
use Rattle.worklist.proofs.SearchLaws.{share_groups, Walking, walking_on, walking-less, walking-found, walking-none}
use Rattle.worklist.proofs.search.+lead_after_lead_on.Goals as goal

-- a state's root is its own root
root-again :
    (groups : List ℕ) (v r : ℕ) → Forest (length groups) groups → v < length groups → r ≡ get_or (roots_of groups) v 0 →
    get_or (roots_of groups) r 0 ≡ r
root-again groups v r forest inside is =
    ap (λ (g : ℕ). get_or (roots_of groups) g 0) is ∙ (roots_labelled (length groups) groups forest).own v inside ∙ sym is

pub lead_after-lead_on-requires : goal.lead_after-lead_on-requires
lead_after-lead_on-requires t c =
    let groups = c.args.groups.now in
    let forest = c.requires.forest in (
      omega arith,
      (
        forest,
        (
          c.requires.lists,
          (
            root-again groups c.args.u c.root-x.result forest c.requires.u_inside c.root-x.ensures.value,
            (
              root-again groups c.args.w c.root-y.result forest c.requires.w_inside c.root-y.ensures.value,
              (c.root-x.ensures.inside, (c.root-y.ensures.inside, omega arith)),
            ),
          ),
        ),
      ),
    )

pub lead_after-returns : goal.lead_after-returns
lead_after-returns t c =
    let n = length c.args.groups.now in
    let names = c.args.names.now in
    let groups = c.args.groups.now in
    let roots = roots_of groups in
    let j = c.args.j - 1 in
    let u = c.args.u in
    let w = c.args.w in
    let x = c.root-x.result in
    let y = c.root-y.result in
    let x-same : get_or roots x 0 ≡ get_or roots u 0 =
    root-again groups u x c.requires.forest c.requires.u_inside c.root-x.ensures.value ∙ c.root-x.ensures.value in
    let y-same : get_or roots y 0 ≡ get_or roots w 0 =
    root-again groups w y c.requires.forest c.requires.w_inside c.root-y.ensures.value ∙ c.root-y.ensures.value in
    λ parents arrays lists. (
      λ e. record {
        alike = c.if-names-u.false;
        share = share_groups n parents names roots j x y u w x-same y-same ((c.lead_on.ensures parents arrays lists).0 e);
      },
      λ after.
          (c.lead_on.ensures parents arrays lists).1
          (share_groups n parents names roots j u w x y (sym x-same) (sym y-same) after.share),
    )

pub lead_on-lead_after-requires : goal.lead_on-lead_after-requires
lead_on-lead_after-requires t c =
    let at = c.requires.lists in
    let walking = c.loop-first.invariant at.0 at.1 at.2 in (
      omega arith,
      (
        c.requires.forest,
        (
          at,
          (
            walking.first.inside c.in-Some-Some.u (ap plus_one c.in-Some-Some.is-0),
            (walking.second.inside c.in-Some-Some.w (ap plus_one c.in-Some-Some.is-1), c.requires.some),
          ),
        ),
      ),
    )

pub lead_on-returns-then-lead_after : goal.lead_on-returns-then-lead_after
lead_on-returns-then-lead_after t c =
    let j = c.args.j in
    let few = c.requires.lists.1.few_states in
    let j-is : suc (j - 1) ≡ j = omega arith in
    λ parents arrays lists. (
      λ e. subst
          (λ (i : ℕ). Share (length c.args.groups.now) parents c.args.names.now (roots_of c.args.groups.now) i c.args.x c.args.y)
          j-is
          (walking-found lists (j - 1) (omega arith) (omega arith) arrays c.requires.x_root c.requires.y_root
          (c.loop-first.invariant parents arrays lists) c.in-Some-Some.u c.in-Some-Some.w (ap plus_one c.in-Some-Some.is-0)
          (ap plus_one c.in-Some-Some.is-1) ((c.lead_after.ensures parents arrays lists).0 c.if-lead_after.true)),
      λ share. refl,
    )

pub lead_on-bounds-names-w : goal.lead_on-bounds-names-w
lead_on-bounds-names-w t c =
    let at = c.requires.lists in
    omega (
      arith,
      (c.loop-first.invariant at.0 at.1 at.2).second.inside c.in-Some-Some.w (ap plus_one c.in-Some-Some.is-1),
      at.1.names_size,
    )

pub lead_on-past-first-requires-clause-inside : goal.lead_on-past-first-requires-clause-inside
lead_on-past-first-requires-clause-inside t c =
    let at = c.requires.lists in
    omega (
      arith,
      (c.loop-first.invariant at.0 at.1 at.2).first.inside c.in-Some-Some.u (ap plus_one c.in-Some-Some.is-0),
      at.1.names_size,
    )

pub lead_on-bounds-names-u : goal.lead_on-bounds-names-u
lead_on-bounds-names-u t c =
    let at = c.requires.lists in
    omega (
      arith,
      (c.loop-first.invariant at.0 at.1 at.2).first.inside c.in-Some-Some.u (ap plus_one c.in-Some-Some.is-0),
      at.1.names_size,
    )

pub lead_on-past-second-requires-clause-inside : goal.lead_on-past-second-requires-clause-inside
lead_on-past-second-requires-clause-inside t c =
    let at = c.requires.lists in
    omega (
      arith,
      (c.loop-first.invariant at.0 at.1 at.2).second.inside c.in-Some-Some.w (ap plus_one c.in-Some-Some.is-1),
      at.1.names_size,
    )

pub lead_on-loop-first-smaller : goal.lead_on-loop-first-smaller
lead_on-loop-first-smaller t c =
    let at = c.requires.lists in
    let few = at.1.few_states in
    walking-less at.2 (c.args.j - 1) (omega arith) (omega arith) (c.loop-first.invariant at.0 at.1 at.2)
    (ap plus_one c.in-Some-Some.is-0) (ap plus_one c.in-Some-Some.is-1) c.past-first.ensures c.past-second.ensures

pub lead_on-loop-first-preserved : goal.lead_on-loop-first-preserved
lead_on-loop-first-preserved t c =
    let few = c.requires.lists.1.few_states in
    λ parents arrays lists.
    walking_on lists (c.args.j - 1) (omega arith) (omega arith) (c.loop-first.invariant parents arrays lists)
    (ap plus_one c.in-Some-Some.is-0) (ap plus_one c.in-Some-Some.is-1) c.past-first.ensures c.past-second.ensures
    (λ after. true≢false (sym ((c.lead_after.ensures parents arrays lists).1 after) ∙ c.if-lead_after.false))

-- a list has ended: no more names can be walked in common
ended :
    {n : ℕ} {parents names groups links heads : List ℕ} (lists : ForkLists n parents names groups links heads) {j x y p q : ℕ} →
    0 < j → x < state_limit → y < state_limit → Arrays n parents names → get_or groups x 0 ≡ x → get_or groups y 0 ≡ y →
    Walking n parents names groups lists.rows (j - 1) x y p q → (p ≡ 0) ⊎ (q ≡ 0) →
    (false ≡ true) ↔ Share n parents names groups j x y
ended {n} {parents} {names} {groups} lists {j} {x} {y} some x-low y-low arrays x-root y-root walking end =
    let j-is : j ≡ suc (j - 1) = omega arith in (
      λ e. absurd (false≢true e),
      λ share. absurd
          (walking-none lists (j - 1) x-low y-low arrays x-root y-root walking end
          (subst (λ (i : ℕ). Share n parents names groups i x y) j-is share)),
    )

pub lead_on-returns-in_default : goal.lead_on-returns-in_default
lead_on-returns-in_default t c =
    let few = c.requires.lists.1.few_states in
    λ parents arrays lists.
    ended lists c.requires.some (omega arith) (omega arith) arrays c.requires.x_root c.requires.y_root
    (c.loop-first.invariant parents arrays lists) (inr (ap plus_one c.in_default.is-1))

pub lead_on-returns-in_default-2 : goal.lead_on-returns-in_default-2
lead_on-returns-in_default-2 t c =
    let few = c.requires.lists.1.few_states in
    λ parents arrays lists.
    ended lists c.requires.some (omega arith) (omega arith) arrays c.requires.x_root c.requires.y_root
    (c.loop-first.invariant parents arrays lists) (inl (ap plus_one c.in_default.is-0))
