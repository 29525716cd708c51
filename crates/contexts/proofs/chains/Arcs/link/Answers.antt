use mathlib.Core.Path.{◌≡◌, refl, sym, ap, ◌∙◌, subst}
use mathlib.Core.List.{List}
use Prim.Native.Nat.{ℕ, suc, ◌+◌, ◌^◌, ◌<◌}
use native.Mathlib.Omega.{arith}
use lib.Bits.{bit_or}
use lib.ListN.{length, get_or, set}
use Rattle.base.specs.Limits.{state_limit}
use Rattle.base.specs.Bits.{bit}
use Rattle.indexed.proofs.Suffixes.{parent_below}
use Rattle.contexts.specs.Sweeps.{Linked, ArcsLinked}
use Rattle.contexts.proofs.LinkLaws.{name_known, name_new, first_arc, linked_more}
use Rattle.contexts.proofs.NearLaws.{arcs-known, arcs-placed}
use Rattle.contexts.proofs.TreeLaws.{tree-arrays}
use Rattle.contexts.proofs.chains.Arcs.link.Goals as goal

pub returns-else-all-known : goal.returns-else-all-known
returns-else-all-known c =
    let next = c.args.self.now.next in
    let name = get_or c.args.by.now.view.tree.names.now c.args.v 0 in
    let from = c.class_above-from.result in
    let same : bit_or (get_or next from 0) (2 ^ name) ≡ get_or next from 0 = sym c.with_name-all.ensures ∙ c.if-all-known.false in
    arcs-known c.requires.so_far
    (subst (λ (x : ℕ). bit name (get_or next x 0) ≡ 1) c.class_above-from.ensures (name_known (get_or next from 0) name same))

pub returns-then-all-known : goal.returns-then-all-known
returns-then-all-known c =
    let v = c.args.v in
    let view = c.args.by.now.view in
    let parents = view.tree.parents.now in
    let names = view.tree.names.now in
    let old = view.old.now in
    let next = c.args.self.now.next in
    let name = get_or names v 0 in
    let from = c.class_above-from.result in
    let all = c.with_name-all.result in
    let arrays = tree-arrays view.size view.tree.arrays in
    let so_far = c.requires.so_far in
    let last = c.place.new.self in
    let next_size : length next ≡ state_limit = omega arith in
    let links_size : length c.args.self.now.links ≡ state_limit = omega arith in
    let heads_size : length c.args.self.now.heads ≡ state_limit = omega arith in
    let parent_low : get_or parents v 0 < length old = parent_below (length old) parents names arrays v c.requires.inside in
    let from_low : from < length old =
    omega (arith, c.class_above-from.ensures, view.labelled.low (get_or parents v 0) parent_low) in
    let new : bit name (get_or next (get_or old (get_or parents v 0) 0) 0) ≡ 1 → ⊥ =
    λ known. name_new (get_or next from 0) name (λ same. c.if-all-known.true (c.with_name-all.ensures ∙ same))
    (subst (λ (x : ℕ). bit name (get_or next x 0) ≡ 1) (sym c.class_above-from.ensures) known) in
    let linked : Linked (suc v) parents names old (set next from all) =
    linked_more c.requires.no_root so_far.linked from name c.class_above-from.ensures refl
    (omega (arith, from_low, arrays.few_states, next_size)) (ap (set next from) c.with_name-all.ensures) new in
    subst (λ (l : List ℕ). ArcsLinked (v + 1) view.j parents names c.args.by.now.classes.now old c.args.by.now.dist.now l
    last.links last.heads)
    (sym c.place.ensures.next)
    (arcs-placed so_far linked (omega (arith, c.requires.inside, arrays.few_states)) links_size heads_size
    c.requires.no_root (first_arc so_far.linked new) c.place.ensures.placed)
