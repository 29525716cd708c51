-- How many arcs leave different groups: together at most as many as the automaton has, and those at most as many as the tree has
-- nodes. Assumes nothing.
use mathlib.Core.Path.{◌≡◌, refl, sym, ap₂}
use mathlib.Core.Bool.{Bool, true, false, cond}
use mathlib.Core.List.Memᴰ
use mathlib.Core.List.Memᴰ.{head as here}
use mathlib.Core.List.Memᴰ.{tail as there}
use mathlib.Core.List.{List, [], ◌∷◌, map, Memᴰ as In}
use Prim.Native.Nat.{ℕ, suc, ◌+◌, ◌≤◌}
use native.Mathlib.Omega.{arith}
use lib.Dec.{eqb, ltb}
use lib.ListN.{length, length-map}
use borrow.Author.Tests.{eqb-true, ne_eqb}
use Rattle.model.specs.Classes.{Word}
use Rattle.base.specs.Lists.{index_in, Distinct, total}
use Rattle.model.specs.Tables.{Arc, arc, arc_count}
use Rattle.model.specs.Joinings.{Transition, transitions_into, transitions_of}
use Rattle.model.specs.Quotients.{put_arc, arcs_out_of, renumbered, state_of}

-- the arcs out of these groups
out_count_lem : List Transition → List ℕ → ℕ
out_count_lem ts [] = 0
out_count_lem ts (g ∷ gs) = length (arcs_out_of g ts) + out_count_lem ts gs

-- an arc put among others makes at most one more
put_arc-length : (n to : ℕ) (arcs : List Arc) → length (put_arc n to arcs) ≤ suc (length arcs)
unfolding put_arc
put_arc-length n to [] = omega arith
put_arc-length n to (a ∷ arcs) = go (eqb n a.name) (ltb n a.name) (put_arc-length n to arcs)
  where
    go :
        (b c : Bool) → length (put_arc n to arcs) ≤ suc (length arcs) →
        length {A = Arc} (elim b as (λ x. List Arc) [
          | true ↦ a ∷ arcs
          | false ↦ elim c as (λ x. List Arc) [ true ↦ arc n to ∷ (a ∷ arcs) | false ↦ a ∷ put_arc n to arcs ]
        ]) ≤ suc (suc (length arcs))
    go true c h = omega arith
    go false true h = omega arith
    go false false h = omega arith

out_count_none : (gs : List ℕ) → out_count_lem [] gs ≡ 0
unfolding out_count_lem arcs_out_of
out_count_none [] = refl
out_count_none (g ∷ gs) = let rest : out_count_lem [] gs ≡ 0 = out_count_none gs in omega arith

-- a transition out of none of the groups is not counted
out_count_other :
    (t : Transition) (ts : List Transition) (gs : List ℕ) → (In t.from gs → ⊥) →
    out_count_lem (t ∷ ts) gs ≡ out_count_lem ts gs
unfolding out_count_lem arcs_out_of
out_count_other t ts [] out = refl
out_count_other t ts (g ∷ gs) out =
    ap₂ (λ (x y : ℕ). x + y) (rw (ne_eqb t.from g (λ e. out (here e)))) (out_count_other t ts gs (λ m. out (there m)))

-- and out of one of them it is counted once
out_count_more : (t : Transition) (ts : List Transition) (gs : List ℕ) → Distinct gs → out_count_lem (t ∷ ts) gs ≤ suc (out_count_lem ts gs)
unfolding out_count_lem arcs_out_of
out_count_more t ts [] d = omega arith
out_count_more t ts (g ∷ gs) d = go (eqb t.from g) refl (out_count_more t ts gs d.1)
  where
    go :
        (b : Bool) → eqb t.from g ≡ b → out_count_lem (t ∷ ts) gs ≤ suc (out_count_lem ts gs) →
        length (cond b (put_arc t.name t.to (arcs_out_of g ts)) (arcs_out_of g ts)) + out_count_lem (t ∷ ts) gs
        ≤ suc (length (arcs_out_of g ts) + out_count_lem ts gs)
    go true e h =
        let put : length (put_arc t.name t.to (arcs_out_of g ts)) ≤ suc (length (arcs_out_of g ts)) =
        put_arc-length t.name t.to (arcs_out_of g ts) in
        let others : out_count_lem (t ∷ ts) gs ≡ out_count_lem ts gs =
        out_count_other t ts gs (λ m. d.0 (Memᴰ.cast (sym (eqb-true t.from g e)) m)) in
        omega arith
    go false e h = omega arith

-- so different groups have together no more arcs than there are transitions
out_count_few : (ts : List Transition) (gs : List ℕ) → Distinct gs → out_count_lem ts gs ≤ length ts
out_count_few [] gs d = let none : out_count_lem [] gs ≡ 0 = out_count_none gs in omega arith
out_count_few (t ∷ ts) gs d =
    let rest : out_count_lem ts gs ≤ length ts = out_count_few ts gs d in
    let more : out_count_lem (t ∷ ts) gs ≤ suc (out_count_lem ts gs) = out_count_more t ts gs d in
    omega arith

-- of which each node has at most one
transitions_few : (nodes : List Word) (groups : List ℕ) (ws : List Word) → length (transitions_into nodes groups ws) ≤ length ws
unfolding transitions_into
transitions_few nodes groups [] = omega arith
transitions_few nodes groups ([] ∷ ws) =
    let rest : length (transitions_into nodes groups ws) ≤ length ws = transitions_few nodes groups ws in
    omega arith
transitions_few nodes groups ((x ∷ w) ∷ ws) =
    let rest : length (transitions_into nodes groups ws) ≤ length ws = transitions_few nodes groups ws in
    omega arith

-- the arcs of the states are the arcs out of their groups
arc_count-states :
    (rows nodes : List Word) (groups met gs : List ℕ) →
    arc_count (map (state_of rows nodes groups met) gs) ≡ out_count_lem (transitions_of nodes groups) gs
unfolding arc_count total out_count_lem state_of renumbered
arc_count-states rows nodes groups met [] = refl
arc_count-states rows nodes groups met (g ∷ gs) =
    ap₂ (λ (x y : ℕ). x + y)
    (length-map (arcs_out_of g (transitions_of nodes groups)) (λ (a : Arc). arc a.name (index_in a.to met)))
    (arc_count-states rows nodes groups met gs)

-- the states of different groups have at most as many arcs as the tree has nodes
pub arcs_few :
    (rows nodes : List Word) (groups met gs : List ℕ) → Distinct gs →
    arc_count (map (state_of rows nodes groups met) gs) ≤ length nodes
unfolding transitions_of
arcs_few rows nodes groups met gs d =
    let counted : arc_count (map (state_of rows nodes groups met) gs) ≡ out_count_lem (transitions_into nodes groups nodes) gs =
    arc_count-states rows nodes groups met gs in
    let out : out_count_lem (transitions_into nodes groups nodes) gs ≤ length (transitions_into nodes groups nodes) =
    out_count_few (transitions_into nodes groups nodes) gs d in
    let few : length (transitions_into nodes groups nodes) ≤ length nodes = transitions_few nodes groups nodes in
    omega arith
