-- The states of a partition's automaton can be written as a table that is read back: the arcs of a state, how many states and
-- arcs there are, first-met numbers, then all together. Assumes nothing.
use mathlib.Core.Path.{◌≡◌, refl, sym, ap, ◌∙◌, subst}
use mathlib.Core.Bool.{true}
use mathlib.Core.List.{List, [], ◌∷◌, map, Memᴰ as In}
use Prim.Native.Nat.{ℕ, suc, ◌≤◌, ◌<◌}
use native.Mathlib.Omega.{arith}
use lib.ListN.{length, length-map}
use borrow.Author.Tests.{eq-eqb}
use Rattle.base.specs.Limits.{state_limit}
use Rattle.base.specs.Lists.{index_in}
use Rattle.model.specs.Classes.{Word}
use Rattle.model.specs.Tables.{Arc, arc, State, arc_count, met_by_states, is_first_met, Ascending}
use Rattle.model.specs.Joinings.{transition, transitions_of, group_at, Deterministic}
use Rattle.model.specs.Quotients.{arcs_out_of, met_groups, renumbered, state_of, states_of}
use Rattle.base.proofs.Lists.{map-in}
use Rattle.base.proofs.Places.{nth_of_index}
use Rattle.model.proofs.Notions.{Tree, Fits, ◌▸◌}
use Rattle.model.proofs.Transitions.{arc-node}
use Rattle.model.proofs.Arcs.{arcs_out_of-ascending, arcs_out_of-in}
use Rattle.model.proofs.FirstMet.{met-distinct, root_met, met-few, met-closed, states-length}
use Rattle.model.proofs.MetOrder.{met_by_states-follows}
use Rattle.model.proofs.ArcCount.{arcs_few}
use Rattle.model.proofs.Writable.{Writable}

-- renumbered arcs keep their names
renumbered-ascending : (next : ℕ) (met : List ℕ) (arcs : List Arc) → Ascending next arcs → Ascending next (renumbered met arcs)
unfolding renumbered
renumbered-ascending next met [] p = p
renumbered-ascending next met (a ∷ arcs) p = (p.0, renumbered-ascending (suc a.name) met arcs p.1)

-- an arc of a state is the automaton's, out of the group that the state stands for
record ArcOf (nodes : List Word) (groups : List ℕ) (a : Arc) : Type 0 where
  from : ℕ
  to : ℕ
  from_met : In from (met_groups nodes groups)
  goes : In (transition from a.name to) (transitions_of nodes groups)
  target : a.to ≡ index_in to (met_groups nodes groups)

-- a state is that of a group met
state-of :
    (rows nodes : List Word) (groups : List ℕ) (s : State) → In s (states_of rows nodes groups) →
    (g : ℕ) × In g (met_groups nodes groups) × (s ≡ state_of rows nodes groups (met_groups nodes groups) g)
unfolding states_of
state-of rows nodes groups s m = map-in (state_of rows nodes groups (met_groups nodes groups)) (met_groups nodes groups) m

-- each arc of a state is such an arc
arc-of :
    (rows nodes : List Word) (groups : List ℕ) (s : State) (a : Arc) → In s (states_of rows nodes groups) → In a s.arcs →
    ArcOf nodes groups a
unfolding state_of renumbered
arc-of rows nodes groups s a m n =
    let met = met_groups nodes groups in
    let ts = transitions_of nodes groups in
    let f = state-of rows nodes groups s m in
    let among : In a (map (λ (b : Arc). arc b.name (index_in b.to met)) (arcs_out_of f.0 ts)) =
    subst (λ (z : State). In a z.arcs) f.2 n in
    let g = map-in (λ (b : Arc). arc b.name (index_in b.to met)) (arcs_out_of f.0 ts) among in
    record {
      from = f.0;
      to = g.0.to;
      from_met = f.1;
      goes =
          subst (λ (x : ℕ). In (transition f.0 x g.0.to) ts) (sym (ap (λ (b : Arc). b.name) g.2))
          (arcs_out_of-in f.0 g.0.name g.0.to ts g.1);
      target = ap (λ (b : Arc). b.to) g.2;
    }

-- the arcs of a state ascend
states_ascending :
    (rows nodes : List Word) (groups : List ℕ) (s : State) → In s (states_of rows nodes groups) → Ascending 0 s.arcs
unfolding state_of
states_ascending rows nodes groups s m =
    let f = state-of rows nodes groups s m in
    subst (λ (z : State). Ascending 0 z.arcs) (sym f.2)
    (renumbered-ascending 0 (met_groups nodes groups) (arcs_out_of f.0 (transitions_of nodes groups))
    (arcs_out_of-ascending f.0 (transitions_of nodes groups)))

-- states are numbered first-met
states_first_met :
    (rows nodes : List Word) (groups : List ℕ) → Tree nodes → Fits nodes groups → is_first_met (states_of rows nodes groups) ≡ true
unfolding is_first_met states_of met_groups
states_first_met rows nodes groups tree fits =
    let met = met_groups nodes groups in
    let states = map (state_of rows nodes groups met) met in
    let few : length met ≤ length nodes = met-few nodes groups tree fits in
    let counted : met_by_states 0 1 states ≡ length met =
    met_by_states-follows rows nodes groups met (length nodes) 0 (group_at nodes groups [] ∷ []) refl (omega arith) in
    eq-eqb (met_by_states 0 1 states) (length states) (counted ∙ sym (length-map met (state_of rows nodes groups met)))

-- all states have at most as many arcs as the tree has nodes
states_arcs :
    (rows nodes : List Word) (groups : List ℕ) → Tree nodes → Fits nodes groups →
    arc_count (states_of rows nodes groups) ≤ length nodes
unfolding states_of
states_arcs rows nodes groups tree fits =
    arcs_few rows nodes groups (met_groups nodes groups) (met_groups nodes groups) (met-distinct nodes groups tree fits)

-- so they can be written, with names below n
pub states_writable :
    (rows nodes : List Word) (groups : List ℕ) (n : ℕ) → Tree nodes → Fits nodes groups →
    Deterministic (transitions_of nodes groups) → length nodes ≤ state_limit →
    ((w : Word) (a : ℕ) → In (w ▸ a) nodes → a < n) → Writable n (states_of rows nodes groups)
states_writable rows nodes groups n tree fits det few below =
    record {
      some_state = some;
      few_states = omega (arith, size, small);
      few_arcs = omega (arith, arcs-small);
      ascending = states_ascending rows nodes groups;
      names_below = names;
      targets_below = targets;
      first_met = states_first_met rows nodes groups tree fits;
    }
  where
    size : length (states_of rows nodes groups) ≡ length (met_groups nodes groups)
    size = states-length nodes groups tree fits rows

    small : length (met_groups nodes groups) ≤ length nodes
    small = met-few nodes groups tree fits

    arcs-small : arc_count (states_of rows nodes groups) ≤ length nodes
    arcs-small = states_arcs rows nodes groups tree fits

    some : 1 ≤ length (states_of rows nodes groups)
    some =
        let root = (nth_of_index (met_groups nodes groups) (group_at nodes groups []) (root_met nodes groups tree fits)).0 in
        omega (arith, size)

    names : (s : State) (a : Arc) → In s (states_of rows nodes groups) → In a s.arcs → a.name < n
    names s a m k =
        let r = arc-of rows nodes groups s a m k in
        let t = arc-node nodes groups tree r.from a.name r.to r.goes in
        below t.0 a.name t.2

    targets :
        (s : State) (a : Arc) → In s (states_of rows nodes groups) → In a s.arcs → a.to < length (states_of rows nodes groups)
    targets s a m k =
        let r = arc-of rows nodes groups s a m k in
        let there' : In r.to (met_groups nodes groups) =
        met-closed nodes groups tree fits det r.from a.name r.to r.from_met r.goes in
        let low : index_in r.to (met_groups nodes groups) < length (met_groups nodes groups) =
        (nth_of_index (met_groups nodes groups) r.to there').0 in
        let is : a.to ≡ index_in r.to (met_groups nodes groups) = r.target in
        omega (arith, size)
