-- States that rise: the search for an arc to a state of a higher number, arc by arc; and that where every state of a table rises, every
-- state leads to an end. Assumes nothing.
use mathlib.Core.Path.{◌≡◌, sym, ap, ◌∙◌}
use mathlib.Core.Logic.{◌⊎◌, inl, inr}
use mathlib.Core.Bool.{Bool, true, false, ◌||◌}
use mathlib.Core.List.{List, [], ◌∷◌, Memᴰ as In}
use Prim.Native.Nat.{ℕ, ◌≤◌, ◌<◌}
use borrow.Author.Tests.{lt-ltb, le-ltb, eq-eqb, ne_eqb}
use lib.Dec.{ltb}
use lib.ListN.{length, get_or}
use Rattle.base.specs.Lists.{any}
use Rattle.base.proofs.Tests.{Tells, tells_or, tells_any, tells_ltb, tells_itself}
use Rattle.model.specs.Tables.{Arc, State, empty_state, state_in}
use Rattle.model.specs.Calls.{table_states}
use Rattle.tables.specs.Arcs.{StateOk}
use Rattle.tables.specs.Accepting.{Ready}
use Rattle.tables.proofs.ArcReads.{state-accepts}
use Rattle.tables.proofs.ReadyLaws.{ready_ascends, targets_inside}
use Rattle.endings.specs.Live.{ArcsAscend, is_live}
use Rattle.endings.proofs.Levels.{tells_live}
use Rattle.endings.proofs.Rising.{all_live}
use Rattle.levels.specs.Found.{rises}

-- an arc leads to a state of a higher number than q
abbrev pub up : ℕ → Arc → Bool
up q a = ltb q a.to

module _ {all more : List Arc} {a : Arc} (q : ℕ) (turn : all ≡ a ∷ more) where
  -- the next arc leads higher
  pub up-found : q < a.to → any (up q) all ≡ true
  unfolding any
  up-found l = ap (any (up q)) turn ∙ rw (lt-ltb q a.to l)

  -- or those after it decide
  pub up-goes : a.to ≤ q → any (up q) all ≡ any (up q) more
  unfolding any
  up-goes l = ap (any (up q)) turn ∙ rw (le-ltb q a.to l)

pub up-end : {all : List Arc} (q : ℕ) → all ≡ [] → any (up q) all ≡ false
unfolding any
up-end q e = ap (any (up q)) e

module _ (s : List ℕ) (q : ℕ) (ok : StateOk s) where
  -- a state that accepts rises
  pub rises-accepting : get_or s 0 0 ≡ 1 → rises q (state_in s) ≡ true
  unfolding rises
  rises-accepting e = rw (sym (state-accepts s ok), eq-eqb (get_or s 0 0) 1 e)

  -- of one that does not, its arcs decide
  pub rises-by_arcs : (get_or s 0 0 ≡ 1 → ⊥) → any (up q) (state_in s).arcs ≡ rises q (state_in s)
  unfolding rises
  rises-by_arcs n = rw (sym (state-accepts s ok), ne_eqb (get_or s 0 0) 1 n)

-- where every state of an accepted table rises, every state leads to an end
pub all-rising :
    (s work : List ℕ) → Ready s work →
    ((p : ℕ) → p < length (table_states s) → rises p (get_or (table_states s) p empty_state) ≡ true) →
    (q : ℕ) → q < length (table_states s) → is_live (table_states s) q ≡ true
unfolding rises
all-rising s work ready rise q h =
    (tells_live states ascend q).test (all_live states ascend (λ p low. go p low ((told p).fact (rise p low))) q h)
  where
    states : List State
    states = table_states s

    ascend : ArcsAscend states
    ascend = ready_ascends s work ready

    told :
        (p : ℕ) → Tells ((get_or states p empty_state).accepts || any (up p) (get_or states p empty_state).arcs)
        (((get_or states p empty_state).accepts ≡ true) ⊎ ((a : Arc) × In a (get_or states p empty_state).arcs × (p < a.to)))
    told p =
        tells_or (tells_itself (get_or states p empty_state).accepts)
        (tells_any (λ (a : Arc). tells_ltb p a.to) (get_or states p empty_state).arcs)

    go :
        (p : ℕ) → p < length states →
        ((get_or states p empty_state).accepts ≡ true) ⊎ ((a : Arc) × In a (get_or states p empty_state).arcs × (p < a.to)) →
        ((get_or states p empty_state).accepts ≡ true)
        ⊎ ((a : Arc) × In a (get_or states p empty_state).arcs × (p < a.to) × (a.to < length states))
    go p low (inl accepts) = inl accepts
    go p low (inr found) =
        inr (found.0, found.1, found.2, (targets_inside s work ready p low).below found.0 found.1)
