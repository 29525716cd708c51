-- How a walk over an accepted table ends: the state reached; the set of next names, which has as many bits as there are arcs
-- to marked states; and the same with a start that has a way to an end, or none. Assumes nothing.
use mathlib.Core.Path.{◌≡◌, sym, ap, ◌∙◌}
use mathlib.Core.Bool.{Bool, true, false, not, cond}
use mathlib.Core.List.{List}
use Prim.Native.Nat.{ℕ, ◌<◌}
use native.Mathlib.Omega.{arith}
use borrow.Author.Tests.{eq-eqb, ne_eqb}
use lib.Dec.{ltb}
use lib.Count.{ones}
use lib.ListN.{length, get_or}
use lib.Seq.{length-take-le}
use Rattle.model.specs.Tables as model
use Rattle.model.specs.Tables.{State, empty_state, name_set, walk, reached_state, plain_walk}
use Rattle.model.specs.Calls.{table_states}
use Rattle.model.proofs.NameSets.{ones_name_set}
use Rattle.endings.specs.Live.{is_live, trimmed, nowhere, live_walk, Marked}
use Rattle.endings.proofs.Trimmed.{trimmed-accepts, trimmed-ascends}
use Rattle.tables.specs.Accepting.{Ready}
use Rattle.tables.specs.Walking.{WalkedAs}
use Rattle.tables.specs.declared.walks.Walk.{Walk}
use Rattle.tables.proofs.ReadyLaws.{ready_ascends}
use Rattle.tables.proofs.Marks.{length-trimmed, mark_is}
use Rattle.results.specs.Says.{walked_as, walked_told, walked_over}

module _ (s work row : List ℕ) (w : Walk) (ready : Ready s work) (walked : WalkedAs (trimmed (table_states s)) row w) where
  -- the state reached is one of the table's
  pub state-inside : w.state < length (table_states s)
  state-inside = omega (arith, walked.in_table, length-trimmed (table_states s))

  -- it is the state that the walk over the trimmed table reaches
  reached_is : get_or (trimmed (table_states s)) w.state empty_state ≡ reached_state (trimmed (table_states s)) row
  unfolding reached_state
  reached_is = ap (λ (v : model.Walk). get_or (trimmed (table_states s)) v.at_state empty_state) walked.is

  -- and accepts where that one does
  accepts_reached :
      (get_or (table_states s) w.state empty_state).accepts ≡ (reached_state (trimmed (table_states s)) row).accepts
  accepts_reached = sym (trimmed-accepts (table_states s) w.state) ∙ ap (λ (q : State). q.accepts) reached_is

  -- how many next names: the number of bits of their set
  bits_are : (q : ℕ) → ones (name_set (get_or (trimmed (table_states s)) q empty_state).arcs)
      ≡ length (get_or (trimmed (table_states s)) q empty_state).arcs
  bits_are q =
      ones_name_set 0 (get_or (trimmed (table_states s)) q empty_state).arcs (trimmed-ascends (table_states s) (ready_ascends s work ready) q)

  pub ends-over :
      (names result count taken : ℕ) (accepting : Bool) →
      names ≡ name_set (get_or (trimmed (table_states s)) w.state empty_state).arcs →
      accepting ≡ (get_or (table_states s) w.state empty_state).accepts →
      result ≡ cond (ltb w.taken (length row)) 3 (cond accepting 1 2) → count ≡ ones names → taken ≡ w.taken →
      walked_as 0 result taken names count ≡ walked_told (plain_walk (trimmed (table_states s)) row)
  unfolding plain_walk
  ends-over names result count taken accepting names_are accepts-is result_is count-is taken_is =
      let states = trimmed (table_states s) in
      let steps : w.taken ≡ (walk states row).taken = ap (λ (v : model.Walk). v.taken) walked.is in
      let ends : result ≡ (plain_walk states row).outcome =
      result_is
      ∙ ap (λ (b : Bool). cond (ltb w.taken (length row)) 3 (cond b 1 2)) (accepts-is ∙ accepts_reached)
      ∙ ap (λ (n : ℕ). cond (ltb n (length row)) 3 (cond (reached_state states row).accepts 1 2)) steps in
      let next : names ≡ (plain_walk states row).next_names = names_are ∙ ap (λ (q : State). name_set q.arcs) reached_is in
      let many : count ≡ (plain_walk states row).next_count =
      count-is ∙ ap ones names_are ∙ bits_are w.state ∙ ap (λ (q : State). length q.arcs) reached_is in
      let long : taken ≡ length (plain_walk states row).beginning =
      taken_is ∙ steps ∙ sym (length-take-le (walk states row).taken row (omega (arith, steps, walked.within))) in
      λ i. walked_as 0 (ends i) (long i) (next i) (many i)

-- ---- the start

-- what is told, by the start's mark
module _ (states : List State) (row marks : List ℕ) (some : 0 < length states) (marked : Marked states marks) where
  told-by : (b : Bool) → is_live states 0 ≡ b → live_walk states row ≡ cond b (plain_walk (trimmed states) row) nowhere
  unfolding live_walk
  told-by b e = ap (λ (z : Bool). cond z (plain_walk (trimmed states) row) nowhere) e

  -- a start that is not marked: no row is admitted
  pub start-dead : get_or marks 0 0 ≡ 0 → walked_told nowhere ≡ walked_over states row
  start-dead e =
      let dead : is_live states 0 ≡ false = sym (mark_is states marks marked 0 some) ∙ ap not (eq-eqb (get_or marks 0 0) 0 e) in
      ap walked_told (sym (told-by false dead))

  -- a marked start: the walk over the trimmed table
  pub start-live : (get_or marks 0 0 ≡ 0 → ⊥) → walked_told (plain_walk (trimmed states) row) ≡ walked_over states row
  start-live n =
      let live : is_live states 0 ≡ true = sym (mark_is states marks marked 0 some) ∙ ap not (ne_eqb (get_or marks 0 0) 0 n) in
      ap walked_told (sym (told-by true live))
