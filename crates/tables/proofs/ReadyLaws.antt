-- Accepted tables, and areas ready for walks over them: the names of arcs ascend and every arc leads to a state; an area that
-- keeps the same offsets is ready too; and an accepted table has few arcs. Assumes nothing.
use mathlib.Core.Path.{◌≡◌, refl, sym, ap, ◌∙◌, subst}
use mathlib.Core.Bool.{Bool, true, false}
use mathlib.Core.List.{List, ◌++◌}
use Prim.Native.Nat.{ℕ, ◌*◌, ◌≤◌, ◌<◌}
use native.Mathlib.Omega.{arith}
use borrow.Author.Tests.{ltb-true, ltb-false}
use lib.Dec.{ltb}
use lib.ListN.{length, get_or, length-append, get_or-eq_default}
use Rattle.base.specs.Limits.{input_limit, state_limit}
use Rattle.model.specs.Tables.{Ascending, State, arc_count, empty_state, state_in, name_fields, class_field, state_fields, bytes_of_table}
use Rattle.model.specs.Calls.{table_of, table_states, table_fault, rewritten}
use Rattle.model.specs.Claims.{AllBytes}
use Rattle.model.proofs.CallLaws.{table_sizes}
use Rattle.model.proofs.Reached.{target_of_lem}
use Rattle.model.proofs.Reading.{rewrites_same}
use Rattle.model.proofs.TableBodies.{state-ascends}
use Rattle.model.proofs.WrittenLengths.{state-fields_length}
use Rattle.endings.specs.Live.{ArcsAscend}
use Rattle.judging.specs.Offsets.{body_at}
use Rattle.tables.specs.Arcs.{TargetsBelow}
use Rattle.tables.specs.KeptFields.{field_at}
use Rattle.tables.specs.Accepting.{StateField, StateAt, Ready}
use Rattle.tables.proofs.MetLaws.{target_in-table}

module _ (s work : List ℕ) (ready : Ready s work) where
  -- the names of its arcs ascend
  pub ready_ascends : ArcsAscend (table_states s)
  ready_ascends q = go (ltb q (length (table_states s))) refl
    where
      go : (b : Bool) → ltb q (length (table_states s)) ≡ b → Ascending 0 (get_or (table_states s) q empty_state).arcs
      go true e =
          let inside : q < length (table_states s) = ltb-true q (length (table_states s)) e in
          subst (λ (st : State). Ascending 0 st.arcs) (ready.means q inside)
          (state-ascends (body_at s (field_at work q)) (ready.field q inside).ok).0
      go false e =
          let past : length (table_states s) ≤ q = ltb-false q (length (table_states s)) e in
          subst (λ (st : State). Ascending 0 st.arcs) (sym (get_or-eq_default (table_states s) empty_state past)) tt

  -- what stands at a state's kept offset is its field
  pub state_at :
      (q : ℕ) {at : ℕ} {body : List ℕ} → q < length (table_states s) → at ≡ field_at work q → body ≡ body_at s at →
      StateAt (table_states s) q body
  state_at q {at} {body} h at_is body_is =
      subst (StateAt (table_states s) q) (sym (body_is ∙ ap (body_at s) at_is))
      (record { ok = (ready.field q h).ok; means = ready.means q h })

  -- every arc leads to a state
  pub targets_inside :
      (q : ℕ) → q < length (table_states s) → TargetsBelow (length (table_states s)) (get_or (table_states s) q empty_state).arcs
  targets_inside q h =
      record {
        below = λ a m.
            let arcs = (get_or (table_states s) q empty_state).arcs in
            omega (
              arith,
              target_of_lem 0 arcs a (ready_ascends q) m,
              target_in-table a.name (table_states s) ready.first_met q h,
            );
      }

  -- another area is ready where its length and the offsets it keeps are the same
  pub ready_same :
      {work' : List ℕ} → length work' ≡ length work →
      ((i : ℕ) → i < state_limit → field_at work' i ≡ field_at work i) →
      Ready s work'
  ready_same {work'} same_length same_fields =
      let same : (i : ℕ) → i < length (table_states s) → field_at work i ≡ field_at work' i =
      λ i h. let low : i < state_limit = omega (arith, ready.few_states) in sym (same_fields i low) in
      record {
        room = omega (arith, ready.room);
        some_state = ready.some_state;
        few_states = ready.few_states;
        first_met = ready.first_met;
        field = λ i h. subst (StateField s) (same i h) (ready.field i h);
        means = λ i h. ap (λ (a : ℕ). state_in (body_at s a)) (sym (same i h)) ∙ ready.means i h;
      }

-- an accepted table has few arcs: each is three of its bytes
pub few_arcs : (s work : List ℕ) → AllBytes s → table_fault s work ≡ 0 → 3 * arc_count (table_states s) ≤ input_limit
unfolding rewritten bytes_of_table
few_arcs s work bytes none =
    let names = name_fields (table_of s).names in
    let class = class_field (table_of s).class_is in
    let states = state_fields (table_states s) in
    omega (
      arith,
      ap length (rewrites_same s work bytes none),
      length-append names (class ++ states),
      length-append class states,
      state-fields_length (table_states s),
      (table_sizes s work none).input_fits,
    )
