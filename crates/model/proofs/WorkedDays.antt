-- The worked days hold: what the days, notes and listing of docs/SCOPE.md say is so of the definitions. In order: the
-- tests that compute, all in one lemma, whose line `unfolding` names every definition that computes; the default class, told by
-- Q3's states; and the theorem. Assumes nothing.
use mathlib.Core.Path.{◌≡◌, refl, sym, ap, ap₂, ◌∙◌, subst}
use mathlib.Core.Logic.{⊎_elim}
use mathlib.Core.Bool.{Bool, true, ◌&&◌, not}
use mathlib.Core.List.Memᴰ
use mathlib.Core.List.{List, [], ◌∷◌, map, flat_map, Memᴰ as In}
use Prim.Native.Nat.{ℕ, suc, ◌-◌, ◌≤◌}
use native.Mathlib.Omega.{arith}
use lib.Dec.{eqb, leb}
use lib.ListN.{length}
use Rattle.base.specs.Limits.{setting_limit}
use Rattle.base.specs.Lists.{any, any_two, all, filter_by, numbers_from, is_in, index_in, same, has_row, before, last_or}
use Rattle.model.specs.Fields.{Class, class_of, ClassOk, standard, settings_ok}
use Rattle.model.specs.Fields.{name_ok, all_below, above, name_fault, class_fault, row_fault, state_fault, state_ok, arcs_ok}
use Rattle.model.specs.Fields.{field_fault, with_field, read_from, read_with}
use Rattle.model.specs.Tables.{State}
use Rattle.model.specs.Tables.{field_bytes, name_fields, class_field, arc_bytes, state_body, state_fields, bytes_of_table, arcs_in}
use Rattle.model.specs.Tables.{state_in, states_in, met_by_arcs, met_by_states, is_first_met, target_in, walk_from, walk}
use Rattle.model.specs.Tables.{reached_state, admits, name_set, plain_walk}
use Rattle.model.specs.Classes.{put_name, seen_set, last_names, f_of}
use Rattle.model.specs.Joinings.{beginnings, with_states, with_rows, tree_of, apart, group_at, groups_in, merged_to, merged}
use Rattle.model.specs.Joinings.{member_of, group_accepts, transitions_into, transitions_of, forks, routes_from}
use Rattle.model.specs.Joinings.{after_same_arc, by_context, into_one, f_of_group, by_f, by_rule, is_open, steps_between}
use Rattle.model.specs.Joinings.{open_steps, is_full, after_steps, all_open, is_full_joining, join_from, joined_groups}
use Rattle.model.specs.Quotients.{put_arc, arcs_out_of, met_with, met_from, met_groups, renumbered, state_of, states_of, book_states}
use Rattle.model.specs.Quotients.{book_table, table_after}
use Rattle.model.specs.Calls.{book_of, book_fault, joins_of, different_rows, distinct_of, table_of, table_states}
use Rattle.model.specs.Claims.{all_among}
use Rattle.model.specs.Listing.{digits, arc_text, state_line, state_lines, first_line, listing, refusal_text, listing_fault, listing_of}
use Rattle.model.specs.WorkedDays.{same_rows, rows_of_length, short_rows, accepting_in, remark_holds, is_file, day_holds}
use Rattle.model.specs.WorkedDays.{example_holds, days_hold, Day, p2, q3, finite_days, TellsDefault, DaysClaimed}
use Rattle.base.proofs.Tests.{Tells, decided, tells_itself, tells_eqb, tells_leb, tells_and, tells_or, tells_not}
use Rattle.base.proofs.Tests.{tells_same, tells_all}
use Rattle.base.proofs.Lists.{in_flat_map, in_filter_by}
use Rattle.base.proofs.Places.{in_numbers_from}
use Rattle.model.proofs.Walkable.{walkable, walkable_to, only_these, admits-only}

-- ---- what computes

-- no row of five names can be walked over the day's states, and those of at most four that they admit are the ones written down
is_exact : Day → Bool
is_exact day = only_these (book_states (book_of standard day.book_bytes)) 4 day.admitted_rows

-- the states of Q3's book where this class is the default
states_by : Class → List State
states_by c = book_states (book_of (record { default_class = c }) q3.book_bytes)

-- every kind with every two settings of at most 8 of which the second is at most the first
candidates : List Class
candidates =
    flat_map (λ (kind : ℕ).
    flat_map (λ (x : ℕ). map (class_of kind x) (numbers_from (suc x) 0)) (numbers_from (suc setting_limit) 0)) (numbers_from 3 0)

-- a class field may hold the class, it is no context of more than three names, and Q3's states by it are those by default
gives_states : Class → Bool
gives_states c =
    (settings_ok c.kind c.first c.second && not (eqb c.kind 0 && leb 4 c.first))
    && same (state_fields (states_by c)) (state_fields (states_by standard.default_class))

-- what computes
record Computed : Type 0 where
  -- all days, all remarks and the listing
  days : days_hold ≡ true
  -- the rows admitted on the finite days
  finite : all is_exact finite_days ≡ true
  -- the bytes of P2's table
  p2_bytes : book_table (book_of standard p2.book_bytes) ≡ p2.table_is
  -- the default class alone gives Q3's states, contexts of more than three names left out
  classes : filter_by gives_states candidates ≡ standard.default_class ∷ []
  default_states : length (states_by standard.default_class) ≡ 4
  -- contexts of more than three names join nothing, since Q3's rows have at most three, and leave all six tree states
  long_contexts : (m h : ℕ) → length (states_by (class_of 0 (suc (suc (suc (suc m)))) h)) ≡ 6

computed : Computed
unfolding flat_map walkable walkable_to only_these all_among is_exact states_by candidates gives_states
    any any_two all filter_by numbers_from is_in index_in same has_row before last_or
    name_ok all_below above name_fault class_fault row_fault state_fault state_ok arcs_ok field_fault with_field read_from read_with
    field_bytes name_fields class_field arc_bytes state_body state_fields bytes_of_table arcs_in state_in states_in met_by_arcs
    met_by_states is_first_met target_in walk_from walk reached_state admits name_set plain_walk
    put_name seen_set last_names f_of
    beginnings with_states with_rows tree_of apart group_at groups_in merged_to merged member_of group_accepts transitions_into
    transitions_of forks routes_from after_same_arc by_context into_one f_of_group by_f by_rule is_open steps_between open_steps
    is_full after_steps all_open is_full_joining join_from joined_groups
    put_arc arcs_out_of met_with met_from met_groups renumbered state_of states_of book_states book_table table_after
    book_of book_fault joins_of different_rows distinct_of table_of table_states
    digits arc_text state_line state_lines first_line listing refusal_text listing_fault listing_of
    same_rows rows_of_length short_rows accepting_in remark_holds is_file day_holds example_holds days_hold
computed = record { days = refl; finite = refl; p2_bytes = refl; classes = refl; default_states = refl; long_contexts = λ m h. refl }

-- P2's table, by its bytes
pub p2-table_is : book_table (book_of standard p2.book_bytes) ≡ p2.table_is
p2-table_is = computed.p2_bytes

-- ---- the default class

-- a class that a class field may hold is among those candidates
in_candidates : (c : Class) → ClassOk c → In c candidates
unfolding candidates
in_candidates c ok = go c.kind c.first c.second ok
  where
    among : (kind x y : ℕ) → kind ≤ 2 → x ≤ setting_limit → y ≤ x → In (class_of kind x y) candidates
    among kind x y low short within =
        in_flat_map (λ (n : ℕ).
        flat_map (λ (i : ℕ). map (class_of n i) (numbers_from (suc i) 0)) (numbers_from (suc setting_limit) 0)) (numbers_from 3 0)
        (in_numbers_from 3 0 kind (omega arith) (omega arith))
        (in_flat_map (λ (i : ℕ). map (class_of kind i) (numbers_from (suc i) 0)) (numbers_from (suc setting_limit) 0)
        (in_numbers_from (suc setting_limit) 0 x (omega arith) (omega arith))
        (Memᴰ.map (class_of kind x) (in_numbers_from (suc x) 0 y (omega arith) (omega arith))))

    go : (kind x y : ℕ) → settings_ok kind x y ≡ true → In (class_of kind x y) candidates
    go kind x y e =
        ⊎_elim
        (λ f. among kind x y (omega (arith, f.0)) (omega (arith, f.1.0.1)) (omega (arith, f.1.1.1)))
        (λ more. ⊎_elim
        (λ f. among kind x y (omega (arith, f.0)) (omega (arith, f.1.0)) (omega (arith, f.1.1)))
        (λ f. among kind x y (omega (arith, f.0)) (omega (arith, f.1.0)) (omega (arith, f.1.1)))
        more)
        ((tells_or
        (tells_and (tells_eqb kind 0)
        (tells_and (tells_and (tells_leb 1 x) (tells_leb x setting_limit)) (tells_and (tells_leb 1 y) (tells_leb y x))))
        (tells_or
        (tells_and (tells_eqb kind 1) (tells_and (tells_eqb x 0) (tells_eqb y 0)))
        (tells_and (tells_eqb kind 2) (tells_and (tells_leb x setting_limit) (tells_eqb y 0))))).fact e)

-- a context of more than three names does not give Q3's states
no_long_context : (c : Class) → c.kind ≡ 0 → 4 ≤ c.first → states_by c ≡ states_by standard.default_class → ⊥
no_long_context c context long e =
    let more : suc (suc (suc (suc (c.first - 4)))) ≡ c.first = omega arith in
    let c-is : class_of 0 (suc (suc (suc (suc (c.first - 4))))) c.second ≡ c =
    ap₂ (λ (kind x : ℕ). class_of kind x c.second) (sym context) more in
    let six : length (states_by c) ≡ 6 =
    subst (λ (d : Class). length (states_by d) ≡ 6) c-is (computed.long_contexts (c.first - 4) c.second) in
    let four : length (states_by c) ≡ 4 = ap (λ (states : List State). length states) e ∙ computed.default_states in
    omega arith

-- the default class alone gives them
class_told : (c : Class) → ClassOk c → states_by c ≡ states_by standard.default_class → c ≡ standard.default_class
unfolding gives_states
class_told c ok e =
    ⊎_elim (λ long. absurd (no_long_context c long.0 long.1 e))
    (λ short.
    Memᴰ.eq_of_singleton
    (subst (λ (cs : List Class). In c cs) computed.classes
    (in_filter_by gives_states candidates (in_candidates c ok)
    ((tells_and
    (tells_and (tells_itself (settings_ok c.kind c.first c.second)) (tells_not long-context))
    (tells_same (state_fields (states_by c)) (state_fields (states_by standard.default_class)))).test
    ((ok, short), ap (λ (states : List State). state_fields states) e)))))
    (decided long-context)
  where
    long-context : Tells (eqb c.kind 0 && leb 4 c.first) ((c.kind ≡ 0) × (4 ≤ c.first))
    long-context = tells_and (tells_eqb c.kind 0) (tells_leb 4 c.first)

default_told : TellsDefault q3
unfolding book_of read_with states_by
default_told settings ok e = class_told settings.default_class ok e

-- ---- the theorem

-- the days of docs/SCOPE.md, section 10, and all that is claimed of them
pub worked_days-hold : DaysClaimed
unfolding is_exact
worked_days-hold =
    record {
      computed = computed.days;
      any_length = λ day m.
          admits-only (book_states (book_of standard day.book_bytes)) 4 day.admitted_rows
          ((tells_all (λ d. tells_itself (is_exact d)) finite_days).fact computed.finite day m);
      default_told = default_told;
    }
