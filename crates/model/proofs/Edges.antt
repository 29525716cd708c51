-- The edges hold: what computes; books; P2's table and rows of any length; walks over any table; and the theorem. Assumes nothing.
use mathlib.Core.Path.{◌≡◌, refl, ap, ◌∙◌}
use mathlib.Core.Bool.{Bool, true, false, ◌&&◌, not}
use mathlib.Core.List.{List, [], ◌∷◌, map, flat_map}
use Prim.Native.Nat.{ℕ, zero, suc, ◌+◌, ◌<◌}
use native.Mathlib.Omega.{arith}
use borrow.Author.Tests.{lt-leb, eq-eqb, leb-true}
use lib.Dec.{eqb, leb}
use lib.ListN.{length, get_or, replicate, length-replicate}
use Rattle.base.specs.Lists.{any, all, filter_by, numbers_from, same, has_row, before, last_or, Distinct}
use Rattle.base.specs.Limits.{row_limit, input_limit, bad_row, first_of, when}
use Rattle.model.specs.Fields.{standard, row_ok, read_book, read_table}
use Rattle.model.specs.Fields.{name_ok, all_below, above, name_fault, class_fault, row_fault, state_fault, state_ok, arcs_ok}
use Rattle.model.specs.Fields.{field_fault, with_field, read_from, read_with}
use Rattle.model.specs.Tables.{State, state, arc, walk_at}
use Rattle.model.specs.Tables.{field_bytes, name_fields, class_field, row_fields, arc_bytes, state_body, state_fields, bytes_of_table, arcs_in}
use Rattle.model.specs.Tables.{state_in, states_in, met_by_arcs, met_by_states, is_first_met, target_in, walk_from, walk}
use Rattle.model.specs.Tables.{reached_state, admits}
use Rattle.model.specs.Classes.{Word}
use Rattle.model.specs.Joinings.{beginnings, with_states, with_rows, tree_of}
use Rattle.model.specs.Calls.{WithWork, book_of, tree_fault, book_fault, build_fault, table_of, table_fault, table_states}
use Rattle.model.specs.Calls.{walk_fault}
use Rattle.model.specs.Claims.{all_among}
use Rattle.model.specs.WorkedDays.{p2, s}
use Rattle.model.specs.Edges.{snacks, day_book, p2_table, chain_from, long_chain, entries_of, thirteen_rows}
use Rattle.model.specs.Edges.{thirteen_book, EdgesClaimed}
use Rattle.base.proofs.Tests.{not_told, tells_itself, tells_eqb, tells_leb, tells_and, tells_has_row}
use Rattle.base.proofs.Places.{numbers_from-in}
use Rattle.model.proofs.DifferentFirsts.{different_firsts_states}
use Rattle.model.proofs.CallLaws.{sizes_none, table_accepted, walk-judged}
use Rattle.model.proofs.Reading.{accepted_row}
use Rattle.model.proofs.WorkedDays.{p2-table_is}
use Rattle.model.proofs.Walkable.{walkable, walkable_to, only_these, admits-only}

-- ---- what computes

-- P2's states: the start, and one that accepts; a snack leads from both to the second
abbrev two_states : List State
two_states = state false (arc s 1 ∷ []) ∷ state true (arc s 1 ∷ []) ∷ []

-- a table that is not too long, is read without a fault and is numbered first-met
is_good : List ℕ → Bool
is_good table = leb (length table) input_limit && (eqb (read_table table).number 0 && is_first_met (table_states table))

-- a book that is not too long comes to this refusal, or to 0
record IsJudged (book : List ℕ) (number : ℕ) : Type 0 where
  short : leb (length book) input_limit ≡ true
  fault_is : book_fault standard book ≡ number

-- a book that is not too long, is read without a fault, and whose rows are the thirteen
record ThirteenRead (last : ℕ) : Type 0 where
  short : leb (length (thirteen_book last)) input_limit ≡ true
  number_is : (read_book standard (thirteen_book last)).number ≡ 0
  rows_are : (book_of standard (thirteen_book last)).items ≡ thirteen_rows last
  none_empty : has_row [] (thirteen_rows last) ≡ false
  firsts_are : map (λ (row : Word). get_or row 0 0) (thirteen_rows last) ≡ numbers_from 13 0

record Computed : Type 0 where
  -- books
  row_of_40 : IsJudged (day_book (snacks 40 ∷ [])) 0
  row_of_41 : IsJudged (day_book (snacks 41 ∷ [])) bad_row
  last_of_31 : ThirteenRead 31
  last_of_32 : ThirteenRead 32
  -- P2's table: it is good, its states, and a row that a walk over it takes
  p2_good : is_good p2.table_is ≡ true
  p2_states : table_states p2.table_is ≡ two_states
  p2_passes : row_ok (length (table_of p2.table_is).names) (snacks 40) ≡ true
  -- the chain
  chain_good : is_good long_chain ≡ true
  chain_only : only_these (table_states long_chain) 41 (replicate 41 0 ∷ []) ≡ true

computed : Computed
unfolding is_good flat_map walkable walkable_to only_these all_among any all filter_by numbers_from same has_row before last_or name_ok all_below
    above name_fault class_fault row_fault state_fault state_ok arcs_ok field_fault with_field read_from read_with field_bytes name_fields
    class_field row_fields arc_bytes state_body state_fields bytes_of_table arcs_in state_in states_in met_by_arcs met_by_states is_first_met
    target_in walk_from walk reached_state admits beginnings with_states with_rows tree_of book_of book_fault table_of table_states chain_from
computed =
    record {
      row_of_40 = record { short = refl; fault_is = refl };
      row_of_41 = record { short = refl; fault_is = refl };
      last_of_31 = record { short = refl; number_is = refl; rows_are = refl; none_empty = refl; firsts_are = refl };
      last_of_32 = record { short = refl; number_is = refl; rows_are = refl; none_empty = refl; firsts_are = refl };
      p2_good = refl;
      p2_states = refl;
      p2_passes = refl;
      chain_good = refl;
      chain_only = refl;
    }

-- ---- books

-- a book that is not too long is judged by its fields and its tree
book_judged : (book : List ℕ) → leb (length book) input_limit ≡ true → WithWork (build_fault standard book) (book_fault standard book)
unfolding build_fault
book_judged book short work enough =
    ap (λ (n : ℕ). first_of n (book_fault standard book))
    (sizes_none book work (record { input_fits = leb-true (length book) input_limit short; work_fits = enough }))

-- numbers in a row are different
numbers_distinct : (n i : ℕ) → Distinct (numbers_from n i)
unfolding numbers_from
numbers_distinct zero i = tt
numbers_distinct (suc n) i = (λ m. omega (arith, (numbers_from-in n (suc i) i m).0), numbers_distinct n (suc i))

-- the thirteen rows need a state for each entry, and the root
thirteen_size : (last : ℕ) → ThirteenRead last → length (tree_of (thirteen_rows last)) ≡ 1 + entries_of (thirteen_rows last)
thirteen_size last read =
    different_firsts_states (thirteen_rows last)
    (record {
      some_entry = not_told (tells_has_row [] (thirteen_rows last)) read.none_empty;
      different = rw read.firsts_are (numbers_distinct 13 0);
    })

-- and their book is judged by that
thirteen_judged : (last : ℕ) → ThirteenRead last → WithWork (build_fault standard (thirteen_book last)) (tree_fault (thirteen_rows last))
unfolding book_fault
thirteen_judged last read work enough =
    book_judged (thirteen_book last) read.short work enough ∙ rw (read.number_is, read.rows_are)

-- ---- P2's table

-- from its second state every snack is walked
snacks-walked : (n k : ℕ) → walk_from two_states 1 k (snacks n) ≡ walk_at 1 (k + n)
unfolding walk_from target_in
snacks-walked zero k = ap (walk_at 1) (omega arith)
snacks-walked (suc n) k = snacks-walked n (suc k) ∙ ap (walk_at 1) (omega arith)

-- so every number of them from 1 on is admitted
snacks-admitted : (n : ℕ) → admits (table_states p2_table) (snacks (suc n)) ≡ true
unfolding admits reached_state walk walk_from target_in
snacks-admitted n =
    let all-walked : eqb (1 + n) (suc (length (snacks n))) ≡ true =
    eq-eqb (1 + n) (suc (length (snacks n))) (omega (arith, length-replicate n s)) in
    rw (p2-table_is, computed.p2_states, snacks-walked n 1, all-walked)

-- ---- tables and walks

-- a good table is accepted
good_accepted : (table : List ℕ) → is_good table ≡ true → WithWork (table_fault table) 0
unfolding is_good
good_accepted table good work enough =
    let told = (tells_and (tells_leb (length table) input_limit)
    (tells_and (tells_eqb (read_table table).number 0) (tells_itself (is_first_met (table_states table))))).fact good in
    table_accepted table work (record { input_fits = told.0; work_fits = enough }) told.1.0 told.1.1

-- a walk over P2's table is judged by its row
p2-walk : (row : Word) → WithWork (walk_fault p2_table row) (when (not (row_ok (length (table_of p2.table_is).names) row)) bad_row)
p2-walk row work enough =
    ap (λ (table : List ℕ). walk_fault table row work) p2-table_is
    ∙ walk-judged p2.table_is row work (good_accepted p2.table_is computed.p2_good work enough)

-- a walk of a row over the limit
walk_bounded :
    (table row work : List ℕ) → table_fault table work ≡ 0 → row_limit < length row → walk_fault table row work ≡ bad_row
walk_bounded table row work ok long = walk-judged table row work ok ∙ rw (lt-leb (length row) row_limit long)

-- ---- the theorem

pub edges_hold : EdgesClaimed
unfolding numbers_from entries_of
edges_hold =
    record {
      row_passes = λ work enough.
          book_judged (day_book (snacks 40 ∷ [])) computed.row_of_40.short work enough ∙ computed.row_of_40.fault_is;
      row_refused = λ work enough.
          book_judged (day_book (snacks 41 ∷ [])) computed.row_of_41.short work enough ∙ computed.row_of_41.fault_is;
      rows_bounded = λ settings allowed book ok row m. (accepted_row settings allowed book ok row m).0;
      walk_passes = λ work enough. p2-walk (snacks 40) work enough ∙ rw computed.p2_passes;
      walk_refused = λ work enough. p2-walk (snacks 41) work enough;
      walk_bounded = walk_bounded;
      admitted = snacks-admitted 40;
      any_number = snacks-admitted;
      chain_accepted = good_accepted long_chain computed.chain_good;
      chain_admits = admits-only (table_states long_chain) 41 (replicate 41 0 ∷ []) computed.chain_only;
      tree_states = different_firsts_states;
      thirteen_states = thirteen_size 31 computed.last_of_31;
      thirteen_pass = λ work enough.
          thirteen_judged 31 computed.last_of_31 work enough ∙ rw (thirteen_size 31 computed.last_of_31);
      thirteen_refused = λ work enough.
          thirteen_judged 32 computed.last_of_32 work enough ∙ rw (thirteen_size 32 computed.last_of_32);
    }
