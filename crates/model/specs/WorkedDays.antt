-- The worked days (docs/SCOPE.md, section 10): twelve over four names, and three more, each with its book's bytes and what they come to,
-- written out; the example book of the listing; one test that compares everything written here with what the definitions
-- compute; and what is claimed of the days: that test, rows of any length, and the default class. `worked_days-hold` of
-- proofs/WorkedDays.antt proves it all. Byte values of names and text are hexadecimal, sets of names binary (s l d b from the
-- left). Assumes nothing.
use Rattle.std.specs.Prelude.{◌≡◌, Bool, true, false, ◌&&◌, ℕ, zero, suc, eqb, length, get_or}
use mathlib.Core.List.{List, [], ◌∷◌, ◌++◌, map, flat_map, Memᴰ as In}
use Rattle.base.specs.Lists.{all, filter_by, numbers_from, same, has_row}
use Rattle.base.specs.Limits.{items_met, context_kind, seen_set_kind, last_names_kind, admitted, on_the_way, stops}
use Rattle.model.specs.Fields.{Class, class_of, Settings, Allowed, standard, File, read_table}
use Rattle.model.specs.Tables.{State, empty_state, is_first_met, walk, admits, plain_walk}
use Rattle.model.specs.Classes.{Word}
use Rattle.model.specs.Joinings.{Step, step, tree_of, joined_groups, is_full_joining}
use Rattle.model.specs.Quotients.{book_states, book_table, table_after}
use Rattle.model.specs.Calls.{book_of, book_fault, joins_of, distinct_of, table_states}
use Rattle.model.specs.Listing.{listing_of}

-- ---- the names

abbrev pub breakfast : List ℕ
breakfast = 0x62 ∷ 0x72 ∷ 0x65 ∷ 0x61 ∷ 0x6B ∷ 0x66 ∷ 0x61 ∷ 0x73 ∷ 0x74 ∷ []

abbrev pub dinner : List ℕ
dinner = 0x64 ∷ 0x69 ∷ 0x6E ∷ 0x6E ∷ 0x65 ∷ 0x72 ∷ []

abbrev pub lunch : List ℕ
lunch = 0x6C ∷ 0x75 ∷ 0x6E ∷ 0x63 ∷ 0x68 ∷ []

abbrev pub snack : List ℕ
snack = 0x73 ∷ 0x6E ∷ 0x61 ∷ 0x63 ∷ 0x6B ∷ []

abbrev pub meal_names : List (List ℕ)
meal_names = breakfast ∷ dinner ∷ lunch ∷ snack ∷ []

-- their numbers
abbrev pub b : ℕ
b = 0

abbrev pub d : ℕ
d = 1

abbrev pub l : ℕ
l = 2

abbrev pub s : ℕ
s = 3

-- their fields, with which each day's book and table begin
abbrev pub names_written : List ℕ
names_written =
    (0x01 ∷ 0x00 ∷ 0x09 ∷ 0x62 ∷ 0x72 ∷ 0x65 ∷ 0x61 ∷ 0x6B ∷ 0x66 ∷ 0x61 ∷ 0x73 ∷ 0x74 ∷ [])
    ++ (0x01 ∷ 0x00 ∷ 0x06 ∷ 0x64 ∷ 0x69 ∷ 0x6E ∷ 0x6E ∷ 0x65 ∷ 0x72 ∷ [])
    ++ (0x01 ∷ 0x00 ∷ 0x05 ∷ 0x6C ∷ 0x75 ∷ 0x6E ∷ 0x63 ∷ 0x68 ∷ [])
    ++ (0x01 ∷ 0x00 ∷ 0x05 ∷ 0x73 ∷ 0x6E ∷ 0x61 ∷ 0x63 ∷ 0x6B ∷ [])

-- ---- what is written down of a day

-- a walk worth a remark: the row, how its walk ends, the steps taken, the longest beginning that can be walked, and the names
-- with an arc from the state reached, as a set and counted
pub record Remark : Type 0 where
  pub row : Word
  pub ends : ℕ
  pub taken : ℕ
  pub beginning : Word
  pub next_names : ℕ
  pub next_count : ℕ

abbrev pub remark : Word → ℕ → ℕ → Word → ℕ → ℕ → Remark
remark row ends taken beginning next count =
    record { row = row; ends = ends; taken = taken; beginning = beginning; next_names = next; next_count = count }

-- a day: its book's bytes, a field a line; the class and the rows that are read there; the states of the prefix tree, and for
-- each the group that it ends in, which goes by its first state; the steps of one full joining, here the last open step each
-- time; how many states, joins and different rows there are; the table's bytes, a field a line; the accepting states; all rows of
-- at most four names that are admitted, shorter ones first, then by the first different entry; walks worth a remark
pub record Day : Type 0 where
  pub book_bytes : List ℕ
  pub class_is : Class
  pub rows : List Word
  pub tree : List Word
  pub groups : List ℕ
  pub joining : List Step
  pub tree_states : ℕ
  pub table_states_fact : ℕ
  pub joins : ℕ
  pub distinct : ℕ
  pub table_is : List ℕ
  pub accepting : List ℕ
  pub admitted_rows : List Word
  pub remarks : List Remark

-- ---- the days

-- P1: context (2,1), the empty row alone: only the empty row admitted
abbrev pub p1 : Day
p1 =
    record {
      book_bytes =
          names_written
          ++ (2 ∷ 0 ∷ 3 ∷ 0 ∷ 2 ∷ 1 ∷ [])
          ++ (3 ∷ 0 ∷ 0 ∷ []);
      class_is = class_of context_kind 2 1;
      rows = [] ∷ [];
      tree = [] ∷ [];
      groups = 0 ∷ [];
      joining = [];
      tree_states = 1;
      table_states_fact = 1;
      joins = 0;
      distinct = 1;
      table_is =
          names_written
          ++ (2 ∷ 0 ∷ 3 ∷ 0 ∷ 2 ∷ 1 ∷ [])
          ++ (4 ∷ 0 ∷ 1 ∷ 1 ∷ []);
      accepting = 0 ∷ [];
      admitted_rows = [] ∷ [];
      remarks =
          remark [] admitted 0 [] 0b0000 0 ∷
          remark (s ∷ []) stops 0 [] 0b0000 0 ∷ [];
    }

-- P2: context (1,1), ss: ss and sss admitted, the empty row not
abbrev pub p2 : Day
p2 =
    record {
      book_bytes =
          names_written
          ++ (2 ∷ 0 ∷ 3 ∷ 0 ∷ 1 ∷ 1 ∷ [])
          ++ (3 ∷ 0 ∷ 2 ∷ 3 ∷ 3 ∷ []);
      class_is = class_of context_kind 1 1;
      rows = (s ∷ s ∷ []) ∷ [];
      tree = [] ∷ (s ∷ []) ∷ (s ∷ s ∷ []) ∷ [];
      groups = 0 ∷ 1 ∷ 1 ∷ [];
      joining = step 2 1 ∷ [];
      tree_states = 3;
      table_states_fact = 2;
      joins = 1;
      distinct = 1;
      table_is =
          names_written
          ++ (2 ∷ 0 ∷ 3 ∷ 0 ∷ 1 ∷ 1 ∷ [])
          ++ (4 ∷ 0 ∷ 4 ∷ 0 ∷ 3 ∷ 0 ∷ 1 ∷ [])
          ++ (4 ∷ 0 ∷ 4 ∷ 1 ∷ 3 ∷ 0 ∷ 1 ∷ []);
      accepting = 1 ∷ [];
      admitted_rows = (s ∷ []) ∷ (s ∷ s ∷ []) ∷ (s ∷ s ∷ s ∷ []) ∷ (s ∷ s ∷ s ∷ s ∷ []) ∷ [];
      remarks =
          remark [] on_the_way 0 [] 0b1000 1 ∷
          remark (s ∷ s ∷ []) admitted 2 (s ∷ s ∷ []) 0b1000 1 ∷
          remark (s ∷ s ∷ s ∷ []) admitted 3 (s ∷ s ∷ s ∷ []) 0b1000 1 ∷ [];
    }

-- P3: context (2,1), ss: only ss admitted
abbrev pub p3 : Day
p3 =
    record {
      book_bytes =
          names_written
          ++ (2 ∷ 0 ∷ 3 ∷ 0 ∷ 2 ∷ 1 ∷ [])
          ++ (3 ∷ 0 ∷ 2 ∷ 3 ∷ 3 ∷ []);
      class_is = class_of context_kind 2 1;
      rows = (s ∷ s ∷ []) ∷ [];
      tree = [] ∷ (s ∷ []) ∷ (s ∷ s ∷ []) ∷ [];
      groups = 0 ∷ 1 ∷ 2 ∷ [];
      joining = [];
      tree_states = 3;
      table_states_fact = 3;
      joins = 0;
      distinct = 1;
      table_is =
          names_written
          ++ (2 ∷ 0 ∷ 3 ∷ 0 ∷ 2 ∷ 1 ∷ [])
          ++ (4 ∷ 0 ∷ 4 ∷ 0 ∷ 3 ∷ 0 ∷ 1 ∷ [])
          ++ (4 ∷ 0 ∷ 4 ∷ 0 ∷ 3 ∷ 0 ∷ 2 ∷ [])
          ++ (4 ∷ 0 ∷ 1 ∷ 1 ∷ []);
      accepting = 2 ∷ [];
      admitted_rows = (s ∷ s ∷ []) ∷ [];
      remarks =
          remark (s ∷ []) on_the_way 1 (s ∷ []) 0b1000 1 ∷
          remark (s ∷ s ∷ []) admitted 2 (s ∷ s ∷ []) 0b0000 0 ∷
          remark (s ∷ s ∷ s ∷ []) stops 2 (s ∷ s ∷ []) 0b0000 0 ∷ [];
    }

-- P4: context (2,1), bld and bsld: state 4 accepts; state 3 is the one after bs
abbrev pub p4 : Day
p4 =
    record {
      book_bytes =
          names_written
          ++ (2 ∷ 0 ∷ 3 ∷ 0 ∷ 2 ∷ 1 ∷ [])
          ++ (3 ∷ 0 ∷ 3 ∷ 0 ∷ 2 ∷ 1 ∷ [])
          ++ (3 ∷ 0 ∷ 4 ∷ 0 ∷ 3 ∷ 2 ∷ 1 ∷ []);
      class_is = class_of context_kind 2 1;
      rows = (b ∷ l ∷ d ∷ []) ∷ (b ∷ s ∷ l ∷ d ∷ []) ∷ [];
      tree =
          [] ∷ (b ∷ []) ∷ (b ∷ l ∷ []) ∷ (b ∷ l ∷ d ∷ []) ∷
          (b ∷ s ∷ []) ∷ (b ∷ s ∷ l ∷ []) ∷ (b ∷ s ∷ l ∷ d ∷ []) ∷ [];
      groups = 0 ∷ 1 ∷ 2 ∷ 3 ∷ 4 ∷ 2 ∷ 3 ∷ [];
      joining = step 6 3 ∷ step 5 2 ∷ [];
      tree_states = 7;
      table_states_fact = 5;
      joins = 2;
      distinct = 2;
      table_is =
          names_written
          ++ (2 ∷ 0 ∷ 3 ∷ 0 ∷ 2 ∷ 1 ∷ [])
          ++ (4 ∷ 0 ∷ 4 ∷ 0 ∷ 0 ∷ 0 ∷ 1 ∷ [])
          ++ (4 ∷ 0 ∷ 7 ∷ 0 ∷ 2 ∷ 0 ∷ 2 ∷ 3 ∷ 0 ∷ 3 ∷ [])
          ++ (4 ∷ 0 ∷ 4 ∷ 0 ∷ 1 ∷ 0 ∷ 4 ∷ [])
          ++ (4 ∷ 0 ∷ 4 ∷ 0 ∷ 2 ∷ 0 ∷ 2 ∷ [])
          ++ (4 ∷ 0 ∷ 1 ∷ 1 ∷ []);
      accepting = 4 ∷ [];
      admitted_rows = (b ∷ l ∷ d ∷ []) ∷ (b ∷ s ∷ l ∷ d ∷ []) ∷ [];
      remarks =
          remark (b ∷ s ∷ []) on_the_way 2 (b ∷ s ∷ []) 0b0100 1 ∷
          remark (b ∷ s ∷ l ∷ d ∷ []) admitted 4 (b ∷ s ∷ l ∷ d ∷ []) 0b0000 0 ∷
          remark (b ∷ d ∷ l ∷ []) stops 1 (b ∷ []) 0b1100 2 ∷ [];
    }

-- P5: context (2,2), bld and bsld: the same two rows admitted as in P4
abbrev pub p5 : Day
p5 =
    record {
      book_bytes =
          names_written
          ++ (2 ∷ 0 ∷ 3 ∷ 0 ∷ 2 ∷ 2 ∷ [])
          ++ (3 ∷ 0 ∷ 3 ∷ 0 ∷ 2 ∷ 1 ∷ [])
          ++ (3 ∷ 0 ∷ 4 ∷ 0 ∷ 3 ∷ 2 ∷ 1 ∷ []);
      class_is = class_of context_kind 2 2;
      rows = (b ∷ l ∷ d ∷ []) ∷ (b ∷ s ∷ l ∷ d ∷ []) ∷ [];
      tree =
          [] ∷ (b ∷ []) ∷ (b ∷ l ∷ []) ∷ (b ∷ l ∷ d ∷ []) ∷
          (b ∷ s ∷ []) ∷ (b ∷ s ∷ l ∷ []) ∷ (b ∷ s ∷ l ∷ d ∷ []) ∷ [];
      groups = 0 ∷ 1 ∷ 2 ∷ 3 ∷ 4 ∷ 5 ∷ 3 ∷ [];
      joining = step 6 3 ∷ [];
      tree_states = 7;
      table_states_fact = 6;
      joins = 1;
      distinct = 2;
      table_is =
          names_written
          ++ (2 ∷ 0 ∷ 3 ∷ 0 ∷ 2 ∷ 2 ∷ [])
          ++ (4 ∷ 0 ∷ 4 ∷ 0 ∷ 0 ∷ 0 ∷ 1 ∷ [])
          ++ (4 ∷ 0 ∷ 7 ∷ 0 ∷ 2 ∷ 0 ∷ 2 ∷ 3 ∷ 0 ∷ 3 ∷ [])
          ++ (4 ∷ 0 ∷ 4 ∷ 0 ∷ 1 ∷ 0 ∷ 4 ∷ [])
          ++ (4 ∷ 0 ∷ 4 ∷ 0 ∷ 2 ∷ 0 ∷ 5 ∷ [])
          ++ (4 ∷ 0 ∷ 1 ∷ 1 ∷ [])
          ++ (4 ∷ 0 ∷ 4 ∷ 0 ∷ 1 ∷ 0 ∷ 4 ∷ []);
      accepting = 4 ∷ [];
      admitted_rows = (b ∷ l ∷ d ∷ []) ∷ (b ∷ s ∷ l ∷ d ∷ []) ∷ [];
      remarks =
          remark (b ∷ s ∷ l ∷ d ∷ []) admitted 4 (b ∷ s ∷ l ∷ d ∷ []) 0b0000 0 ∷
          remark (b ∷ l ∷ s ∷ []) stops 2 (b ∷ l ∷ []) 0b0010 1 ∷ [];
    }

-- P6: context (2,1), bsl, dsl and bsb: dsb admitted
abbrev pub p6 : Day
p6 =
    record {
      book_bytes =
          names_written
          ++ (2 ∷ 0 ∷ 3 ∷ 0 ∷ 2 ∷ 1 ∷ [])
          ++ (3 ∷ 0 ∷ 3 ∷ 0 ∷ 3 ∷ 2 ∷ [])
          ++ (3 ∷ 0 ∷ 3 ∷ 1 ∷ 3 ∷ 2 ∷ [])
          ++ (3 ∷ 0 ∷ 3 ∷ 0 ∷ 3 ∷ 0 ∷ []);
      class_is = class_of context_kind 2 1;
      rows = (b ∷ s ∷ l ∷ []) ∷ (d ∷ s ∷ l ∷ []) ∷ (b ∷ s ∷ b ∷ []) ∷ [];
      tree =
          [] ∷ (b ∷ []) ∷ (b ∷ s ∷ []) ∷ (b ∷ s ∷ l ∷ []) ∷
          (d ∷ []) ∷ (d ∷ s ∷ []) ∷ (d ∷ s ∷ l ∷ []) ∷ (b ∷ s ∷ b ∷ []) ∷ [];
      groups = 0 ∷ 1 ∷ 2 ∷ 3 ∷ 4 ∷ 2 ∷ 3 ∷ 7 ∷ [];
      joining = step 6 3 ∷ step 5 2 ∷ [];
      tree_states = 8;
      table_states_fact = 6;
      joins = 2;
      distinct = 3;
      table_is =
          names_written
          ++ (2 ∷ 0 ∷ 3 ∷ 0 ∷ 2 ∷ 1 ∷ [])
          ++ (4 ∷ 0 ∷ 7 ∷ 0 ∷ 0 ∷ 0 ∷ 1 ∷ 1 ∷ 0 ∷ 2 ∷ [])
          ++ (4 ∷ 0 ∷ 4 ∷ 0 ∷ 3 ∷ 0 ∷ 3 ∷ [])
          ++ (4 ∷ 0 ∷ 4 ∷ 0 ∷ 3 ∷ 0 ∷ 3 ∷ [])
          ++ (4 ∷ 0 ∷ 7 ∷ 0 ∷ 0 ∷ 0 ∷ 4 ∷ 2 ∷ 0 ∷ 5 ∷ [])
          ++ (4 ∷ 0 ∷ 1 ∷ 1 ∷ [])
          ++ (4 ∷ 0 ∷ 1 ∷ 1 ∷ []);
      accepting = 4 ∷ 5 ∷ [];
      admitted_rows = (b ∷ s ∷ b ∷ []) ∷ (b ∷ s ∷ l ∷ []) ∷ (d ∷ s ∷ b ∷ []) ∷ (d ∷ s ∷ l ∷ []) ∷ [];
      remarks =
          remark (d ∷ s ∷ []) on_the_way 2 (d ∷ s ∷ []) 0b0101 2 ∷
          remark (d ∷ s ∷ b ∷ []) admitted 3 (d ∷ s ∷ b ∷ []) 0b0000 0 ∷ [];
    }

-- P7: context (2,2), bsl, dsl and bsb: dsb stops after ds
abbrev pub p7 : Day
p7 =
    record {
      book_bytes =
          names_written
          ++ (2 ∷ 0 ∷ 3 ∷ 0 ∷ 2 ∷ 2 ∷ [])
          ++ (3 ∷ 0 ∷ 3 ∷ 0 ∷ 3 ∷ 2 ∷ [])
          ++ (3 ∷ 0 ∷ 3 ∷ 1 ∷ 3 ∷ 2 ∷ [])
          ++ (3 ∷ 0 ∷ 3 ∷ 0 ∷ 3 ∷ 0 ∷ []);
      class_is = class_of context_kind 2 2;
      rows = (b ∷ s ∷ l ∷ []) ∷ (d ∷ s ∷ l ∷ []) ∷ (b ∷ s ∷ b ∷ []) ∷ [];
      tree =
          [] ∷ (b ∷ []) ∷ (b ∷ s ∷ []) ∷ (b ∷ s ∷ l ∷ []) ∷
          (d ∷ []) ∷ (d ∷ s ∷ []) ∷ (d ∷ s ∷ l ∷ []) ∷ (b ∷ s ∷ b ∷ []) ∷ [];
      groups = 0 ∷ 1 ∷ 2 ∷ 3 ∷ 4 ∷ 5 ∷ 3 ∷ 7 ∷ [];
      joining = step 6 3 ∷ [];
      tree_states = 8;
      table_states_fact = 7;
      joins = 1;
      distinct = 3;
      table_is =
          names_written
          ++ (2 ∷ 0 ∷ 3 ∷ 0 ∷ 2 ∷ 2 ∷ [])
          ++ (4 ∷ 0 ∷ 7 ∷ 0 ∷ 0 ∷ 0 ∷ 1 ∷ 1 ∷ 0 ∷ 2 ∷ [])
          ++ (4 ∷ 0 ∷ 4 ∷ 0 ∷ 3 ∷ 0 ∷ 3 ∷ [])
          ++ (4 ∷ 0 ∷ 4 ∷ 0 ∷ 3 ∷ 0 ∷ 4 ∷ [])
          ++ (4 ∷ 0 ∷ 7 ∷ 0 ∷ 0 ∷ 0 ∷ 5 ∷ 2 ∷ 0 ∷ 6 ∷ [])
          ++ (4 ∷ 0 ∷ 4 ∷ 0 ∷ 2 ∷ 0 ∷ 6 ∷ [])
          ++ (4 ∷ 0 ∷ 1 ∷ 1 ∷ [])
          ++ (4 ∷ 0 ∷ 1 ∷ 1 ∷ []);
      accepting = 5 ∷ 6 ∷ [];
      admitted_rows = (b ∷ s ∷ b ∷ []) ∷ (b ∷ s ∷ l ∷ []) ∷ (d ∷ s ∷ l ∷ []) ∷ [];
      remarks =
          remark (d ∷ s ∷ []) on_the_way 2 (d ∷ s ∷ []) 0b0100 1 ∷
          remark (d ∷ s ∷ b ∷ []) stops 2 (d ∷ s ∷ []) 0b0100 1 ∷ [];
    }

-- P8: seen set, s and ss: the empty row is on the way
abbrev pub p8 : Day
p8 =
    record {
      book_bytes =
          names_written
          ++ (2 ∷ 0 ∷ 3 ∷ 1 ∷ 0 ∷ 0 ∷ [])
          ++ (3 ∷ 0 ∷ 1 ∷ 3 ∷ [])
          ++ (3 ∷ 0 ∷ 2 ∷ 3 ∷ 3 ∷ []);
      class_is = class_of seen_set_kind 0 0;
      rows = (s ∷ []) ∷ (s ∷ s ∷ []) ∷ [];
      tree = [] ∷ (s ∷ []) ∷ (s ∷ s ∷ []) ∷ [];
      groups = 0 ∷ 1 ∷ 1 ∷ [];
      joining = step 2 1 ∷ [];
      tree_states = 3;
      table_states_fact = 2;
      joins = 1;
      distinct = 2;
      table_is =
          names_written
          ++ (2 ∷ 0 ∷ 3 ∷ 1 ∷ 0 ∷ 0 ∷ [])
          ++ (4 ∷ 0 ∷ 4 ∷ 0 ∷ 3 ∷ 0 ∷ 1 ∷ [])
          ++ (4 ∷ 0 ∷ 4 ∷ 1 ∷ 3 ∷ 0 ∷ 1 ∷ []);
      accepting = 1 ∷ [];
      admitted_rows = (s ∷ []) ∷ (s ∷ s ∷ []) ∷ (s ∷ s ∷ s ∷ []) ∷ (s ∷ s ∷ s ∷ s ∷ []) ∷ [];
      remarks =
          remark [] on_the_way 0 [] 0b1000 1 ∷
          remark (s ∷ s ∷ s ∷ []) admitted 3 (s ∷ s ∷ s ∷ []) 0b1000 1 ∷ [];
    }

-- P9: last 0 names, s and ss: the empty row admitted
abbrev pub p9 : Day
p9 =
    record {
      book_bytes =
          names_written
          ++ (2 ∷ 0 ∷ 3 ∷ 2 ∷ 0 ∷ 0 ∷ [])
          ++ (3 ∷ 0 ∷ 1 ∷ 3 ∷ [])
          ++ (3 ∷ 0 ∷ 2 ∷ 3 ∷ 3 ∷ []);
      class_is = class_of last_names_kind 0 0;
      rows = (s ∷ []) ∷ (s ∷ s ∷ []) ∷ [];
      tree = [] ∷ (s ∷ []) ∷ (s ∷ s ∷ []) ∷ [];
      groups = 0 ∷ 0 ∷ 0 ∷ [];
      joining = step 2 1 ∷ step 1 0 ∷ [];
      tree_states = 3;
      table_states_fact = 1;
      joins = 2;
      distinct = 2;
      table_is =
          names_written
          ++ (2 ∷ 0 ∷ 3 ∷ 2 ∷ 0 ∷ 0 ∷ [])
          ++ (4 ∷ 0 ∷ 4 ∷ 1 ∷ 3 ∷ 0 ∷ 0 ∷ []);
      accepting = 0 ∷ [];
      admitted_rows = [] ∷ (s ∷ []) ∷ (s ∷ s ∷ []) ∷ (s ∷ s ∷ s ∷ []) ∷ (s ∷ s ∷ s ∷ s ∷ []) ∷ [];
      remarks =
          remark [] admitted 0 [] 0b1000 1 ∷
          remark (s ∷ d ∷ []) stops 1 (s ∷ []) 0b1000 1 ∷ [];
    }

-- P10: last 1 name, s and ss: as P8
abbrev pub p10 : Day
p10 =
    record {
      book_bytes =
          names_written
          ++ (2 ∷ 0 ∷ 3 ∷ 2 ∷ 1 ∷ 0 ∷ [])
          ++ (3 ∷ 0 ∷ 1 ∷ 3 ∷ [])
          ++ (3 ∷ 0 ∷ 2 ∷ 3 ∷ 3 ∷ []);
      class_is = class_of last_names_kind 1 0;
      rows = (s ∷ []) ∷ (s ∷ s ∷ []) ∷ [];
      tree = [] ∷ (s ∷ []) ∷ (s ∷ s ∷ []) ∷ [];
      groups = 0 ∷ 1 ∷ 1 ∷ [];
      joining = step 2 1 ∷ [];
      tree_states = 3;
      table_states_fact = 2;
      joins = 1;
      distinct = 2;
      table_is =
          names_written
          ++ (2 ∷ 0 ∷ 3 ∷ 2 ∷ 1 ∷ 0 ∷ [])
          ++ (4 ∷ 0 ∷ 4 ∷ 0 ∷ 3 ∷ 0 ∷ 1 ∷ [])
          ++ (4 ∷ 0 ∷ 4 ∷ 1 ∷ 3 ∷ 0 ∷ 1 ∷ []);
      accepting = 1 ∷ [];
      admitted_rows = (s ∷ []) ∷ (s ∷ s ∷ []) ∷ (s ∷ s ∷ s ∷ []) ∷ (s ∷ s ∷ s ∷ s ∷ []) ∷ [];
      remarks =
          remark [] on_the_way 0 [] 0b1000 1 ∷
          remark (s ∷ s ∷ s ∷ []) admitted 3 (s ∷ s ∷ s ∷ []) 0b1000 1 ∷ [];
    }

-- P11: seen set, bs and sb: the two ends join
abbrev pub p11 : Day
p11 =
    record {
      book_bytes =
          names_written
          ++ (2 ∷ 0 ∷ 3 ∷ 1 ∷ 0 ∷ 0 ∷ [])
          ++ (3 ∷ 0 ∷ 2 ∷ 0 ∷ 3 ∷ [])
          ++ (3 ∷ 0 ∷ 2 ∷ 3 ∷ 0 ∷ []);
      class_is = class_of seen_set_kind 0 0;
      rows = (b ∷ s ∷ []) ∷ (s ∷ b ∷ []) ∷ [];
      tree = [] ∷ (b ∷ []) ∷ (b ∷ s ∷ []) ∷ (s ∷ []) ∷ (s ∷ b ∷ []) ∷ [];
      groups = 0 ∷ 1 ∷ 2 ∷ 3 ∷ 2 ∷ [];
      joining = step 4 2 ∷ [];
      tree_states = 5;
      table_states_fact = 4;
      joins = 1;
      distinct = 2;
      table_is =
          names_written
          ++ (2 ∷ 0 ∷ 3 ∷ 1 ∷ 0 ∷ 0 ∷ [])
          ++ (4 ∷ 0 ∷ 7 ∷ 0 ∷ 0 ∷ 0 ∷ 1 ∷ 3 ∷ 0 ∷ 2 ∷ [])
          ++ (4 ∷ 0 ∷ 4 ∷ 0 ∷ 3 ∷ 0 ∷ 3 ∷ [])
          ++ (4 ∷ 0 ∷ 4 ∷ 0 ∷ 0 ∷ 0 ∷ 3 ∷ [])
          ++ (4 ∷ 0 ∷ 1 ∷ 1 ∷ []);
      accepting = 3 ∷ [];
      admitted_rows = (b ∷ s ∷ []) ∷ (s ∷ b ∷ []) ∷ [];
      remarks =
          remark (b ∷ []) on_the_way 1 (b ∷ []) 0b1000 1 ∷
          remark (b ∷ s ∷ []) admitted 2 (b ∷ s ∷ []) 0b0000 0 ∷
          remark (s ∷ b ∷ []) admitted 2 (s ∷ b ∷ []) 0b0000 0 ∷
          remark (b ∷ s ∷ b ∷ []) stops 2 (b ∷ s ∷ []) 0b0000 0 ∷ [];
    }

-- P12: context (2,1), ss twice: a repeat of P3, and one different row as there
abbrev pub p12 : Day
p12 =
    record {
      book_bytes =
          names_written
          ++ (2 ∷ 0 ∷ 3 ∷ 0 ∷ 2 ∷ 1 ∷ [])
          ++ (3 ∷ 0 ∷ 2 ∷ 3 ∷ 3 ∷ [])
          ++ (3 ∷ 0 ∷ 2 ∷ 3 ∷ 3 ∷ []);
      class_is = class_of context_kind 2 1;
      rows = (s ∷ s ∷ []) ∷ (s ∷ s ∷ []) ∷ [];
      tree = [] ∷ (s ∷ []) ∷ (s ∷ s ∷ []) ∷ [];
      groups = 0 ∷ 1 ∷ 2 ∷ [];
      joining = [];
      tree_states = 3;
      table_states_fact = 3;
      joins = 0;
      distinct = 1;
      table_is =
          names_written
          ++ (2 ∷ 0 ∷ 3 ∷ 0 ∷ 2 ∷ 1 ∷ [])
          ++ (4 ∷ 0 ∷ 4 ∷ 0 ∷ 3 ∷ 0 ∷ 1 ∷ [])
          ++ (4 ∷ 0 ∷ 4 ∷ 0 ∷ 3 ∷ 0 ∷ 2 ∷ [])
          ++ (4 ∷ 0 ∷ 1 ∷ 1 ∷ []);
      accepting = 2 ∷ [];
      admitted_rows = (s ∷ s ∷ []) ∷ [];
      remarks =
          remark (s ∷ []) on_the_way 1 (s ∷ []) 0b1000 1 ∷
          remark (s ∷ s ∷ []) admitted 2 (s ∷ s ∷ []) 0b0000 0 ∷
          remark (s ∷ s ∷ s ∷ []) stops 2 (s ∷ s ∷ []) 0b0000 0 ∷ [];
    }

-- the twelve days that docs/SCOPE.md (section 10) marks P
abbrev pub worked_days : List Day
worked_days = p1 ∷ p2 ∷ p3 ∷ p4 ∷ p5 ∷ p6 ∷ p7 ∷ p8 ∷ p9 ∷ p10 ∷ p11 ∷ p12 ∷ []

-- ---- three days more: two for joins that go astray and change none of the twelve, and one for the default class

-- Q1: seen set, bs and sbb: sb and bs have the same seen set, and that alone joins nothing
abbrev pub q1 : Day
q1 =
    record {
      book_bytes =
          names_written
          ++ (2 ∷ 0 ∷ 3 ∷ 1 ∷ 0 ∷ 0 ∷ [])
          ++ (3 ∷ 0 ∷ 2 ∷ 0 ∷ 3 ∷ [])
          ++ (3 ∷ 0 ∷ 3 ∷ 3 ∷ 0 ∷ 0 ∷ []);
      class_is = class_of seen_set_kind 0 0;
      rows = (b ∷ s ∷ []) ∷ (s ∷ b ∷ b ∷ []) ∷ [];
      tree =
          [] ∷ (b ∷ []) ∷ (b ∷ s ∷ []) ∷ (s ∷ []) ∷ (s ∷ b ∷ []) ∷ (s ∷ b ∷ b ∷ []) ∷ [];
      groups = 0 ∷ 1 ∷ 2 ∷ 3 ∷ 4 ∷ 2 ∷ [];
      joining = step 5 2 ∷ [];
      tree_states = 6;
      table_states_fact = 5;
      joins = 1;
      distinct = 2;
      table_is =
          names_written
          ++ (2 ∷ 0 ∷ 3 ∷ 1 ∷ 0 ∷ 0 ∷ [])
          ++ (4 ∷ 0 ∷ 7 ∷ 0 ∷ 0 ∷ 0 ∷ 1 ∷ 3 ∷ 0 ∷ 2 ∷ [])
          ++ (4 ∷ 0 ∷ 4 ∷ 0 ∷ 3 ∷ 0 ∷ 3 ∷ [])
          ++ (4 ∷ 0 ∷ 4 ∷ 0 ∷ 0 ∷ 0 ∷ 4 ∷ [])
          ++ (4 ∷ 0 ∷ 1 ∷ 1 ∷ [])
          ++ (4 ∷ 0 ∷ 4 ∷ 0 ∷ 0 ∷ 0 ∷ 3 ∷ []);
      accepting = 3 ∷ [];
      admitted_rows = (b ∷ s ∷ []) ∷ (s ∷ b ∷ b ∷ []) ∷ [];
      remarks =
          remark (s ∷ b ∷ []) on_the_way 2 (s ∷ b ∷ []) 0b0001 1 ∷
          remark (s ∷ b ∷ b ∷ []) admitted 3 (s ∷ b ∷ b ∷ []) 0b0000 0 ∷ [];
    }

-- Q2: seen set, s, ss, sbd and ssbl: s and ss join, and so their targets by b, which no rule joins by itself
abbrev pub q2 : Day
q2 =
    record {
      book_bytes =
          names_written
          ++ (2 ∷ 0 ∷ 3 ∷ 1 ∷ 0 ∷ 0 ∷ [])
          ++ (3 ∷ 0 ∷ 1 ∷ 3 ∷ [])
          ++ (3 ∷ 0 ∷ 2 ∷ 3 ∷ 3 ∷ [])
          ++ (3 ∷ 0 ∷ 3 ∷ 3 ∷ 0 ∷ 1 ∷ [])
          ++ (3 ∷ 0 ∷ 4 ∷ 3 ∷ 3 ∷ 0 ∷ 2 ∷ []);
      class_is = class_of seen_set_kind 0 0;
      rows = (s ∷ []) ∷ (s ∷ s ∷ []) ∷ (s ∷ b ∷ d ∷ []) ∷ (s ∷ s ∷ b ∷ l ∷ []) ∷ [];
      tree =
          [] ∷ (s ∷ []) ∷ (s ∷ s ∷ []) ∷ (s ∷ b ∷ []) ∷
          (s ∷ b ∷ d ∷ []) ∷ (s ∷ s ∷ b ∷ []) ∷ (s ∷ s ∷ b ∷ l ∷ []) ∷ [];
      groups = 0 ∷ 1 ∷ 1 ∷ 3 ∷ 4 ∷ 3 ∷ 6 ∷ [];
      joining = step 2 1 ∷ step 5 3 ∷ [];
      tree_states = 7;
      table_states_fact = 5;
      joins = 2;
      distinct = 4;
      table_is =
          names_written
          ++ (2 ∷ 0 ∷ 3 ∷ 1 ∷ 0 ∷ 0 ∷ [])
          ++ (4 ∷ 0 ∷ 4 ∷ 0 ∷ 3 ∷ 0 ∷ 1 ∷ [])
          ++ (4 ∷ 0 ∷ 7 ∷ 1 ∷ 0 ∷ 0 ∷ 2 ∷ 3 ∷ 0 ∷ 1 ∷ [])
          ++ (4 ∷ 0 ∷ 7 ∷ 0 ∷ 1 ∷ 0 ∷ 3 ∷ 2 ∷ 0 ∷ 4 ∷ [])
          ++ (4 ∷ 0 ∷ 1 ∷ 1 ∷ [])
          ++ (4 ∷ 0 ∷ 1 ∷ 1 ∷ []);
      accepting = 1 ∷ 3 ∷ 4 ∷ [];
      admitted_rows =
          (s ∷ []) ∷ (s ∷ s ∷ []) ∷ (s ∷ b ∷ d ∷ []) ∷ (s ∷ b ∷ l ∷ []) ∷ (s ∷ s ∷ s ∷ []) ∷
          (s ∷ s ∷ b ∷ d ∷ []) ∷ (s ∷ s ∷ b ∷ l ∷ []) ∷ (s ∷ s ∷ s ∷ s ∷ []) ∷ [];
      remarks =
          remark (s ∷ b ∷ []) on_the_way 2 (s ∷ b ∷ []) 0b0110 2 ∷
          remark (s ∷ b ∷ l ∷ []) admitted 3 (s ∷ b ∷ l ∷ []) 0b0000 0 ∷ [];
    }

-- Q3: no class field, bs and sss: the default class, context (2,1), and no other gives these states
abbrev pub q3 : Day
q3 =
    record {
      book_bytes =
          names_written
          ++ (3 ∷ 0 ∷ 2 ∷ 0 ∷ 3 ∷ [])
          ++ (3 ∷ 0 ∷ 3 ∷ 3 ∷ 3 ∷ 3 ∷ []);
      class_is = class_of context_kind 2 1;
      rows = (b ∷ s ∷ []) ∷ (s ∷ s ∷ s ∷ []) ∷ [];
      tree = [] ∷ (b ∷ []) ∷ (b ∷ s ∷ []) ∷ (s ∷ []) ∷ (s ∷ s ∷ []) ∷ (s ∷ s ∷ s ∷ []) ∷ [];
      groups = 0 ∷ 1 ∷ 2 ∷ 3 ∷ 3 ∷ 3 ∷ [];
      joining = step 5 4 ∷ step 4 3 ∷ [];
      tree_states = 6;
      table_states_fact = 4;
      joins = 2;
      distinct = 2;
      table_is =
          names_written
          ++ (2 ∷ 0 ∷ 3 ∷ 0 ∷ 2 ∷ 1 ∷ [])
          ++ (4 ∷ 0 ∷ 7 ∷ 0 ∷ 0 ∷ 0 ∷ 1 ∷ 3 ∷ 0 ∷ 2 ∷ [])
          ++ (4 ∷ 0 ∷ 4 ∷ 0 ∷ 3 ∷ 0 ∷ 3 ∷ [])
          ++ (4 ∷ 0 ∷ 4 ∷ 1 ∷ 3 ∷ 0 ∷ 2 ∷ [])
          ++ (4 ∷ 0 ∷ 1 ∷ 1 ∷ []);
      accepting = 2 ∷ 3 ∷ [];
      admitted_rows =
          (s ∷ []) ∷ (b ∷ s ∷ []) ∷ (s ∷ s ∷ []) ∷ (s ∷ s ∷ s ∷ []) ∷ (s ∷ s ∷ s ∷ s ∷ []) ∷ [];
      remarks =
          remark (s ∷ []) admitted 1 (s ∷ []) 0b1000 1 ∷
          remark (b ∷ s ∷ s ∷ []) stops 2 (b ∷ s ∷ []) 0b0000 0 ∷ [];
    }

abbrev pub further_days : List Day
further_days = q1 ∷ q2 ∷ q3 ∷ []

-- ---- the example book of the listing

-- one name, snack; context (1,1); one row, two snacks
abbrev pub example_book : List ℕ
example_book =
    (0x01 ∷ 0x00 ∷ 0x05 ∷ 0x73 ∷ 0x6E ∷ 0x61 ∷ 0x63 ∷ 0x6B ∷ [])
    ++ (0x02 ∷ 0x00 ∷ 0x03 ∷ 0x00 ∷ 0x01 ∷ 0x01 ∷ [])
    ++ (0x03 ∷ 0x00 ∷ 0x02 ∷ 0x00 ∷ 0x00 ∷ [])

abbrev pub example_table : List ℕ
example_table =
    (0x01 ∷ 0x00 ∷ 0x05 ∷ 0x73 ∷ 0x6E ∷ 0x61 ∷ 0x63 ∷ 0x6B ∷ [])
    ++ (0x02 ∷ 0x00 ∷ 0x03 ∷ 0x00 ∷ 0x01 ∷ 0x01 ∷ [])
    ++ (0x04 ∷ 0x00 ∷ 0x04 ∷ 0x00 ∷ 0x00 ∷ 0x00 ∷ 0x01 ∷ [])
    ++ (0x04 ∷ 0x00 ∷ 0x04 ∷ 0x01 ∷ 0x00 ∷ 0x00 ∷ 0x01 ∷ [])

-- `states 2 joins 1 distinct 1`, `0 - snack>1`, `1 + snack>1`, each with its newline
abbrev pub example_listing : List ℕ
example_listing =
    (0x73 ∷ 0x74 ∷ 0x61 ∷ 0x74 ∷ 0x65 ∷ 0x73 ∷ 0x20 ∷ 0x32 ∷ [])
    ++ (0x20 ∷ 0x6A ∷ 0x6F ∷ 0x69 ∷ 0x6E ∷ 0x73 ∷ 0x20 ∷ 0x31 ∷ [])
    ++ (0x20 ∷ 0x64 ∷ 0x69 ∷ 0x73 ∷ 0x74 ∷ 0x69 ∷ 0x6E ∷ 0x63 ∷ 0x74 ∷ 0x20 ∷ 0x31 ∷ 0x0A ∷ [])
    ++ (0x30 ∷ 0x20 ∷ 0x2D ∷ 0x20 ∷ 0x73 ∷ 0x6E ∷ 0x61 ∷ 0x63 ∷ 0x6B ∷ 0x3E ∷ 0x31 ∷ 0x0A ∷ [])
    ++ (0x31 ∷ 0x20 ∷ 0x2B ∷ 0x20 ∷ 0x73 ∷ 0x6E ∷ 0x61 ∷ 0x63 ∷ 0x6B ∷ 0x3E ∷ 0x31 ∷ 0x0A ∷ [])

-- the listing of P12, whose three numbers are different: `states 3 joins 0 distinct 1`, `0 - snack>1`, `1 - snack>2`, `2 +`
abbrev pub repeat_listing : List ℕ
repeat_listing =
    (0x73 ∷ 0x74 ∷ 0x61 ∷ 0x74 ∷ 0x65 ∷ 0x73 ∷ 0x20 ∷ 0x33 ∷ [])
    ++ (0x20 ∷ 0x6A ∷ 0x6F ∷ 0x69 ∷ 0x6E ∷ 0x73 ∷ 0x20 ∷ 0x30 ∷ [])
    ++ (0x20 ∷ 0x64 ∷ 0x69 ∷ 0x73 ∷ 0x74 ∷ 0x69 ∷ 0x6E ∷ 0x63 ∷ 0x74 ∷ 0x20 ∷ 0x31 ∷ 0x0A ∷ [])
    ++ (0x30 ∷ 0x20 ∷ 0x2D ∷ 0x20 ∷ 0x73 ∷ 0x6E ∷ 0x61 ∷ 0x63 ∷ 0x6B ∷ 0x3E ∷ 0x31 ∷ 0x0A ∷ [])
    ++ (0x31 ∷ 0x20 ∷ 0x2D ∷ 0x20 ∷ 0x73 ∷ 0x6E ∷ 0x61 ∷ 0x63 ∷ 0x6B ∷ 0x3E ∷ 0x32 ∷ 0x0A ∷ [])
    ++ (0x32 ∷ 0x20 ∷ 0x2B ∷ 0x0A ∷ [])

-- `refused 4` and a newline
abbrev pub empty_listing : List ℕ
empty_listing = 0x72 ∷ 0x65 ∷ 0x66 ∷ 0x75 ∷ 0x73 ∷ 0x65 ∷ 0x64 ∷ 0x20 ∷ 0x34 ∷ 0x0A ∷ []

-- ---- the test

-- two lists of rows are equal
unfoldable pub same_rows : List Word → List Word → Bool
same_rows [] [] = true
same_rows [] (y ∷ ys) = false
same_rows (x ∷ xs) [] = false
same_rows (x ∷ xs) (y ∷ ys) = same x y && same_rows xs ys

-- all rows of n entries over the four names, by the first different entry
unfoldable pub rows_of_length : ℕ → List Word
rows_of_length zero = [] ∷ []
rows_of_length (suc n) =
    let shorter = rows_of_length n in
    flat_map (λ (x : ℕ). map (λ (row : Word). x ∷ row) shorter) (b ∷ d ∷ l ∷ s ∷ [])

-- all rows of at most four entries
unfoldable pub short_rows : List Word
short_rows = flat_map rows_of_length (0 ∷ 1 ∷ 2 ∷ 3 ∷ 4 ∷ [])

-- the numbers of the accepting states
unfoldable pub accepting_in : List State → List ℕ
accepting_in states = filter_by (λ (i : ℕ). (get_or states i empty_state).accepts) (numbers_from (length states) 0)

-- the walk of the row is as the remark says
unfoldable pub remark_holds : List State → Remark → Bool
remark_holds states r =
    let tells = plain_walk states r.row in
    eqb tells.outcome r.ends
    && eqb (walk states r.row).taken r.taken
    && same tells.beginning r.beginning
    && eqb tells.next_names r.next_names
    && eqb tells.next_count r.next_count

-- the three numbers of a class
abbrev pub class_numbers : Class → List ℕ
class_numbers class = class.kind ∷ class.first ∷ class.second ∷ []

-- the file is all read, and its names, its class and its items are these
unfoldable pub is_file : File → List (List ℕ) → Class → List (List ℕ) → Bool
is_file f names class items =
    eqb f.stage items_met
    && same_rows f.names names
    && same (class_numbers f.class_is) (class_numbers class)
    && same_rows f.items items

-- the day's book is accepted and read as written down, and everything else written down of the day is what the definitions
-- compute of that book; its walks are over the table's bytes, read back
unfoldable pub day_holds : Day → Bool
day_holds day =
    let f = book_of standard day.book_bytes in
    let written = book_table f in
    let states = table_states written in
    eqb (book_fault standard day.book_bytes) 0
    && is_file f meal_names day.class_is day.rows
    && same_rows (tree_of f.items) day.tree
    && same (joined_groups f.class_is f.items) day.groups
    && eqb (length (tree_of f.items)) day.tree_states
    && eqb (length states) day.table_states_fact
    && eqb (joins_of f) day.joins
    && eqb (distinct_of f) day.distinct
    && same written day.table_is
    && eqb (read_table written).number 0
    && is_first_met states
    && same (accepting_in states) day.accepting
    && same_rows (filter_by (admits states) short_rows) day.admitted_rows
    && all (remark_holds states) day.remarks
    && is_full_joining f.class_is f.items day.joining
    && same (table_after f day.joining) day.table_is

-- the example book is accepted and read as it should be; its table and its listing are those printed in docs/SCOPE.md, section 8
unfoldable pub example_holds : Bool
example_holds =
    eqb (book_fault standard example_book) 0
    && is_file (book_of standard example_book) (snack ∷ []) (class_of context_kind 1 1) ((0 ∷ 0 ∷ []) ∷ [])
    && same (book_table (book_of standard example_book)) example_table
    && same (listing_of standard example_book) example_listing
    && same (listing_of standard []) empty_listing

-- the example holds, and the days, the further ones before the twelve; and the repeat of P3 has the table of P3, and the listing
-- written down above
unfoldable pub days_hold : Bool
days_hold =
    example_holds
    && all day_holds further_days
    && all day_holds worked_days
    && same (book_table (book_of standard p12.book_bytes)) (book_table (book_of standard p3.book_bytes))
    && same (listing_of standard p12.book_bytes) repeat_listing

-- ---- what is claimed

-- the days whose tables have no cycle
abbrev pub finite_days : List Day
finite_days = p1 ∷ p3 ∷ p4 ∷ p5 ∷ p6 ∷ p7 ∷ p11 ∷ p12 ∷ q1 ∷ []

-- of all rows, of any length and of any numbers, the states of the day's book admit those written down and no other
abbrev pub AdmitsOnly : Day → Type 0
AdmitsOnly day = (r : Word) → admits (book_states (book_of standard day.book_bytes)) r ≡ has_row r day.admitted_rows

-- the book's states tell the default class: with any other that is allowed they would be others
abbrev pub TellsDefault : Day → Type 0
TellsDefault day =
    (settings : Settings) → Allowed settings →
    book_states (book_of settings day.book_bytes) ≡ book_states (book_of standard day.book_bytes) →
    settings.default_class ≡ standard.default_class

-- all of it
pub record DaysClaimed : Type 0 where
  -- the definitions compute everything that is written down
  pub computed : days_hold ≡ true
  -- on a day whose table has no cycle the rows written down are all that are admitted
  pub any_length : (day : Day) → In day finite_days → AdmitsOnly day
  -- the book of Q3, which has no class field, would have other states with any other default class
  pub default_told : TellsDefault q3
