-- All that is claimed: `demands`. First what an accepted book and two like books give, then demand 3, whole, then that tables
-- read back as they were written and are rewritten to the same bytes, then the number of different rows. Assumes nothing.
use mathlib.Core.Path.{◌≡◌, refl, sym, ap, ◌∙◌, subst}
use mathlib.Core.Logic.{◌↔◌}
use mathlib.Core.Bool.{true}
use mathlib.Core.List.Memᴰ
use mathlib.Core.List.Memᴰ.{head as here}
use mathlib.Core.List.{List, ◌++◌, map, Memᴰ as In}
use Prim.Native.Nat.{ℕ, ◌≤◌, ◌<◌}
use native.Mathlib.Omega.{arith}
use lib.Dec.{ltb}
use lib.ListN.{length}
use borrow.Author.Tests.{ltb-false}
use Rattle.base.specs.Limits.{state_limit, work_bytes, table_bytes, tree_too_large}
use Rattle.model.specs.Fields.{Settings, Allowed, File, file, Class, Read, read_book, read_table, accepted_file}
use Rattle.model.specs.Tables.{State, state_body, states_in, is_first_met, bytes_of_table}
use Rattle.model.specs.Classes.{Word}
use Rattle.model.specs.Joinings.{Step, tree_of, apart, is_full_joining, after_steps, joined_groups}
use Rattle.model.specs.Quotients.{states_of, book_states, book_table, table_after}
use Rattle.model.specs.Calls.{book_of, tree_fault, book_fault, distinct_of, table_of, table_fault, table_states}
use Rattle.model.specs.Claims.{Accepted, SameBook, DefiningJoining, Demand3}
use Rattle.model.specs.Claims.{SameBytes, ReadsBack, DifferentRows, Demands}
use Rattle.base.proofs.Lists.{same_length}
use Rattle.base.proofs.Tests.{tells_has_row}
use Rattle.model.proofs.Notions.{◌▸◌}
use Rattle.model.proofs.Trees.{tree_of-tree, node_begins_row, same_nodes}
use Rattle.model.proofs.DifferentRows.{tells_among, different_set, set_size, different_same, different_few}
use Rattle.model.proofs.DifferentRows.{different_some, accepting_nodes_lem}
use Rattle.model.proofs.Ends.{joined_is_full_joining}
use Rattle.model.proofs.FirstMet.{met-few, states-length}
use Rattle.model.proofs.Joined.{Joined, joining_joined, joined_groups-joined, joined_deterministic, joined_states}
use Rattle.model.proofs.InTheClass.{admits-row, admits-in_class, admits-smallest}
use Rattle.model.proofs.Writable.{Writable}
use Rattle.model.proofs.FieldLaws.{first_of_lem, when-none}
use Rattle.model.proofs.CallLaws.{table_accepted}
use Rattle.model.proofs.StateBodies.{states_read_back}
use Rattle.model.proofs.WritableStates.{states_writable}
use Rattle.model.proofs.Identified.{among_itself}
use Rattle.model.proofs.RowBooks.{rows_make_books}
use Rattle.model.proofs.Reading.{accepted_has_row, accepted_row, reads-written, written-length, rewrites_same}

-- ---- what an accepted book and a like book give

-- the prefix tree of an accepted book is within its limit
pub accepted_tree :
    (settings : Settings) (s : List ℕ) → Accepted settings s → length (tree_of (book_of settings s).items) ≤ state_limit
unfolding book_fault
accepted_tree settings s ok =
    let rows = (book_of settings s).items in
    let none = (first_of_lem (read_book settings s).number (tree_fault rows) ok).1 in
    ltb-false state_limit (length (tree_of rows))
    (when-none (ltb state_limit (length (tree_of rows))) tree_too_large (omega arith) none)

-- a book is like itself
like_itself : (f : File) → SameBook f f
like_itself f =
    let rows = among_itself f.items in
    record { names_same = refl; class_same = refl; rows_there = rows; rows_back = rows }

-- like books have the same set of rows
same_rows : (f g : File) → SameBook f g → (r : Word) → In r f.items ↔ In r g.items
same_rows f g same r =
    ((tells_among f.items g.items).fact same.rows_there r, (tells_among g.items f.items).fact same.rows_back r)

-- and prefix trees of one size
pub tree_size_same : (f g : File) → SameBook f g → length (tree_of f.items) ≡ length (tree_of g.items)
tree_size_same f g same =
    same_length (tree_of f.items) (tree_of g.items) (tree_of-tree f.items).distinct (tree_of-tree g.items).distinct
    (same_nodes f.items g.items (λ r. (same_rows f g same r).0))
    (same_nodes g.items f.items (λ r. (same_rows f g same r).1))

-- a book has at most as many states as its prefix tree
pub states_few : (f : File) → length (book_states f) ≤ length (tree_of f.items)
unfolding book_states
states_few f =
    let nodes = tree_of f.items in
    let groups = joined_groups f.class_is f.items in
    let fits = (joined_groups-joined f.class_is f.items).fits in
    let few = met-few nodes groups (tree_of-tree f.items) fits in
    let size = states-length nodes groups (tree_of-tree f.items) fits f.items in
    omega arith

-- ---- demand 3

-- every full joining of a book like f has f's table
table_any_order :
    (f g : File) (steps : List Step) → SameBook f g → is_full_joining g.class_is g.items steps ≡ true →
    table_after g steps ≡ book_table f
unfolding table_after book_table book_states
table_any_order f g steps same full =
    let c : Class = f.class_is in
    let groups : List ℕ = after_steps (apart (tree_of g.items)) steps in
    let joined : Joined c g.items groups =
    subst (λ (d : Class). Joined d g.items groups) (sym same.class_same)
    (joining_joined g.class_is g.items steps full) in
    let states : states_of g.items (tree_of g.items) groups ≡ book_states f =
    joined_states c g.items f.items groups (joined_groups c f.items)
    (λ r. ((same_rows f g same r).1, (same_rows f g same r).0)) joined (joined_groups-joined c f.items) in
    ap (λ (ss : List State). bytes_of_table g.names g.class_is ss) states
    ∙ ap (λ (d : Class). bytes_of_table g.names d (book_states f)) (sym same.class_same)
    ∙ ap (λ (ns : List (List ℕ)). bytes_of_table ns c (book_states f)) (sym same.names_same)

-- the joining that defines a book's table is one of its full joinings
defining_joining : (f : File) → DefiningJoining f
defining_joining f =
    let j = joined_is_full_joining f.class_is f.items in
    record { steps = j.0; full_joining = j.1; groups_are = j.2 }

-- and the table after its steps is the book's
defining_table : (f : File) (j : DefiningJoining f) → table_after f j.steps ≡ book_table f
unfolding table_after book_table book_states
defining_table f j =
    ap (λ (gs : List ℕ). bytes_of_table f.names f.class_is (states_of f.items (tree_of f.items) gs)) j.groups_are

-- like books have one table
table_same : (f g : File) → SameBook f g → book_table f ≡ book_table g
table_same f g same =
    let j = defining_joining g in
    sym (table_any_order f g j.steps same j.full_joining) ∙ defining_table g j

-- the book's own joining
joined : (f : File) → Joined f.class_is f.items (joined_groups f.class_is f.items)
joined f = joined_groups-joined f.class_is f.items

-- demand 3, part by part
pub demand_3 : (settings : Settings) → Allowed settings → Demand3 settings
unfolding book_states
demand_3 settings allowed =
    record {
      any_order = λ others s t steps ok-s ok-t same full. table_any_order (book_of settings s) (book_of others t) steps same full;
      book_itself = λ s. like_itself (book_of settings s);
      same_table = λ others s t ok-s ok-t same. table_same (book_of settings s) (book_of others t) same;
      some_joining = λ s ok. defining_joining (book_of settings s);
      rows_admitted = λ s r ok m.
          let f = book_of settings s in
          admits-row f.class_is f.items (joined_groups f.class_is f.items) (joined f) r
          ((tells_has_row r f.items).fact m);
      in_class = λ s ok.
          let f = book_of settings s in
          admits-in_class f.class_is f.items (joined_groups f.class_is f.items) (joined f);
      smallest = λ s l ok l-in-class holds r e.
          let f = book_of settings s in
          let first-row = accepted_has_row settings allowed s ok in
          admits-smallest f.class_is f.items (joined_groups f.class_is f.items) (joined f) l l-in-class
          (λ q m. holds q ((tells_has_row q f.items).test m)) first-row.0 first-row.1 r e;
    }

-- ---- tables read back

module _ (settings : Settings) (allowed : Allowed settings) where
  -- what build writes can be read
  pub book_writable :
      (s : List ℕ) → Accepted settings s → Writable (length (book_of settings s).names) (book_states (book_of settings s))
  unfolding book_states
  book_writable s ok =
      let f = book_of settings s in
      let groups = joined_groups f.class_is f.items in
      states_writable f.items (tree_of f.items) groups (length f.names) (tree_of-tree f.items) (joined f).fits
      (joined_deterministic f.class_is f.items groups (joined f)) (accepted_tree settings s ok) (name_below s ok)
    where
      name_below :
          (s : List ℕ) → Accepted settings s → (w : Word) (a : ℕ) → In (w ▸ a) (tree_of (book_of settings s).items) →
          a < length (book_of settings s).names
      name_below s ok w a m =
          let first-row = accepted_has_row settings allowed s ok in
          let b = node_begins_row (book_of settings s).items first-row.0 first-row.1 (w ▸ a) m in
          (accepted_row settings allowed s ok ((w ▸ a) ++ b.0) b.1).1 a
          (Memᴰ.append_left b.0 (Memᴰ.append_right w (here refl)))

  -- the table of a book is read back: its names, its class and its states
  pub read_table_lem :
      (s : List ℕ) → Accepted settings s →
      read_table (book_table (book_of settings s))
      ≡ accepted_file (file 3 (book_of settings s).names (book_of settings s).class_is (map state_body (book_states (book_of settings s))))
  unfolding book_table
  read_table_lem s ok = reads-written settings allowed s (book_states (book_of settings s)) ok (book_writable s ok)

  -- and its states are the book's
  read_states : (s : List ℕ) → Accepted settings s → table_states (book_table (book_of settings s)) ≡ book_states (book_of settings s)
  unfolding table_states table_of
  read_states s ok =
      ap (λ (r : Read). states_in r.file_is.items) (read_table_lem s ok)
      ∙ states_read_back (book_states (book_of settings s))

  -- it takes few bytes
  pub table_length : (s : List ℕ) → Accepted settings s → length (book_table (book_of settings s)) ≤ table_bytes
  unfolding book_table
  table_length s ok = written-length settings allowed s (book_states (book_of settings s)) ok (book_writable s ok)

  -- so it is accepted, where there is room to work
  read_no_fault :
      (s work : List ℕ) → Accepted settings s → work_bytes ≤ length work → table_fault (book_table (book_of settings s)) work ≡ 0
  read_no_fault s work ok long =
      table_accepted (book_table (book_of settings s)) work
      (record { input_fits = omega (arith, table_length s ok); work_fits = long })
      (ap (λ (r : Read). r.number) (read_table_lem s ok)) (ap is_first_met (read_states s ok) ∙ (book_writable s ok).first_met)

  -- tables read back as they were written
  pub reads_back : ReadsBack settings
  reads_back = record { accepted_again = read_no_fault; same_states = read_states }

-- an accepted table is rewritten to the same bytes
pub same_bytes : SameBytes
same_bytes = record { rewrites = rewrites_same }

-- how many different rows a book has
different_rows_fact : DifferentRows
unfolding distinct_of
different_rows_fact =
    record {
      is_set = λ f. different_set f.items;
      set_size = λ f set s. set_size f.items set s;
      same_number = λ f g there back.
          different_same f.items g.items ((tells_among f.items g.items).fact there)
          ((tells_among g.items f.items).fact back);
      few = λ f. different_few f.items;
      some = λ settings allowed s ok.
          let first-row = accepted_has_row settings allowed s ok in
          different_some (book_of settings s).items first-row.0 first-row.1;
      accepting = λ f. accepting_nodes_lem f.items;
    }

-- all that is claimed
pub demands : Demands
demands =
    record {
      third = demand_3;
      same_bytes = same_bytes;
      reads_back = reads_back;
      rows_make_books = rows_make_books;
      different_rows_fact = different_rows_fact;
    }
