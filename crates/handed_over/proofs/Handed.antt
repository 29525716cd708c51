-- What builds write is the table that demand 3 speaks of: `build_handed_over`. First of a book's table, then of a build, then of
-- two. Assumes nothing.
use mathlib.Core.Path.{◌≡◌, sym, ap, ap₂, ◌∙◌, subst}
use mathlib.Core.Bool.{true}
use mathlib.Core.List.{List}
use Prim.Native.Nat.{ℕ, ◌-◌}
use native.Mathlib.Omega.{arith}
use lib.ListN.{length}
use Rattle.model.specs.Fields.{Settings, Allowed}
use Rattle.model.specs.Tables.{State, admits}
use Rattle.model.specs.Classes.{Word, InClass}
use Rattle.model.specs.Quotients.{book_states, book_table}
use Rattle.model.specs.Calls.{sizes_fault, book_of, book_fault, build_fault, joins_of, distinct_of, table_states}
use Rattle.model.specs.Claims.{Accepted, SameBook}
use Rattle.model.proofs.FieldLaws.{first_of_lem}
use Rattle.model.proofs.Demands.{tree_size_same, demands}
use Rattle.results.specs.declared.Built.{Built}
use Rattle.results.specs.Says.{building}
use Rattle.book_calls.proofs.BuildLaws.{Front, built-front}
use Rattle.handed_over.specs.Handed.{HandedOver, AcceptedBuild, book_in, written, SameResults, BuildHandedOver}

-- ---- a book's table

-- it is handed over with demand 3
table_handed_over :
    (settings : Settings) → Allowed settings → (book : List ℕ) → Accepted settings book →
    HandedOver (book_of settings book) (book_table (book_of settings book))
table_handed_over settings allowed book ok =
    let third = demands.third settings allowed in
    let joining = third.some_joining book ok in
    let f = book_of settings book in
    let same : book_states f ≡ table_states (book_table f) = sym ((demands.reads_back settings allowed).same_states book ok) in
    record {
      any_order = λ others other steps other-ok like full. third.any_order others book other steps ok other-ok like full;
      book_itself = third.book_itself book;
      some_joining = joining;
      its_table = third.any_order settings book book joining.steps ok ok (third.book_itself book) joining.full_joining;
      rows_admitted = λ r m. ap (λ (ss : List State). admits ss r) (sym same) ∙ third.rows_admitted book r ok m;
      in_class =
          subst (λ (ss : List State). InClass f.class_is (λ (r : Word). admits ss r ≡ true)) same
          (third.in_class book ok);
      smallest = λ l l-in-class holds r e.
          third.smallest book l ok l-in-class holds r (ap (λ (ss : List State). admits ss r) same ∙ e);
    }

-- ---- one build

-- what it left in the output
front : (b : AcceptedBuild) → Front b.settings b.book b.work b.out b.out' b.result
front b =
    built-front b.settings b.book b.work b.out b.out' b.result b.says.gives b.not_refused

-- what it wrote
pub written_is : (b : AcceptedBuild) → written b ≡ book_table (book_in b)
written_is b = (front b).at_front.bytes_are

-- its book is accepted
pub book_accepted : (b : AcceptedBuild) → Accepted b.settings b.book
unfolding build_fault
book_accepted b = (first_of_lem (sizes_fault b.book b.work) (book_fault b.settings b.book) (front b).not_refused).1

-- its numbers
length-is : (b : AcceptedBuild) → b.result.length ≡ length (book_table (book_in b))
unfolding building
length-is b = ap (λ (r : Built). r.length) (front b).answer_is

states_are : (b : AcceptedBuild) → b.result.states ≡ length (book_states (book_in b))
unfolding building
states_are b = ap (λ (r : Built). r.states) (front b).answer_is

joins_are : (b : AcceptedBuild) → b.result.joins ≡ joins_of (book_in b)
unfolding building
joins_are b = ap (λ (r : Built). r.joins) (front b).answer_is

distinct_is : (b : AcceptedBuild) → b.result.distinct ≡ distinct_of (book_in b)
unfolding building
distinct_is b = ap (λ (r : Built). r.distinct) (front b).answer_is

handed_over : (b : AcceptedBuild) → HandedOver (book_in b) (written b)
handed_over b =
    subst (λ (bytes : List ℕ). HandedOver (book_in b) bytes) (sym (written_is b))
    (table_handed_over b.settings b.allowed b.book (book_accepted b))

-- ---- two builds

module _ (b c : AcceptedBuild) (like : SameBook (book_in b) (book_in c)) where
  tables_same : book_table (book_in b) ≡ book_table (book_in c)
  tables_same =
      (demands.third b.settings b.allowed).same_table c.settings b.book c.book (book_accepted b) (book_accepted c) like

  book_states-same : book_states (book_in b) ≡ book_states (book_in c)
  book_states-same =
      sym ((demands.reads_back b.settings b.allowed).same_states b.book (book_accepted b))
      ∙ ap table_states tables_same
      ∙ (demands.reads_back c.settings c.allowed).same_states c.book (book_accepted c)

  book_joins_same : joins_of (book_in b) ≡ joins_of (book_in c)
  unfolding joins_of
  book_joins_same =
      ap₂ (λ (m n : ℕ). m - n) (tree_size_same (book_in b) (book_in c) like) (ap length book_states-same)

  same-results : SameResults b c
  same-results =
      record {
        bytes_same = written_is b ∙ tables_same ∙ sym (written_is c);
        lengths_same = omega (arith, length-is b, ap length tables_same, length-is c);
        states_same = omega (arith, states_are b, ap length book_states-same, states_are c);
        joins_same = omega (arith, joins_are b, book_joins_same, joins_are c);
        distinct_same =
            omega (
              arith,
              distinct_is b,
              demands.different_rows_fact.same_number (book_in b) (book_in c) like.rows_there like.rows_back,
              distinct_is c,
            );
      }

-- ---- all of it

pub build_handed_over : BuildHandedOver
build_handed_over = record { each_build = handed_over; two_builds = same-results }
