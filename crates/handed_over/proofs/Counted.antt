-- What is said of builds with counts holds: `counted-handed_over`. First of any such build, then of one that is not refused, then of two.
-- Assumes nothing.
use mathlib.Core.Path.{◌≡◌, refl, sym, ap, ◌∙◌}
use mathlib.Core.Bool.{Bool, true, ◌||◌, or-false, or-true}
use mathlib.Core.List.{List, [], ◌∷◌}
use Prim.Native.Nat.{ℕ, ◌≤◌, ◌<◌}
use native.Mathlib.Omega.{arith}
use borrow.Author.Tests.{ltb-false, lt-ltb}
use lib.Dec.{ltb}
use lib.ListN.{length, get_or}
use Rattle.base.specs.Limits.{counts_bytes, output_too_short}
use Rattle.base.proofs.Tests.{false_or}
use Rattle.model.specs.Tables.{State}
use Rattle.model.specs.Quotients.{book_states, book_table}
use Rattle.model.specs.Calls.{Call, too_short, fronts, fault_with, sizes_fault, book_fault, build_fault, table_states}
use Rattle.model.specs.Claims.{Accepted}
use Rattle.model.proofs.FieldLaws.{first_of_lem, when-none}
use Rattle.model.proofs.CallLaws.{refusal_is, answered, untouched, wrote, call-short, front_of_lem}
use Rattle.model.proofs.Demands.{demands}
use Rattle.counts.specs.Counts.{counts_file, book_counts}
use Rattle.counts.specs.Claims.{SameBag}
use Rattle.counts.proofs.Written.{book_counts-length}
use Rattle.counts.proofs.Claims.{counts_hold}
use Rattle.results.specs.declared.Counted.{Counted}
use Rattle.results.specs.Says.{building_counted, uncounted}
use Rattle.book_calls.proofs.BuildLaws.{as_built}
use Rattle.handed_over.specs.Handed.{HandedOver}
use Rattle.handed_over.proofs.Handed.{build_handed_over}
use Rattle.handed_over.specs.Counted.{CountedBuild, book_counted, table_written, counts_written, AsBuilt}
use Rattle.handed_over.specs.Counted.{OnlyTooShort, CountedHandedOver}

module _ (b : CountedBuild) where
  -- the call, and its outputs
  abbrev call : Call Counted
  call = building_counted b.settings true b.book b.work

  abbrev outs : List (List ℕ)
  outs = b.out ∷ (b.counts ∷ [])

  abbrev fault : ℕ
  fault = build_fault b.settings b.book b.work

  -- a book that is not refused is accepted
  book_accepted : fault ≡ 0 → Accepted b.settings b.book
  unfolding build_fault
  book_accepted none = (first_of_lem (sizes_fault b.book b.work) (book_fault b.settings b.book) none).1

  built-where : (fault ≡ 0 → length (book_counts (book_counted b)) ≤ length b.counts) → AsBuilt b
  unfolding book_counts
  built-where room =
      record {
        gives =
            as_built b.settings true b.book b.work b.out b.out' b.counts b.counts' b.result room
            b.says.gives;
        same_length = b.says.same_length;
        work_zero = b.says.work_zero;
      }

  enough : counts_bytes ≤ length b.counts → AsBuilt b
  enough long =
      built-where (λ none. omega (arith, book_counts-length b.settings b.allowed b.book (book_accepted none), long))

  -- whether an output is too short: that of the table, or that of the counts
  short_is :
      too_short call.writes outs
      ≡ (ltb (length b.out) (length (book_table (book_counted b))) || ltb (length b.counts) (length (book_counts (book_counted b))))
  unfolding building_counted too_short book_counts
  short_is =
      ap (λ (t : Bool). ltb (length b.out) (length (book_table (book_counted b))) || t)
      (or-false (ltb (length b.counts) (length (book_counts (book_counted b)))))

  refused-short :
      fault ≡ 0 → length b.counts < length (book_counts (book_counted b)) → OnlyTooShort b
  unfolding building_counted
  refused-short none short =
      let table-short = ltb (length b.out) (length (book_table (book_counted b))) in
      let told : too_short call.writes outs ≡ true =
      short_is
      ∙ ap (λ (t : Bool). table-short || t) (lt-ltb (length b.counts) (length (book_counts (book_counted b))) short)
      ∙ or-true table-short in
      let refused = call-short call outs none told in
      let same = b.says.gives.outputs_are ∙ sym refused.outputs_are in
      record {
        result_is = b.says.gives.answer_is ∙ sym refused.answer_is;
        out_kept = ap (λ (l : List (List ℕ)). get_or l 0 []) same;
        counts_kept = ap (λ (l : List (List ℕ)). get_or l 1 []) same;
      }

  -- refused: both outputs are as they were
  both_kept : 0 < b.result.refusal → (b.out' ≡ b.out) × (b.counts' ≡ b.counts)
  unfolding building_counted
  both_kept some =
      let told = refusal_is b.says.gives (λ (r : Counted). r.refusal) (λ k. refl) refl in
      let same = untouched b.says.gives (record { is = sym told; some = some }) in
      (ap (λ (l : List (List ℕ)). get_or l 0 []) same, ap (λ (l : List (List ℕ)). get_or l 1 []) same)

-- ---- one that is not refused

module _ (b : CountedBuild) (none : b.result.refusal ≡ 0) where
  no_fault : fault_with (call b) (outs b) ≡ 0
  unfolding building_counted
  no_fault = sym (refusal_is b.says.gives (λ (r : Counted). r.refusal) (λ k. refl) refl) ∙ none

  build_passes : fault b ≡ 0
  unfolding building_counted
  build_passes = (first_of_lem (fault b) _ no_fault).0

  ok : Accepted b.settings b.book
  ok = book_accepted b build_passes

  counts_room : length (book_counts (book_counted b)) ≤ length b.counts
  unfolding building_counted
  counts_room =
      let long = when-none (too_short (call b).writes (outs b)) output_too_short (omega arith) (first_of_lem (fault b) _ no_fault).1 in
      let table-short = ltb (length b.out) (length (book_table (book_counted b))) in
      let counts-short = ltb (length b.counts) (length (book_counts (book_counted b))) in
      ltb-false (length b.counts) (length (book_counts (book_counted b)))
      (false_or table-short counts-short (sym (short_is b) ∙ long)).1

  is_build : AsBuilt b
  is_build = built-where b (λ e. counts_room)

  -- what it left in its outputs
  table_is : table_written b ≡ book_table (book_counted b)
  unfolding building_counted fronts
  table_is =
      (front_of_lem (book_table (book_counted b)) b.out b.out' b.result.length
      (ap (λ (l : List (List ℕ)). get_or l 0 []) (wrote b.says.gives no_fault))
      (ap (λ (r : Counted). r.length) (answered b.says.gives no_fault))).bytes_are

  counts_are : counts_written b ≡ book_counts (book_counted b)
  unfolding building_counted fronts book_counts
  counts_are =
      (front_of_lem (book_counts (book_counted b)) b.counts b.counts' b.result.counts_length
      (ap (λ (l : List (List ℕ)). get_or l 1 []) (wrote b.says.gives no_fault))
      (ap (λ (r : Counted). r.counts_length) (answered b.says.gives no_fault))).bytes_are

  read_back : table_states (table_written b) ≡ book_states (book_counted b)
  read_back = ap table_states table_is ∙ (demands.reads_back b.settings b.allowed).same_states b.book ok

  walked : counts_written b ≡ counts_file (table_states (table_written b)) (book_counted b).items
  unfolding book_counts
  walked = counts_are ∙ ap (λ (states : List State). counts_file states (book_counted b).items) (sym read_back)

  -- demand 3, of the build that it is
  demand_3 : HandedOver (book_counted b) (table_written b)
  demand_3 =
      build_handed_over.each_build
      (record {
        settings = b.settings;
        allowed = b.allowed;
        book = b.book;
        work = b.work;
        work' = b.work';
        out = b.out;
        out' = b.out';
        result = uncounted b.result;
        says = is_build;
        not_refused = none;
      })

-- ---- two

same-counts :
    (b c : CountedBuild) → b.result.refusal ≡ 0 → c.result.refusal ≡ 0 → SameBag (book_counted b) (book_counted c) →
    counts_written b ≡ counts_written c
same-counts b c none-b none-c bag =
    counts_are b none-b
    ∙ counts_hold.by_bag b.settings c.settings b.book c.book b.allowed c.allowed (ok b none-b) (ok c none-c) bag
    ∙ sym (counts_are c none-c)

-- ---- all of it

pub counted-handed_over : CountedHandedOver
counted-handed_over =
    record {
      as_built = built-where;
      always_enough = enough;
      too_short_fact = refused-short;
      refused = both_kept;
      accepted = is_build;
      handed_over = demand_3;
      by_walking = walked;
      states_are = read_back;
      agree = λ b none. counts_hold.agree b.settings b.allowed b.book (ok b none);
      by_bag = same-counts;
    }
