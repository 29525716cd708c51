-- What a build gives back, with counts where they are wanted: refused for the lent sizes, by the book's own refusals, or as inference gives
-- it; and that its numbers are small. Then the same for the table alone, and what a build that is not refused left in the output. Assumes
-- nothing.
use mathlib.Core.Path.{◌≡◌, refl, sym, ap, ◌∙◌, subst}
use mathlib.Core.Bool.{Bool, true, false}
use mathlib.Core.List.{List, [], ◌∷◌}
use Prim.Native.Nat.{ℕ, ◌≤◌}
use native.Mathlib.Omega.{arith}
use lib.ListN.{length}
use Rattle.base.specs.Limits.{first_of, input_limit, state_limit, counts_bytes}
use Rattle.model.specs.Fields.{File, Settings, Allowed, read_book}
use Rattle.model.specs.Fields as fields
use Rattle.model.specs.Quotients.{book_states, book_table}
use Rattle.model.specs.Calls.{Gives, fault_with, sizes_fault, book_of, tree_fault, book_fault, build_fault, joins_of, distinct_of}
use Rattle.model.specs.Claims.{Accepted}
use Rattle.model.proofs.FieldLaws.{first_of_lem}
use Rattle.model.proofs.CallLaws.{refuses_first, refuses_then, refuses_none, call-refused, seen_as_lem, refusal_is, answer_by, answered}
use Rattle.model.proofs.CallLaws.{one_wrote, first_alone, FrontOf, front_of_lem}
use Rattle.model.proofs.DifferentRows.{different_nodes}
use Rattle.model.proofs.Demands.{accepted_tree, states_few, table_length}
use Rattle.counts.specs.Counts.{counts_if, book_counts}
use Rattle.counts.proofs.Written.{book_counts-length}
use Rattle.fields.specs.Places.{file_of, ReadAs}
use Rattle.fields.specs.declared.Place.{Place}
use Rattle.fields.proofs.Parts.{accepted_number, accepted_file-is, refused-number}
use Rattle.fields.proofs.PlaceLaws.{number_some}
use Rattle.base.specs.Refusals.{number_of}
use Rattle.std.specs.Prelude.{Result, Ok, Err}
use Rattle.base.specs.declared.refusals.Refusal.{Refusal}
use Rattle.inference.specs.Results.{inferring, Infers, numbered}
use Rattle.inference.specs.declared.Inferred.{Inferred}
use Rattle.results.specs.declared.Built.{Built}
use Rattle.results.specs.declared.Counted.{Counted}
use Rattle.results.specs.Says.{building, counted, not_counted, uncounted, building_counted}

-- ---- how large the numbers of an accepted book are

pub joins_few : (settings : Settings) (s : List ℕ) → Accepted settings s → joins_of (book_of settings s) ≤ state_limit
unfolding joins_of
joins_few settings s ok = omega (arith, accepted_tree settings s ok)

pub distinct_few : (settings : Settings) (s : List ℕ) → Accepted settings s → distinct_of (book_of settings s) ≤ state_limit
unfolding distinct_of
distinct_few settings s ok = omega (arith, different_nodes (book_of settings s).items, accepted_tree settings s ok)

-- ---- what the reader's answer says of the book

pub record BookRead (settings : Settings) (s : List ℕ) (p : Place) : Type 0 where
  pub no_refusal : (read_book settings s).number ≡ 0
  pub file_is : file_of s p ≡ book_of settings s

book_read_as :
    (settings : Settings) (s : List ℕ) (p : Place) → ReadAs settings fields.book s (Ok p) → BookRead settings s p
unfolding book_of
book_read_as settings s p read =
    record {
      no_refusal = accepted_number settings fields.book s p read;
      file_is = sym (accepted_file-is settings fields.book s p read);
    }

-- ---- what a build gives back

-- what inference gives back, as a build's result
abbrev pub as_counted : Result Inferred ℕ → Counted
as_counted (Ok i) = counted 0 i.length i.states i.joins i.distinct i.counts
as_counted (Err k) = not_counted k

-- its numbers are at most what they are for an accepted book
pub record Small (i : Inferred) : Type 0 where
  pub length_small : i.length ≤ input_limit
  pub states_small : i.states ≤ state_limit
  pub joins_small : i.joins ≤ state_limit
  pub distinct_small : i.distinct ≤ state_limit
  pub counts_small : i.counts ≤ counts_bytes

abbrev SmallOf : Result Inferred ℕ → Type 0
SmallOf (Ok i) = Small i
SmallOf (Err k) = Unit {0}

module _ (settings : Settings) (wanted : Bool) (book work : List ℕ) (outs : List (List ℕ)) where
  pub build_sizes_refused :
      (k : Refusal) → number_of k ≡ sizes_fault book work →
      Gives (building_counted settings wanted book work) outs outs (not_counted (number_of k))
  unfolding building_counted build_fault
  build_sizes_refused k e =
      call-refused (building_counted settings wanted book work) outs
      (refuses_first _ (record { is = sym e; some = number_some k }))

  pub build_fields_refused :
      (k : Refusal) → sizes_fault book work ≡ 0 → ReadAs settings fields.book book (Err k) →
      Gives (building_counted settings wanted book work) outs outs (not_counted (number_of k))
  unfolding building_counted build_fault book_fault
  build_fields_refused k sized read =
      call-refused (building_counted settings wanted book work) outs
      (refuses_then sized (refuses_first _ (record { is = refused-number settings fields.book book k read; some = read.kept })))

  -- a book that is read comes to what inference refuses
  refusal_inferred :
      sizes_fault book work ≡ 0 → (read_book settings book).number ≡ 0 →
      (inferring wanted (book_of settings book)).refusal ≡ build_fault settings book work
  unfolding inferring build_fault book_fault
  refusal_inferred fit e =
      sym (ap (λ (n : ℕ). first_of n (book_fault settings book)) fit
      ∙ ap (λ (n : ℕ). first_of n (tree_fault (book_of settings book).items)) e)

  build_inferred :
      (outs' : List (List ℕ)) (i : Result Inferred Refusal) → sizes_fault book work ≡ 0 → (read_book settings book).number ≡ 0 →
      Infers wanted (book_of settings book) outs outs' i →
      Gives (building_counted settings wanted book work) outs outs' (as_counted (numbered i))
  unfolding building_counted inferring
  build_inferred outs' i fit e gives =
      let f = book_of settings book in
      let counts = counts_if wanted (book_states f) f.items in
      subst (λ (k : ℕ).
      Gives
      (record {
        refusal = k;
        none = not_counted;
        answer = counted 0 (length (book_table f)) (length (book_states f)) (joins_of f) (distinct_of f) (length counts);
        writes = book_table f ∷ (counts ∷ []);
      })
      outs outs' (as_counted (numbered i)))
      (refusal_inferred fit e)
      (seen_as_lem as_counted (inferring wanted f) outs outs' (numbered i) gives)

  -- the counts are few, wanted or not
  counts_few :
      Allowed settings → Accepted settings book →
      length (counts_if wanted (book_states (book_of settings book)) (book_of settings book).items) ≤ counts_bytes
  unfolding book_counts
  counts_few allowed ok = go wanted
    where
      all : length (book_counts (book_of settings book)) ≤ counts_bytes
      all = book_counts-length settings allowed book ok

      go : (b : Bool) → length (counts_if b (book_states (book_of settings book)) (book_of settings book).items) ≤ counts_bytes
      go true = all
      go false = omega arith

  module _ (p : Place) (read : ReadAs settings fields.book book (Ok p)) (outs' : List (List ℕ)) where
    -- what inference gives back of the place is what it gives back of the book
    of_book :
        (i : Result Inferred Refusal) → Infers wanted (file_of book p) outs outs' i →
        Infers wanted (book_of settings book) outs outs' i
    of_book i gives = subst (λ (f : File). Infers wanted f outs outs' i) (book_read_as settings book p read).file_is gives

    pub build_from :
        (i : Result Inferred Refusal) → sizes_fault book work ≡ 0 → Infers wanted (file_of book p) outs outs' i →
        Gives (building_counted settings wanted book work) outs outs' (as_counted (numbered i))
    build_from i fit gives = build_inferred outs' i fit (book_read_as settings book p read).no_refusal (of_book i gives)

    pub inferred_small : {i : Inferred} → Allowed settings → Infers wanted (file_of book p) outs outs' (Ok i) → Small i
    unfolding inferring book_fault
    inferred_small {i} allowed gives =
        let e = (book_read_as settings book p read).no_refusal in
        answer_by (of_book (Ok i) gives) SmallOf
        (λ k. tt)
        (λ none.
        let few : tree_fault (book_of settings book).items ≡ 0 = (first_of_lem _ _ none).0 in
        let ok : Accepted settings book = refuses_none e few in
        record {
          length_small = omega (arith, table_length settings allowed book ok);
          states_small = omega (arith, states_few (book_of settings book), accepted_tree settings book ok);
          joins_small = joins_few settings book ok;
          distinct_small = distinct_few settings book ok;
          counts_small = counts_few allowed ok;
        })

-- ---- the table alone

-- where the other output is long enough for the counts that are wanted, a build with counts is the build that has none
pub as_built :
    (settings : Settings) (wanted : Bool) (book work out out' counts counts' : List ℕ) (r : Counted) →
    (build_fault settings book work ≡ 0 →
    length (counts_if wanted (book_states (book_of settings book)) (book_of settings book).items) ≤ length counts) →
    Gives (building_counted settings wanted book work) (out ∷ (counts ∷ [])) (out' ∷ (counts' ∷ [])) r →
    Gives (building settings book work) (out ∷ []) (out' ∷ []) (uncounted r)
unfolding building building_counted
as_built settings wanted book work out out' counts counts' r room gives =
    first_alone (building_counted settings wanted book work) (book_table (book_of settings book))
    (counts_if wanted (book_states (book_of settings book)) (book_of settings book).items) out counts refl uncounted out' counts' r room
    gives

-- ---- what a build that is not refused left in the output

pub record Front (settings : Settings) (book work out out' : List ℕ) (r : Built) : Type 0 where
  pub not_refused : build_fault settings book work ≡ 0
  pub answer_is : r ≡ (building settings book work).answer
  pub at_front : FrontOf (book_table (book_of settings book)) out' r.length

pub built-front :
    (settings : Settings) (book work out out' : List ℕ) (r : Built) →
    Gives (building settings book work) (out ∷ []) (out' ∷ []) r → r.refusal ≡ 0 → Front settings book work out out' r
unfolding building
built-front settings book work out out' r gives none =
    let fault : fault_with (building settings book work) (out ∷ []) ≡ 0 =
    sym (refusal_is gives (λ (b : Built). b.refusal) (λ k. refl) refl) ∙ none in
    let is = answered gives fault in
    record {
      not_refused = (first_of_lem (build_fault settings book work) _ fault).0;
      answer_is = is;
      at_front =
          front_of_lem (book_table (book_of settings book)) out out' r.length
          (one_wrote (building settings book work) (book_table (book_of settings book)) out refl out' r gives fault)
          (ap (λ (b : Built). b.length) is);
    }
