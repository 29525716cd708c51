-- What the listing program prints: with so much lent a listing is refused by the input alone, and the program prints the listing, or
-- the text of the refusal; for callers, what is printed lies within the text. Assumes nothing.
use mathlib.Core.Path.{◌≡◌, refl, sym, ap, ◌∙◌}
use mathlib.Core.Bool.{false, or-false}
use mathlib.Core.List.{List, [], ◌∷◌}
use Prim.Native.Nat.{ℕ, ◌≤◌, ◌<◌}
use native.Mathlib.Omega.{arith}
use borrow.Author.Tests.{le-ltb, eq-eqb, ne_eqb}
use lib.Dec.{eqb, ltb}
use lib.ListN.{length, get_or}
use Rattle.base.specs.Limits.{when, first_of, input_limit, work_bytes, listing_bytes, bad_sizes}
use Rattle.model.specs.Fields.{Settings, Allowed}
use Rattle.model.specs.Calls.{Says, too_short, fault_with, over, sizes_fault, book_of, book_fault, build_fault}
use Rattle.model.specs.Listing.{book_listing, refusal_text, listing_fault, listing_of}
use Rattle.model.proofs.FieldLaws.{first_of_lem}
use Rattle.model.proofs.CallLaws.{call_answered, refusal_is, answered, untouched, fault_roomy, short_is, one_wrote, front_of_lem}
use Rattle.writing.proofs.WritingLaws.{written-from_zero}
use Rattle.writing.specs.Writing.{Put}
use Rattle.results.specs.declared.Written.{Written}
use Rattle.results.specs.Says.{listing_book, ListSays, printing, PrintSays}
use Rattle.book_calls.proofs.ListLaws.{listing-short}

module _
    (settings : Settings) (allowed : Allowed settings) (book work work' text : List ℕ)
    (work_fits : work_bytes ≤ length work) (text-fits : listing_bytes ≤ length text) where
  sizes-are : sizes_fault book work ≡ when (ltb input_limit (length book)) bad_sizes
  unfolding sizes_fault
  sizes-are = rw (le-ltb (length work) work_bytes work_fits, or-false (ltb input_limit (length book)))

  -- with so much lent neither the working area nor the text is refused
  fault_is : fault_with (listing_book settings book work) (text ∷ []) ≡ listing_fault settings book
  unfolding listing_book listing_fault build_fault
  fault_is =
      let room : build_fault settings book work ≡ 0 → too_short (listing_book settings book work).writes (text ∷ []) ≡ false =
      λ (none : build_fault settings book work ≡ 0).
      short_is (listing_book settings book work) (book_listing (book_of settings book)) text refl
      ∙ le-ltb (length text) (length (book_listing (book_of settings book)))
      (omega (
        arith,
        text-fits,
        listing-short settings allowed book (first_of_lem (sizes_fault book work) (book_fault settings book) none).1,
      )) in
      fault_roomy (listing_book settings book work) (text ∷ []) room ∙ ap (λ (n : ℕ). first_of n (book_fault settings book)) sizes-are

  refusal_printed : (number : ℕ) → listing_fault settings book ≡ number → 0 < number → listing_of settings book ≡ refusal_text number
  unfolding listing_of
  refusal_printed number e some =
      let fault = listing_fault settings book in
      let refuses : eqb fault 0 ≡ false = ne_eqb fault 0 (λ (z : fault ≡ 0). omega arith) in
      let printed : listing_of settings book ≡ refusal_text (listing_fault settings book) = rw (refuses, listing_of) in
      printed ∙ ap refusal_text e

  listing-printed : listing_fault settings book ≡ 0 → listing_of settings book ≡ book_listing (book_of settings book)
  unfolding listing_of
  listing-printed e = rw (eq-eqb (listing_fault settings book) 0 e, listing_of)

  module _ (text₁ : List ℕ) (r : Written) (says : ListSays settings book work work' text text₁ r) where
    fault-told : r.refusal ≡ listing_fault settings book
    unfolding listing_book
    fault-told = refusal_is says.gives (λ (w : Written). w.refusal) (λ k. refl) refl ∙ fault_is

    -- a length told, and the working area as listing left it
    told : {after : ℕ} → after ≡ length (listing_of settings book) → Says (printing settings book) work work' [] [] after
    unfolding printing
    told e =
        record {
          gives = call_answered (printing settings book) refl refl e;
          same_length = says.same_length;
          work_zero = says.work_zero;
        }

    pub prints-refusal :
        (text' : List ℕ) (after : ℕ) → 0 < r.refusal → Put text₁ text' 0 (refusal_text r.refusal) after →
        PrintSays settings book work work' text text' after
    prints-refusal text' after some puts =
        let bytes = refusal_text r.refusal in
        let same : text₁ ≡ text =
        ap (λ (l : List (List ℕ)). get_or l 0 [])
        (untouched says.gives (record { is = fault_is ∙ sym fault-told; some = some })) in
        let printed : bytes ≡ listing_of settings book = sym (refusal_printed r.refusal (sym fault-told) some) in
        record {
          says = told (omega (arith, puts.ends, ap length printed));
          text_is =
              written-from_zero puts.written ∙ ap (λ (l : List ℕ). over bytes l) same ∙ ap (λ (l : List ℕ). over l text) printed;
        }

    pub prints-listing : r.refusal ≡ 0 → PrintSays settings book work work' text text₁ r.length
    unfolding listing_book
    prints-listing accepted =
        let none : fault_with (listing_book settings book work) (text ∷ []) ≡ 0 = fault_is ∙ sym fault-told ∙ accepted in
        let printed = sym (listing-printed (sym fault-told ∙ accepted)) in
        record {
          says = told (ap (λ (w : Written). w.length) (answered says.gives none) ∙ ap length printed);
          text_is =
              one_wrote (listing_book settings book work) (book_listing (book_of settings book)) text refl text₁ r says.gives none
              ∙ ap (λ (l : List ℕ). over l text) printed;
        }

-- what is printed lies within the text
pub printed_within :
    {settings : Settings} {book work work' text text' : List ℕ} {r : ℕ} → PrintSays settings book work work' text text' r →
    r ≤ length text'
unfolding printing too_short
printed_within {settings} {book} {work} {work'} {text} {text'} {r} prints =
    (front_of_lem (listing_of settings book) text text' r prints.text_is (answered prints.says.gives refl)).within
