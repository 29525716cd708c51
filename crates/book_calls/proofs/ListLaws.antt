-- What a listing comes to: refused as a build is, or for the text's length; otherwise the listing of the table that was built, which
-- is read back as it was written. Assumes nothing.
use mathlib.Core.Path.{◌≡◌, refl, sym, ap, ◌∙◌, subst}
use mathlib.Core.Bool.{false}
use mathlib.Core.List.{List, [], ◌∷◌}
use Prim.Native.Nat.{ℕ, ◌≤◌, ◌<◌}
use native.Mathlib.Omega.{arith}
use borrow.Author.Tests.{le-ltb}
use lib.ListN.{length, take}
use Rattle.base.specs.Limits.{work_bytes, table_bytes, listing_bytes, number_limit, output_too_short}
use Rattle.model.specs.Fields.{Settings, Allowed, Read, read_table}
use Rattle.model.specs.Tables.{State}
use Rattle.model.specs.Quotients.{book_table}
use Rattle.model.specs.Calls.{Gives, too_short, sizes_fault, book_of, book_fault, build_fault, joins_of, distinct_of}
use Rattle.model.specs.Calls.{table_of, table_states}
use Rattle.model.specs.Listing.{listing, book_listing}
use Rattle.model.specs.Claims.{Accepted}
use Rattle.model.proofs.FieldLaws.{first_of_lem}
use Rattle.model.proofs.CallLaws.{call-refused, refusal_is, fault_roomy, sizes_fit}
use Rattle.model.proofs.CallLaws.{short_is, call-one_short, call-one_wrote, FrontOf, front_of_lem}
use Rattle.model.proofs.Demands.{demands, book_writable, read_table_lem, table_length}
use Rattle.writing.specs.Writing as writing
use Rattle.writing.proofs.WritingLaws.{written-from_zero}
use Rattle.writing.specs.Writing.{Put}
use Rattle.listings.proofs.Lengths.{book_listing-length}
use Rattle.results.specs.declared.Built.{Built}
use Rattle.results.specs.declared.Written.{Written}
use Rattle.results.specs.Says.{building, written, not_written, copying, listing_book}
use Rattle.book_calls.proofs.BuildLaws.{joins_few, distinct_few, built-front}

-- ---- bytes copied to a text

pub copy_short :
    (bytes text : List ℕ) → length text < length bytes →
    Gives (copying bytes) (text ∷ []) (text ∷ []) (not_written output_too_short)
unfolding copying
copy_short bytes text short = call-one_short (copying bytes) bytes text refl refl short

pub copy_whole :
    (bytes text text' : List ℕ) → length bytes ≤ length text → writing.Written text text' 0 bytes →
    Gives (copying bytes) (text ∷ []) (text' ∷ []) (written 0 (length bytes))
unfolding copying
copy_whole bytes text text' room copied =
    call-one_wrote (copying bytes) bytes text refl text' _ refl room (written-from_zero copied) refl

-- ---- the table that was built

-- a table that is read, and whose listing is the book's
pub record ListedBy (settings : Settings) (book work table : List ℕ) (joins distinct : ℕ) : Type 0 where
  pub no_fault : build_fault settings book work ≡ 0
  pub work_fits : work_bytes ≤ length work
  pub no_refusal : (read_table table).number ≡ 0
  pub few_joins : joins < number_limit
  pub few_distinct : distinct < number_limit
  pub is : listing (table_of table).names (table_states table) joins distinct ≡ book_listing (book_of settings book)
  pub short : length (book_listing (book_of settings book)) ≤ listing_bytes

module _ (settings : Settings) (allowed : Allowed settings) where
  names_read :
      (book : List ℕ) → Accepted settings book → (table_of (book_table (book_of settings book))).names ≡ (book_of settings book).names
  unfolding table_of
  names_read book ok = ap (λ (r : Read). r.file_is.names) (read_table_lem settings allowed book ok)

  pub listing-short : (book : List ℕ) → Accepted settings book → length (book_listing (book_of settings book)) ≤ listing_bytes
  listing-short book ok =
      book_listing-length settings allowed book _ (joins_of (book_of settings book)) (distinct_of (book_of settings book)) ok
      (book_writable settings allowed book ok)

  table_listed :
      (book work : List ℕ) → build_fault settings book work ≡ 0 →
      ListedBy settings book work (book_table (book_of settings book)) (joins_of (book_of settings book))
      (distinct_of (book_of settings book))
  unfolding build_fault
  table_listed book work none =
      let parts = first_of_lem (sizes_fault book work) (book_fault settings book) none in
      let ok : Accepted settings book = parts.1 in
      let f = book_of settings book in
      record {
        no_fault = none;
        work_fits = (sizes_fit book work parts.0).work_fits;
        no_refusal = ap (λ (r : Read). r.number) (read_table_lem settings allowed book ok);
        few_joins = omega (arith, joins_few settings book ok);
        few_distinct = omega (arith, distinct_few settings book ok);
        is =
            ap (λ (names : List (List ℕ)). listing names (table_states (book_table f)) (joins_of f) (distinct_of f)) (names_read book ok)
            ∙ ap (λ (states : List State). listing f.names states (joins_of f) (distinct_of f))
            ((demands.reads_back settings allowed).same_states book ok);
        short = listing-short book ok;
      }

  module _ (book work out out' : List ℕ) (r : Built) (gives : Gives (building settings book work) (out ∷ []) (out' ∷ []) r) where
    -- a build that is not refused left such a table at the front
    pub built-listed : r.refusal ≡ 0 → ListedBy settings book work (take r.length out') r.joins r.distinct
    unfolding building
    built-listed none =
        let f = book_of settings book in
        let front = built-front settings book work out out' r gives none in
        subst (λ (table : List ℕ). ListedBy settings book work table r.joins r.distinct) (sym front.at_front.bytes_are)
        (subst (λ (b : Built). ListedBy settings book work (book_table f) b.joins b.distinct) (sym front.answer_is)
        (table_listed book work front.not_refused))

    -- one that is refused, with an output that takes every table, is refused as a listing is
    pub listing-refused :
        (text : List ℕ) → table_bytes ≤ length out → 0 < r.refusal →
        Gives (listing_book settings book work) (text ∷ []) (text ∷ []) (not_written r.refusal)
    unfolding building listing_book build_fault
    listing-refused text long some =
        let room : build_fault settings book work ≡ 0 → too_short (building settings book work).writes (out ∷ []) ≡ false =
        λ (none : build_fault settings book work ≡ 0).
        short_is (building settings book work) (book_table (book_of settings book)) out refl
        ∙ le-ltb (length out) (length (book_table (book_of settings book)))
        (omega (
          arith,
          long,
          table_length settings allowed book (first_of_lem (sizes_fault book work) (book_fault settings book) none).1,
        )) in
        let fault = refusal_is gives (λ (b : Built). b.refusal) (λ k. refl) refl in
        call-refused (listing_book settings book work) (text ∷ [])
        (record { is = sym (fault ∙ fault_roomy (building settings book work) (out ∷ []) room); some = some })

-- ---- what is given back

-- the listing at the front of a text
pub puts_front :
    (whole text text' bytes : List ℕ) (after : ℕ) → bytes ≡ whole → Put text text' 0 bytes after →
    FrontOf whole text' after
puts_front whole text text' bytes after is puts =
    subst (λ (l : List ℕ). FrontOf l text' after) is
    (front_of_lem bytes text text' after (written-from_zero puts.written) (omega (arith, puts.ends)))

-- the listing of the table that was built is copied, where it fits
pub listing-copied :
    (settings : Settings) (book work text text' bytes : List ℕ) (r : Written) → build_fault settings book work ≡ 0 →
    bytes ≡ book_listing (book_of settings book) →
    Gives (copying bytes) (text ∷ []) (text' ∷ []) r → Gives (listing_book settings book work) (text ∷ []) (text' ∷ []) r
unfolding copying listing_book
listing-copied settings book work text text' bytes r none is copied =
    let whole = book_listing (book_of settings book) in
    subst (λ (k : ℕ).
    Gives (record { refusal = k; none = not_written; answer = written 0 (length whole); writes = whole ∷ [] }) (text ∷ [])
    (text' ∷ []) r) (sym none)
    (subst (λ (l : List ℕ). Gives (copying l) (text ∷ []) (text' ∷ []) r) is copied)
