-- How long listings are: an arc takes at most 39 bytes, a state 8 more, the first line 40; so the listing of a book takes at most
-- 32,768, and a refusal's text at most 14. Assumes nothing.
use mathlib.Core.List.{List, [], ◌∷◌, ◌++◌, flat_map}
use Prim.Native.Nat.{ℕ, zero, suc, ◌+◌, ◌*◌, ◌≤◌}
use native.Mathlib.Omega.{arith}
use lib.ListN.{length, get_or, length-append}
use Rattle.base.specs.Limits.{name_bytes, listing_bytes}
use Rattle.model.specs.Fields.{Settings, Allowed}
use Rattle.base.specs.Lists.{total}
use Rattle.model.specs.Tables.{Arc, State, arc_count}
use Rattle.model.specs.Listing.{decimal, arc_text, state_line, state_lines, first_line, listing, refusal_text}
use Rattle.model.specs.Calls.{book_of}
use Rattle.model.specs.Claims.{Accepted}
use Rattle.model.proofs.Books.{NamesOk, accepted_book}
use Rattle.model.proofs.WrittenLengths.{name_length}
use Rattle.model.proofs.Writable.{Writable}
use Rattle.writing.proofs.Digits.{decimal-length}

-- every name is within its limit
abbrev pub NamesShort : List (List ℕ) → Type 0
NamesShort names = (i : ℕ) → length (get_or names i []) ≤ name_bytes

pub names_short : (names more : List (List ℕ)) → NamesOk names more → NamesShort more
names_short names [] ok i = omega arith
names_short names (n ∷ more) ok zero = name_length n ok.0.well_formed
names_short names (n ∷ more) ok (suc i) = names_short (names ++ (n ∷ [])) more ok.1 i

first_line-length : (states joins distinct : ℕ) → length (first_line states joins distinct) ≤ 40
unfolding first_line
first_line-length states joins distinct =
    simp length-append (omega (arith, decimal-length states, decimal-length joins, decimal-length distinct))

module _ (names : List (List ℕ)) (short : NamesShort names) where
  arc-text_length : (a : Arc) → length (arc_text names a) ≤ 39
  unfolding arc_text
  arc-text_length a =
      omega (
        arith,
        length-append (get_or names a.name []) (62 ∷ decimal a.to),
        short a.name,
        decimal-length a.to,
      )

  arc-texts_length : (arcs : List Arc) → length (flat_map (arc_text names) arcs) ≤ 39 * length arcs
  unfolding flat_map
  arc-texts_length [] = omega arith
  arc-texts_length (a ∷ arcs) =
      omega (
        arith,
        length-append (arc_text names a) (flat_map (arc_text names) arcs),
        arc-text_length a,
        arc-texts_length arcs,
      )

  state-line_length : (i : ℕ) (s : State) → length (state_line names i s) ≤ 8 + 39 * length s.arcs
  unfolding state_line
  state-line_length i s = simp length-append (omega (arith, decimal-length i, arc-texts_length s.arcs))

  state-lines_length :
      (i : ℕ) (states : List State) → length (state_lines names i states) ≤ 8 * length states + 39 * arc_count states
  unfolding state_lines arc_count total
  state-lines_length i [] = omega arith
  state-lines_length i (s ∷ states) =
      omega (
        arith,
        length-append (state_line names i s) (state_lines names (suc i) states),
        state-line_length i s,
        state-lines_length (suc i) states,
      )

  pub listing-length :
      (states : List State) (joins distinct : ℕ) →
      length (listing names states joins distinct) ≤ 40 + (8 * length states + 39 * arc_count states)
  unfolding listing
  listing-length states joins distinct =
      omega (
        arith,
        length-append (first_line (length states) joins distinct) (state_lines names 0 states),
        first_line-length (length states) joins distinct,
        state-lines_length 0 states,
      )

-- the listing of an accepted book, of states that can be written
pub book_listing-length :
    (settings : Settings) → Allowed settings → (s : List ℕ) (states : List State) (joins distinct : ℕ) →
    Accepted settings s → Writable (length (book_of settings s).names) states →
    length (listing (book_of settings s).names states joins distinct) ≤ listing_bytes
book_listing-length settings allowed s states joins distinct ok w =
    let names = (book_of settings s).names in
    let short = names_short [] names (accepted_book settings allowed s ok).1.names_ok in
    omega (arith, listing-length names short states joins distinct, w.few_states, w.few_arcs)

pub refusal_text-length : (n : ℕ) → length (refusal_text n) ≤ 14
unfolding refusal_text
refusal_text-length n = simp length-append (omega (arith, decimal-length n))
