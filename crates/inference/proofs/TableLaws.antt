-- From a joined partition to the table: what the joining and the automaton are handed, and the table written after its front, or longer
-- than the output. Assumes nothing.
use mathlib.Core.Path.{◌≡◌, refl, sym, ap, ap₂, ◌∙◌, subst}
use mathlib.Core.Bool.{Bool, ◌||◌}
use mathlib.Core.List.{List, [], ◌∷◌, ◌++◌, append-nil}
use Prim.Native.Nat.{ℕ, ◌+◌, ◌-◌, ◌<◌, ◌≤◌}
use native.Mathlib.Omega.{arith}
use borrow.Author.Tests.{lt-ltb, ltb-false}
use lib.Dec.{ltb}
use lib.ListN.{length, get_or, take, drop, length-append, length-drop, take-append-drop, drop_of_length-le}
use lib.Seq.{length-take-le, take_all, take_at, drop-drop}
use Rattle.base.proofs.Tests.{same_tests, tells_ltb, false_or}
use Rattle.model.specs.Fields.{Class}
use Rattle.model.specs.Tables.{State, state_fields}
use Rattle.model.specs.Classes.{Word}
use Rattle.model.specs.Quotients.{book_states, book_table}
use Rattle.base.specs.Limits.{class_bytes}
use Rattle.model.specs.Calls.{over, too_short, fronts}
use Rattle.counts.specs.Counts.{counts_if}
use Rattle.fields.specs.Places.{file_of}
use Rattle.fields.specs.declared.Place.{Place}
use Rattle.indexed.specs.Partitions.{Joined}
use Rattle.writing.specs.Writing.{Put, front_of}
use Rattle.writing.proofs.WritingLaws.{put_before, written-from_zero}
use Rattle.inference.specs.Books.{BookAt, rows_at, class_at, names_end, made_of, TreeIn, JoinedBy}
use Rattle.inference.specs.Results.{TableWritten, TableTooLong}
use Rattle.inference.proofs.FrontLaws.{table_parts, table_length}

-- a front of a list that was written, and read again
pub prefix_fits : (n : ℕ) (front rest : List ℕ) → length front ≡ n → n ≤ length (front ++ rest)
prefix_fits n front rest size = omega (arith, length-append front rest)

pub prefix_again : (n : ℕ) (front rest : List ℕ) → length front ≡ n → take n (front ++ rest) ≡ front
prefix_again n front rest size = take_at front rest n size

-- a joined partition of the tree, as the automaton is made of it
pub joined_tree :
    (rows : List Word) (parents names ends : List ℕ) (c : Class) (groups : List ℕ) → TreeIn rows parents names ends →
    JoinedBy c rows parents names groups → Joined rows parents names groups
joined_tree rows parents names ends c groups tree joined =
    record { tree = tree.tree; few = tree.few; labels = joined.labels; forks = joined.forks }

-- ---- an output of which what follows a front was lent

-- what is lent, and the output when that comes back
abbrev pub lent : ℕ → List ℕ → List ℕ
lent front out = take (length out - front) (drop front out)

abbrev pub back : ℕ → List ℕ → List ℕ → List ℕ
back front out tail = take front out ++ (tail ++ drop (length out - front) (drop front out))

module _ (front : ℕ) (out : List ℕ) where
  -- all that follows the front
  lent_is : lent front out ≡ drop front out
  lent_is = take_all (length out - front) (drop front out) (omega (arith, length-drop front out))

  back_is : (tail : List ℕ) → back front out tail ≡ take front out ++ tail
  back_is tail =
      let past : length (drop front out) ≤ length out - front = omega (arith, length-drop front out) in
      let none : drop (length out - front) (drop front out) ≡ [] = drop_of_length-le (drop front out) past in
      ap (λ (l : List ℕ). take front out ++ (tail ++ l)) none ∙ ap (λ (l : List ℕ). take front out ++ l) (append-nil tail)

  -- as it was
  back-same : back front out (lent front out) ≡ out
  back-same = ap (back front out) lent_is ∙ back_is (drop front out) ∙ take-append-drop front out

  -- or with the bytes after the front
  back-put :
      (bytes tail : List ℕ) → tail ≡ over bytes (lent front out) → Put out (back front out tail) front bytes (front + length bytes)
  back-put bytes tail e =
      record {
        written =
            record {
              becomes =
                  back_is tail
                  ∙ ap (λ (l : List ℕ). take front out ++ l)
                  (e ∙ ap (over bytes) lent_is ∙ ap (λ (l : List ℕ). bytes ++ l) (drop-drop (length bytes) front out));
            };
        ends = refl;
      }

  -- there is still room for the front, whatever comes back
  pub back-room : (tail : List ℕ) → front ≤ length out → front ≤ length (back front out tail)
  back-room tail fits = prefix_fits front (take front out) _ (length-take-le front out fits)

-- ---- the table

-- what is written fits its output
pub written-fits :
    (table counts out : List ℕ) (made : ℕ) (outs outs' : List (List ℕ)) (bytes states size : ℕ) →
    TableWritten table counts made (out ∷ outs) outs' bytes states size → bytes ≤ length out
unfolding too_short
written-fits table counts out made outs outs' bytes states size w =
    omega (
      arith,
      w.bytes_are,
      ltb-false (length out) (length table) (false_or (ltb (length out) (length table)) (too_short (counts ∷ []) outs) w.room).0,
    )

module _ (s : List ℕ) (p : Place) (at : BookAt s p) (bytes : (i : ℕ) → i < length s → get_or s i 0 < 256) (wanted : Bool)
    (out counts : List ℕ) where
  -- the names and the class
  abbrev front : ℕ
  front = names_end p + class_bytes

  -- the book's counts where they are wanted
  abbrev wanted_counts : List ℕ
  wanted_counts = counts_if wanted (book_states (file_of s p)) (rows_at s p)

  -- there is no room for the front
  pub front-too_long :
      length out < front → TableTooLong (book_table (file_of s p)) wanted_counts (out ∷ (counts ∷ [])) (out ∷ (counts ∷ []))
  unfolding too_short
  front-too_long short =
      record {
        short =
            ap (λ (b : Bool). b || too_short (wanted_counts ∷ []) (counts ∷ []))
            (lt-ltb (length out) (length (book_table (file_of s p))) (omega (arith, table_length s p at bytes)));
        outs_kept = refl;
      }

  module _ (parents names groups : List ℕ) (joined : JoinedBy (class_at p) (rows_at s p) parents names groups)
      (fits : front ≤ length out) where
    -- the states of the automaton, which are the book's
    abbrev made : List State
    made = made_of (rows_at s p) groups

    states_same : made ≡ book_states (file_of s p)
    unfolding book_states
    states_same = joined.states

    -- the counts where they are wanted, of the automaton
    abbrev these : List ℕ
    these = counts_if wanted made (rows_at s p)

    counts_same : these ≡ wanted_counts
    counts_same = ap (λ (states : List State). counts_if wanted states (rows_at s p)) states_same

    -- the table's length
    total : front + length (state_fields made) ≡ length (book_table (file_of s p))
    total =
        omega (
          arith,
          table_length s p at bytes,
          ap (λ (states : List State). length (state_fields states)) states_same,
        )

    -- what follows the front takes the states' fields exactly if the output takes the table
    short-same :
        too_short (state_fields made ∷ (these ∷ [])) (lent front out ∷ (counts ∷ []))
        ≡ too_short (book_table (file_of s p) ∷ (wanted_counts ∷ [])) (out ∷ (counts ∷ []))
    unfolding too_short
    short-same =
        let room : length (lent front out) ≡ length out - front =
        ap length (lent_is front out) ∙ length-drop front out in
        ap₂ (λ (b : Bool) (l : List ℕ). b || too_short (l ∷ []) (counts ∷ []))
        (same_tests (tells_ltb (length (lent front out)) (length (state_fields made)))
        (tells_ltb (length out) (length (book_table (file_of s p))))
        (λ h. omega (arith, total, room)) (λ h. omega (arith, total, room)))
        counts_same

    pub table-too-long :
        (tail counts' : List ℕ) →
        TableTooLong (state_fields made) these (lent front out ∷ (counts ∷ [])) (tail ∷ (counts' ∷ [])) →
        TableTooLong (book_table (file_of s p)) wanted_counts (out ∷ (counts ∷ [])) (back front out tail ∷ (counts' ∷ []))
    table-too-long tail counts' long =
        record {
          short = sym short-same ∙ long.short;
          outs_kept =
              ap (λ (l : List (List ℕ)). back front out (get_or l 0 []) ∷ (get_or l 1 [] ∷ [])) long.outs_kept
              ∙ ap (λ (l : List ℕ). l ∷ (counts ∷ [])) (back-same front out);
        }

    pub table-written :
        (tail counts' out' : List ℕ) (size states more next : ℕ) →
        TableWritten (state_fields made) these (length made) (lent front out ∷ (counts ∷ [])) (tail ∷ (counts' ∷ []))
        size states more →
        length (front_of s (names_end p) (class_at p)) ≡ front →
        Put (back front out tail) out' 0 (front_of s (names_end p) (class_at p)) next →
        TableWritten (book_table (file_of s p)) wanted_counts (length (book_states (file_of s p))) (out ∷ (counts ∷ []))
        (out' ∷ (counts' ∷ [])) (size + front) states more
    unfolding fronts
    table-written tail counts' out' size states more next w front-size put =
        let tail-is : tail ≡ over (state_fields made) (lent front out) = ap (λ (l : List (List ℕ)). get_or l 0 []) w.outs_are in
        let seam : front ≡ 0 + length (front_of s (names_end p) (class_at p)) = omega (arith, front-size) in
        let whole = put_before (back-put front out (state_fields made) tail tail-is) put seam fits in
        let all : front_of s (names_end p) (class_at p) ++ state_fields made ≡ book_table (file_of s p) =
        ap (λ (z : List State). front_of s (names_end p) (class_at p) ++ state_fields z) states_same ∙ sym (table_parts s p at bytes) in
        let out-is : out' ≡ over (book_table (file_of s p)) out =
        subst (λ (z : List ℕ). out' ≡ over z out) all (written-from_zero whole.written) in
        let counts_are : counts' ≡ over wanted_counts counts =
        ap (λ (l : List (List ℕ)). get_or l 1 []) w.outs_are ∙ ap (λ (l : List ℕ). over l counts) counts_same in
        record {
          room = sym short-same ∙ w.room;
          outs_are = ap₂ (λ (a b : List ℕ). a ∷ (b ∷ [])) out-is counts_are;
          bytes_are = omega (arith, w.bytes_are, total);
          states_are = w.states_are ∙ ap length states_same;
          size_is = w.size_is ∙ ap length counts_same;
        }
