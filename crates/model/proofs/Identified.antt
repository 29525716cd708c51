-- Contextual sets are identified in the limit: the tables of books with enough rows of such a set admit exactly the set. What
-- is admitted is in the set, since the set is of the class; what is in the set is admitted, since its short words are rows.
-- Assumes nothing.
use mathlib.Core.Path.{◌≡◌, refl, sym, ap, subst}
use mathlib.Core.Logic.{◌⊎◌, inl, inr, ⊎_elim}
use mathlib.Core.Bool.{Bool, true}
use mathlib.Core.List.Memᴰ
use mathlib.Core.List.Memᴰ.{head as here}
use mathlib.Core.List.{List, [], ◌∷◌, Memᴰ as In}
use Prim.Native.Nat.{ℕ, ◌≤◌}
use native.Mathlib.Omega.{arith}
use lib.ListN.{length}
use Rattle.base.specs.Lists.{all, filter_by}
use Rattle.model.specs.Fields.{Class, class_of, File, file}
use Rattle.model.specs.Tables.{admits}
use Rattle.model.specs.Classes.{Word, Contextual, InClass}
use Rattle.model.specs.Joinings.{joined_groups}
use Rattle.model.specs.Quotients.{book_states}
use Rattle.model.specs.Claims.{all_among}
use Rattle.model.specs.Sources.{AdmittedBy, ContextualStates, Passing, OverNames, Sample}
use Rattle.base.proofs.Tests.{tells_itself, tells_all, same_tests}
use Rattle.base.proofs.Lists.{in_filter_by, filter_by-in}
use Rattle.model.proofs.Books.{tells_all_below}
use Rattle.model.proofs.DifferentRows.{tells_among}
use Rattle.model.proofs.Joined.{Joined, joined_groups-joined}
use Rattle.model.proofs.ContextualTables.{states_contextual, book_contextual}
use Rattle.model.proofs.InTheClass.{admits-row, admits-none, admits-smallest}
use Rattle.model.proofs.Samples.{short_words, in_short_words, enough, after-all, told-by-short}

-- a book of the class with these rows
abbrev pub book_of_fields : ℕ → ℕ → List Word → File
book_of_fields k h rows = file 3 [] (class_of 0 k h) rows

-- rows are among themselves
pub among_itself : (rows : List Word) → all_among rows rows ≡ true
among_itself rows = (tells_among rows rows).test (λ r m. m)

-- a list has an element or none
some_row : (rows : List Word) → ((r : Word) × In r rows) ⊎ ((r : Word) → In r rows → ⊥)
some_row [] = inr (λ r m. Memᴰ.not-nil m)
some_row (r ∷ rows) = inl (r, here refl)

module _
    (k h m : ℕ) (test : Word → Bool) (low : h ≤ k) (below : OverNames m test) (in-l : Contextual k h (Passing test)) where
  -- the short words of the set
  abbrev sample-rows : List Word
  sample-rows = filter_by test (short_words m (enough m k))

  module _
      (f : File) (class : f.class_is ≡ class_of 0 k h) (there : all_among sample-rows f.items ≡ true)
      (inside : all test f.items ≡ true) where
    joined : Joined f.class_is f.items (joined_groups f.class_is f.items)
    joined = joined_groups-joined f.class_is f.items

    row-in-set : (r : Word) → In r f.items → test r ≡ true
    row-in-set r n = (tells_all (λ x. tells_itself (test x)) f.items).fact inside r n

    -- what is admitted is in the set
    admitted-in-set : (r : Word) → AdmittedBy (book_states f) r → test r ≡ true
    unfolding book_states
    admitted-in-set r e =
        ⊎_elim
        (λ first.
        admits-smallest f.class_is f.items (joined_groups f.class_is f.items) joined
        (Passing test) (subst (λ (c : Class). InClass c (Passing test)) (sym class) in-l)
        row-in-set first.0 first.1 r e)
        (λ none. absurd (admits-none f.class_is f.items (joined_groups f.class_is f.items) joined none r e))
        (some_row f.items)

    -- the set's short words are rows, so they are admitted
    short-admitted : (r : Word) → test r ≡ true → length r ≤ enough m k → AdmittedBy (book_states f) r
    unfolding book_states
    short-admitted r e few =
        admits-row f.class_is f.items (joined_groups f.class_is f.items) joined r
        ((tells_among sample-rows f.items).fact there r
        (in_filter_by test (short_words m (enough m k))
        (in_short_words m (enough m k) r ((tells_all_below m r).fact (below r e)) few) e))

    -- and with them all words of the set
    set-admitted : (r : Word) → test r ≡ true → AdmittedBy (book_states f) r
    set-admitted r =
        let met : ContextualStates k h (book_states f) =
        subst (λ (c : Class). ContextualStates c.first c.second (book_states f)) class
        (book_contextual f (ap (λ (c : Class). c.kind) class)) in
        told-by-short k (Passing test) (AdmittedBy (book_states f))
        (after-all k h (Passing test) low in-l)
        (after-all k h (AdmittedBy (book_states f)) low (states_contextual k h (book_states f) met))
        m (λ x e. (tells_all_below m x).fact (below x e)) short-admitted (length r) r (omega arith)

    same-words : (r : Word) → admits (book_states f) r ≡ test r
    same-words r =
        same_tests (tells_itself (admits (book_states f) r)) (tells_itself (test r)) (admitted-in-set r) (set-admitted r)

  -- so the short words tell the set
  pub identified : Sample k h test
  identified =
      record {
        rows = sample-rows;
        in_set =
            (tells_all (λ r. tells_itself (test r)) sample-rows).test
            (λ r n. (filter_by-in test (short_words m (enough m k)) n).1);
        tells = same-words;
      }
