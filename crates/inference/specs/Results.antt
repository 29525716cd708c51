-- What is given back for an accepted book (docs/SCOPE.md, sections 4 and 12): 10, then 13, and where neither is the table's bytes in one
-- output and the counts in another, where they are wanted; how long they are, the states, the joins and the different rows. First how two
-- things are written. Assumes nothing.
use Rattle.std.specs.Prelude.{◌≡◌, Bool, true, false, Result, Ok, Err, List, [], ◌∷◌, ℕ, ltb, length}
use Rattle.base.specs.Limits.{state_limit, tree_too_large, when}
use Rattle.model.specs.Fields.{File}
use Rattle.model.specs.Quotients.{book_states, book_table}
use Rattle.model.specs.Calls.{Call, Gives, too_short, fronts, joins_of, distinct_of}
use Rattle.model.specs.Joinings.{tree_of}
use Rattle.counts.specs.Counts.{counts_if}
use Rattle.base.specs.Refusals.{number_of}
use Rattle.base.specs.declared.refusals.Refusal.{Refusal}
use Rattle.base.specs.declared.refusals.Refusal.TheVariants as refusal
use Rattle.inference.specs.declared.Inferred.{Inferred}
use Rattle.inference.specs.declared.Written.{Written}

-- ---- a table and its counts written

-- the table and the counts stand at the fronts of their outputs; each has as many bytes as is told, and there are so many states
pub record TableWritten (table counts : List ℕ) (made : ℕ) (outs outs' : List (List ℕ)) (bytes states size : ℕ) : Type 0 where
  pub room : too_short (table ∷ (counts ∷ [])) outs ≡ false
  pub outs_are : outs' ≡ fronts (table ∷ (counts ∷ [])) outs
  pub bytes_are : bytes ≡ length table
  pub states_are : states ≡ made
  pub size_is : size ≡ length counts

-- one of the two outputs is shorter than what it is to take, and both are as they were
pub record TableTooLong (table counts : List ℕ) (outs outs' : List (List ℕ)) : Type 0 where
  pub short : too_short (table ∷ (counts ∷ [])) outs ≡ true
  pub outs_kept : outs' ≡ outs

abbrev pub WritesTable : List ℕ → List ℕ → ℕ → List (List ℕ) → List (List ℕ) → Result Written Refusal → Type 0
WritesTable bytes counts made outs outs' (Ok w) = TableWritten bytes counts made outs outs' w.length w.states w.counts
WritesTable bytes counts made outs outs' (Err k) = (k ≡ refusal.OutputTooShort) × TableTooLong bytes counts outs outs'

-- a book's table, and its counts where they are wanted
abbrev pub WritesBook : Bool → File → List (List ℕ) → List (List ℕ) → Result Written Refusal → Type 0
WritesBook wanted f outs outs' r =
    WritesTable (book_table f) (counts_if wanted (book_states f) f.items) (length (book_states f)) outs outs' r

-- ---- what is given back

-- an answer, or with a refusal its number alone
abbrev pub numbered : {A : Type 0} → Result A Refusal → Result A ℕ
numbered (Ok answer) = Ok answer
numbered (Err k) = Err (number_of k)

-- an accepted book's table: refusal 10, or the table at the front of one output, and where they are wanted the counts at the front of
-- another; with their lengths, the states, the joins, and how many different rows the book has
unfoldable pub inferring : Bool → File → Call (Result Inferred ℕ)
inferring wanted f =
    let counts = counts_if wanted (book_states f) f.items in
    record {
      refusal = when (ltb state_limit (length (tree_of f.items))) tree_too_large;
      none = λ k. Err k;
      answer =
          Ok (record {
            length = length (book_table f);
            states = length (book_states f);
            joins = joins_of f;
            distinct = distinct_of f;
            counts = length counts;
          });
      writes = book_table f ∷ (counts ∷ []);
    }

-- the same with both outputs before and after
abbrev pub Infers : Bool → File → List (List ℕ) → List (List ℕ) → Result Inferred Refusal → Type 0
Infers wanted f outs outs' r = Gives (inferring wanted f) outs outs' (numbered r)
