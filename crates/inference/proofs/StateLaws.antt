-- From a joined partition to its states' fields and its counts: whether both fit, as it is known before anything is written, and both
-- written. Assumes nothing.
use mathlib.Core.Path.{◌≡◌, refl, sym, ap, ap₂, ◌∙◌}
use mathlib.Core.Bool.{Bool, true, false, ◌||◌, cond, or-false}
use mathlib.Core.List.{List, [], ◌∷◌}
use Prim.Native.Nat.{ℕ, ◌+◌, ◌*◌, ◌≤◌}
use native.Mathlib.Nat.{zero-add}
use native.Mathlib.Omega.{arith}
use borrow.Author.Tests.{ltb-false}
use lib.Dec.{ltb}
use lib.ListN.{length}
use Rattle.base.specs.Limits.{state_limit}
use Rattle.base.proofs.Tests.{false_or}
use Rattle.model.specs.Classes.{Word}
use Rattle.model.specs.Tables.{arc_count, state_fields}
use Rattle.model.specs.Joinings.{tree_of}
use Rattle.model.specs.Quotients.{met_groups, states_of}
use Rattle.model.specs.Calls.{too_short, over, fronts}
use Rattle.model.proofs.WrittenLengths.{state-fields_length}
use Rattle.model.proofs.Trees.{tree_of-tree}
use Rattle.model.proofs.FirstMet.{met-distinct, met-few, states-length}
use Rattle.model.proofs.ArcCount.{arcs_few}
use Rattle.indexed.specs.Partitions.{Joined}
use Rattle.indexed.proofs.TreeArcs.{labels_fit}
use Rattle.quotient.specs.Ready.{Ready}
use Rattle.counting.specs.PassCells.{PassesAt}
use Rattle.counting.specs.Ready.{CountsReady}
use Rattle.counts.specs.Counts.{counts_file, counts_if}
use Rattle.counts.proofs.Written.{counts_file-length}
use Rattle.writing.specs.Writing.{Fits, Put}
use Rattle.writing.proofs.WritingLaws.{written-from_zero}
use Rattle.inference.specs.Books.{made_of}
use Rattle.inference.specs.Results.{TableWritten, TableTooLong}

module _ (rows : List Word) (groups : List ℕ) (wanted : Bool) (states arcs size : ℕ) (out counts : List ℕ)
    (number : states ≡ length (made_of rows groups)) (many : arcs ≡ arc_count (made_of rows groups))
    (told : size ≡ cond wanted (5 * states + 2 * arcs) 0) where
  -- the states' fields, and the counts where they are wanted
  abbrev fields : List ℕ
  fields = state_fields (made_of rows groups)

  abbrev wanted_counts : List ℕ
  wanted_counts = counts_if wanted (made_of rows groups) rows

  -- how many bytes they take
  pub fields_size : 4 * states + 3 * arcs ≡ length fields
  fields_size = omega (arith, number, many, state-fields_length (made_of rows groups))

  counts_size : size ≡ length wanted_counts
  counts_size = told ∙ go wanted
    where
      go : (b : Bool) → cond b (5 * states + 2 * arcs) 0 ≡ length (counts_if b (made_of rows groups) rows)
      go true = omega (arith, number, many, counts_file-length (made_of rows groups) rows)
      go false = refl

  -- the test that comes first
  short_told :
      (ltb (length out) (4 * states + 3 * arcs) || ltb (length counts) size)
      ≡ too_short (fields ∷ (wanted_counts ∷ [])) (out ∷ (counts ∷ []))
  unfolding too_short
  short_told =
      ap₂ (λ (m n : ℕ). ltb (length out) m || ltb (length counts) n) fields_size counts_size
      ∙ ap (λ (b : Bool). ltb (length out) (length fields) || b) (sym (or-false (ltb (length counts) (length wanted_counts))))

  pub states-too_long :
      (ltb (length out) (4 * states + 3 * arcs) || ltb (length counts) size) ≡ true →
      TableTooLong fields wanted_counts (out ∷ (counts ∷ [])) (out ∷ (counts ∷ []))
  states-too_long short = record { short = sym short_told ∙ short; outs_kept = refl }

  module _ (fit : (ltb (length out) (4 * states + 3 * arcs) || ltb (length counts) size) ≡ false) where
    pub states-fit : Fits out 0 fields
    states-fit =
        let both = false_or (ltb (length out) (4 * states + 3 * arcs)) (ltb (length counts) size) fit in
        omega (arith, ltb-false (length out) (4 * states + 3 * arcs) both.0, fields_size)

    pub counts-fit : wanted ≡ true → Fits counts 0 (counts_file (made_of rows groups) rows)
    counts-fit e =
        let both = false_or (ltb (length out) (4 * states + 3 * arcs)) (ltb (length counts) size) fit in
        let same : length wanted_counts ≡ length (counts_file (made_of rows groups) rows) =
        ap (λ (b : Bool). length (counts_if b (made_of rows groups) rows)) e in
        omega (arith, ltb-false (length counts) size both.1, counts_size)

    -- both written: the counts are those that are wanted
    pub states-written :
        (out' counts' : List ℕ) (end : ℕ) → Put out out' 0 fields end → counts' ≡ over wanted_counts counts →
        TableWritten fields wanted_counts (length (made_of rows groups)) (out ∷ (counts ∷ [])) (out' ∷ (counts' ∷ []))
        end states size
    unfolding fronts
    states-written out' counts' end put front =
        record {
          room = sym short_told ∙ fit;
          outs_are = ap₂ (λ (a b : List ℕ). a ∷ (b ∷ [])) (written-from_zero put.written) front;
          bytes_are = put.ends ∙ zero-add _;
          states_are = number;
          size_is = counts_size;
        }

-- ---- what the parts of the writing are handed

-- there are no more states and arcs than the tree has states
pub made_few :
    (rows : List Word) (parents names groups : List ℕ) → Joined rows parents names groups →
    (length (made_of rows groups) ≤ state_limit) × (arc_count (made_of rows groups) ≤ state_limit)
unfolding states_of
made_few rows parents names groups joined =
    let tree = tree_of-tree rows in
    let fits = labels_fit rows groups joined.labels in
    let met = met_groups (tree_of rows) groups in
    let few = joined.few in (
      omega (arith, states-length (tree_of rows) groups tree fits rows, met-few (tree_of rows) groups tree fits),
      omega (arith, arcs_few rows (tree_of rows) groups met met (met-distinct (tree_of rows) groups tree fits)),
    )

-- what is ready to be written is so where it is lent
pub ready_lent :
    {rows : List Word} {groups work next sums met numbers next' sums' met' numbers' : List ℕ} {count count' : ℕ} →
    Ready rows groups work next sums met numbers count → next' ≡ next → sums' ≡ sums → met' ≡ met → numbers' ≡ numbers →
    count' ≡ count → Ready rows groups work next' sums' met' numbers' count'
ready_lent ready a b c d e = rw (a, b, c, d, e) ready

-- the states are ready to be written; when the passes are summed in the cells, the counts are
pub counts_ready :
    (rows : List Word) (parents names groups work work' next sums met numbers : List ℕ) (count : ℕ) →
    Joined rows parents names groups → Ready rows groups work next sums met numbers count →
    PassesAt rows parents names groups work' → CountsReady rows parents names groups work' next sums met count
counts_ready rows parents names groups work work' next sums met numbers count joined ready passes =
    record {
      joined = joined;
      deterministic = ready.gathered.deterministic;
      sets = λ g low. (ready.gathered.arcs_at g low).set_is;
      next_size = ready.gathered.next_size;
      met_size = ready.numbered.met_size;
      summed = ready.summed;
      passes = passes;
      listed = ready.numbered.listed;
      counted = ready.numbered.counted;
    }
