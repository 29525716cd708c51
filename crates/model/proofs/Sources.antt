-- What the two sources say holds of the definitions: `document_000` and `document_002`. Assumes nothing.
use mathlib.Core.Path.{◌≡◌, refl, sym, subst}
use mathlib.Core.Logic.{◌⊎◌, inl, inr, ⊎_elim}
use mathlib.Core.Bool.{Bool, true, false≢true}
use mathlib.Core.List.{List, [], ◌∷◌, ◌++◌}
use Prim.Native.Nat.{ℕ, ◌≤◌}
use native.Mathlib.Omega.{arith}
use lib.Seq.{take_all}
use Rattle.base.specs.Lists.{any, all, numbers_from, same, has_row}
use Rattle.model.specs.Fields.{Class}
use Rattle.model.specs.Tables.{State, target_in, walk_from, walk, reached_state, admits}
use Rattle.model.specs.Classes.{Word, put_name, seen_set, f_of, TailsEqual, Contextual, Distinguishable}
use Rattle.model.specs.Quotients.{book_states}
use Rattle.model.specs.Sources.{AdmittedBy, Listed, Distinguishable22, seen_set_class, figure_3, l1, l2}
use Rattle.model.specs.Sources.{Contextual59, figure_5_5, ContextualStates, Passing, OverNames, Reversible}
use Rattle.model.specs.Sources.{ContextualAfter, Document000, Document002}
use Rattle.model.proofs.Functions.{f_append}
use Rattle.model.proofs.TableBodies.{accepted_reached}
use Rattle.model.proofs.ContextualTables.{tails_contextual, states_contextual, contextual_tails, tails_states}
use Rattle.model.proofs.ContextualTables.{book_contextual}
use Rattle.model.proofs.Samples.{after-all}
use Rattle.model.proofs.Identified.{book_of_fields, among_itself, identified}
use Rattle.model.proofs.ContextualRows.{tails_within, context_kept, is_contextual, rows-contextual}

-- ---- document 000

-- definition (22) and ours: a common tail u, or v, makes all tails equal, and equal tails have both or neither
to_22 : (c : Class) (l : Word → Type 0) → Distinguishable c l → Distinguishable22 c l
to_22 c l d =
    record {
      both_or_neither = λ u v w z e wu wv. (
        λ zu. ((d.equal_tails w z u (cc) wu zu).tails v).0 wv,
        λ zv. ((d.equal_tails w z v (cc) wv zv).tails u).0 wu,
      );
    }

of_22 : (c : Class) (l : Word → Type 0) → Distinguishable22 c l → Distinguishable c l
of_22 c l d =
    record {
      equal_tails = λ w z v e wv zv.
          record {
            tails = λ x. (
              λ wx. (d.both_or_neither v x w z (cc) wv wx).0 zv,
              λ zx. (d.both_or_neither v x z w (cc) zv zx).0 wv,
            );
          };
    }

-- figure 3: aa and a have one Ter and the common tail a, and only aa is admitted
figure_3-fails : Distinguishable seen_set_class (AdmittedBy figure_3) → ⊥
unfolding put_name seen_set f_of target_in walk_from walk reached_state admits
figure_3-fails d = false≢true (((d.equal_tails (0 ∷ (0 ∷ [])) (0 ∷ []) (0 ∷ []) refl refl refl).tails []).0 refl)

pub document_000 : Document000
unfolding put_name seen_set f_of
document_000 =
    record {
      definition_20 = λ c. record { same_longer = λ u w z e. f_append c w z u e };
      definition_22 = λ c l. (to_22 c l, of_22 c l);
      example_24 = refl;
      figure_3_not = figure_3-fails;
    }

-- ---- document 002

-- definition 5.9 as printed: with Inflection Example for a and Example after it, Headword Inflection and Headword Preferred_form
-- may stand before Example Example, and only after the second may the word end with one Example
printed_fails : Contextual59 2 2 (AdmittedBy figure_5_5) → ⊥
unfolding target_in walk_from walk reached_state admits
printed_fails l =
    false≢true
    (((l.equal_tails (1 ∷ []) (1 ∷ []) (2 ∷ (0 ∷ [])) (0 ∷ []) (0 ∷ []) (1 ∷ (2 ∷ [])) (1 ∷ (4 ∷ [])) 2 refl
    (omega arith) (omega arith) (omega arith) refl refl refl refl).tails []).1 refl)

-- L1 and L2 pass the test of finite sets
l1-passes : is_contextual 2 1 l1 ≡ true
unfolding any all numbers_from same has_row tails_within context_kept is_contextual
l1-passes = refl

l2-passes : is_contextual 2 1 l2 ≡ true
unfolding any all numbers_from same has_row tails_within context_kept is_contextual
l2-passes = refl

-- their union: bc follows a and e, and abg is in it, but ebg is not
union_fails : Contextual 2 1 (λ (r : Word). Listed l1 r ⊎ Listed l2 r) → ⊥
unfolding any same has_row
union_fails l =
    ⊎_elim (λ e. false≢true e) (λ e. false≢true e)
    (((l.equal_tails (0 ∷ []) (4 ∷ []) (1 ∷ (2 ∷ [])) (3 ∷ []) (3 ∷ []) 1 refl (omega arith) (omega arith)
    (inl refl) (inl refl)).tails (5 ∷ [])).0 (inr refl))

-- theorem 5.18: from k on is after all k names
from_all : (k : ℕ) (l : Word → Type 0) → ContextualAfter k l → Contextual k k l
from_all k l in-l =
    record {
      equal_tails = λ u1 u2 a w1 w2 i size low high e1 e2.
          subst (λ (v : Word). TailsEqual l (u1 ++ v) (u2 ++ v)) (sym (take_all i a (omega arith)))
          (in-l.equal_tails u1 u2 a w1 w2 size e1 e2);
    }

-- words that go on alike are words that go on
alike : (k : ℕ) (l : Word → Type 0) → ContextualAfter k l → Reversible k l
alike k l in-l = record { equal_tails = λ u1 u2 v w. in-l.equal_tails u1 u2 v w w }

-- theorem 5.19, 2: the tails in the intersection are the tails in both
both : (k h : ℕ) (l m : Word → Type 0) → Contextual k h l → Contextual k h m → Contextual k h (λ (r : Word). l r × m r)
both k h l m in-l in-m =
    record {
      equal_tails = λ u1 u2 a w1 w2 i size low high e1 e2.
          let x = in-l.equal_tails u1 u2 a w1 w2 i size low high e1.0 e2.0 in
          let y = in-m.equal_tails u1 u2 a w1 w2 i size low high e1.1 e2.1 in
          record {
            tails = λ v. (
              λ e. ((x.tails v).0 e.0, (y.tails v).0 e.1),
              λ e. ((x.tails v).1 e.0, (y.tails v).1 e.1),
            );
          };
    }

-- lemma 5.10: the table of a sample, and back
has_table :
    (k h m : ℕ) (test : Word → Bool) → h ≤ k → OverNames m test → Contextual k h (Passing test) →
    (states : List State) × ContextualStates k h states × ((r : Word) → admits states r ≡ test r)
has_table k h m test low below in-l =
    let sample = identified k h m test low below in-l in
    let book = book_of_fields k h sample.rows in
    (book_states book, book_contextual book refl, sample.tells book refl (among_itself sample.rows) sample.in_set)

of_table :
    (k h : ℕ) (test : Word → Bool) (states : List State) → ContextualStates k h states →
    ((r : Word) → admits states r ≡ test r) → Contextual k h (Passing test)
of_table k h test states met same-words =
    subst (λ (t : Word → Bool). Contextual k h (Passing t)) (λ i r. same-words r i)
    (states_contextual k h states met)

pub document_002 : Document002
document_002 =
    record {
      printed_5_9_not = printed_fails;
      lemma_5_10 = λ k h m test low below. (
        has_table k h m test low below,
        λ found. of_table k h test found.0 found.1 found.2,
      );
      lemma_5_10_if = states_contextual;
      lemma_5_10_built = book_contextual;
      lemma_5_10_canonical = λ k h states canonical. (
        λ l. tails_states k h states canonical (contextual_tails k h states canonical.reached l),
        states_contextual k h states,
      );
      lemma_5_10_tails = λ k h states reached. (contextual_tails k h states reached, tails_contextual k h states);
      accepted_reached = accepted_reached;
      identified = identified;
      theorem_5_18_1 = alike;
      theorem_5_18_2 = λ k h l low in-l. alike k l (after-all k h l low in-l);
      theorem_5_18_3 = λ k l. (from_all k l, after-all k k l (omega arith));
      theorem_5_18_4 = λ k h l in-l.
          record {
            equal_tails = λ u1 u2 a w1 w2 i size low high.
                in-l.equal_tails u1 u2 a w1 w2 i size (omega arith) high;
          };
      l1_contextual = rows-contextual l1 2 1 l1-passes;
      l2_contextual = rows-contextual l2 2 1 l2-passes;
      union_not = union_fails;
      intersection = both;
    }
