-- What is given back: refusal 10, refusal 13, and the table written, with its counts where they are wanted. Assumes nothing.
use mathlib.Core.Path.{◌≡◌, sym, ap, ◌∙◌, subst}
use mathlib.Core.Bool.{Bool}
use mathlib.Core.List.{List}
use Prim.Native.Nat.{ℕ, ◌-◌, ◌≤◌}
use native.Mathlib.Omega.{arith}
use borrow.Author.Tests.{le-ltb}
use lib.ListN.{length}
use Rattle.base.specs.Limits.{state_limit, tree_too_large, when}
use Rattle.model.specs.Fields.{File}
use Rattle.model.specs.Joinings.{tree_of}
use Rattle.model.specs.Calls.{tree_fault, joins_of, distinct_of}
use Rattle.model.specs.Quotients.{book_states, book_table}
use Rattle.counts.specs.Counts.{counts_if}
use Rattle.std.specs.Prelude.{Ok, Err}
use Rattle.model.proofs.Demands.{states_few}
use Rattle.model.proofs.CallLaws.{call-refused, call-short, call-accepted}
use Rattle.fields.proofs.PlaceLaws.{number_some}
use Rattle.base.specs.Refusals.{number_of}
use Rattle.base.specs.declared.refusals.Refusal.{Refusal}
use Rattle.base.specs.declared.refusals.Refusal.TheVariants as refusal
use Rattle.inference.specs.Results.{WritesBook, TableTooLong, inferring, Infers}
use Rattle.inference.specs.declared.Written.{Written}

module _ (wanted : Bool) (f : File) (outs : List (List ℕ)) where
  pub gives_too_large : (k : Refusal) → number_of k ≡ tree_fault f.items → Infers wanted f outs outs (Err k)
  unfolding inferring
  gives_too_large k e = call-refused (inferring wanted f) outs (record { is = sym e; some = number_some k })

  not_too_large : length (tree_of f.items) ≤ state_limit → (inferring wanted f).refusal ≡ 0
  unfolding inferring
  not_too_large few = ap (λ (b : Bool). when b tree_too_large) (le-ltb state_limit (length (tree_of f.items)) few)

  module _ (outs' : List (List ℕ)) where
    -- the states of a table are at most those of the tree
    pub states_within :
        (w : Written) (tree : ℕ) → tree ≡ length (tree_of f.items) → WritesBook wanted f outs outs' (Ok w) → w.states ≤ tree
    states_within w tree all h = omega (arith, all, h.states_are, states_few f)

    -- a table with the tree's states and the different rows is what is given back
    pub gives_written :
        (w : Written) (tree distinct : ℕ) → length (tree_of f.items) ≤ state_limit → tree ≡ length (tree_of f.items) →
        distinct ≡ distinct_of f → WritesBook wanted f outs outs' (Ok w) →
        Infers wanted f outs outs'
        (Ok (record { length = w.length; states = w.states; joins = tree - w.states; distinct = distinct; counts = w.counts }))
    unfolding inferring joins_of
    gives_written w tree distinct few all different h =
        let accepted = call-accepted (inferring wanted f) outs (not_too_large few) h.room in
        record { answer_is = answer ∙ accepted.answer_is; outputs_are = h.outs_are ∙ accepted.outputs_are }
      where
        joined : tree - w.states ≡ joins_of f
        joined = omega (arith, all, h.states_are)

        answer :
            Ok (record { length = w.length; states = w.states; joins = tree - w.states; distinct = distinct; counts = w.counts })
            ≡ (inferring wanted f).answer
        answer i =
            Ok (record {
              length = h.bytes_are i;
              states = h.states_are i;
              joins = joined i;
              distinct = different i;
              counts = h.size_is i;
            })

    -- and where it is too long, 13
    pub gives_too_long :
        (k : Refusal) → k ≡ refusal.OutputTooShort → length (tree_of f.items) ≤ state_limit →
        TableTooLong (book_table f) (counts_if wanted (book_states f) f.items) outs outs' → Infers wanted f outs outs' (Err k)
    unfolding inferring
    gives_too_long k e few long =
        subst (λ (k : Refusal). Infers wanted f outs outs' (Err k)) (sym e)
        (subst (λ (after : List (List ℕ)). Infers wanted f outs after (Err refusal.OutputTooShort)) (sym long.outs_kept)
        (call-short (inferring wanted f) outs (not_too_large few) long.short))
