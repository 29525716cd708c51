-- A partition joined by the rule of a class, whichever its kind, has the automaton of the full joining. In order: what the settings of an
-- allowed class are, and the three kinds. Assumes nothing.
use mathlib.Core.Path.{◌≡◌, refl, sym, ◌∙◌, subst}
use mathlib.Core.Bool.{Bool, true, false, ◌&&◌, ◌||◌, and-eq-true_iff}
use mathlib.Core.List.{List}
use Prim.Native.Nat.{ℕ, ◌<◌, ◌≤◌}
use borrow.Author.Tests.{leb-true}
use lib.Dec.{eqb, leb}
use lib.ListN.{length}
use Rattle.base.specs.Limits.{setting_limit, context_kind, seen_set_kind, last_names_kind}
use Rattle.model.specs.Fields.{Class, class_of, context_ok, ClassOk}
use Rattle.model.specs.Classes.{Word}
use Rattle.model.specs.Joinings.{tree_of}
use Rattle.indexed.specs.Passes.{ContextJoined, FJoined}
use Rattle.indexed.proofs.Joined.{ClassesOfF}
use Rattle.indexed.proofs.Values.{last_classes, seen_classes}
use Rattle.indexed.proofs.Closing.{context_states, f_states}
use Rattle.functions.specs.Results.{JoinedByLast, JoinedBySeen}
use Rattle.inference.specs.Books.{TreeIn, JoinedBy}

-- the settings of a context
pub record ContextSettings (k h : ℕ) : Type 0 where
  pub some : 0 < h
  pub within : h ≤ k
  pub limit : k ≤ setting_limit

context_ok_lem : (k h : ℕ) → context_ok k h ≡ true → ContextSettings k h
context_ok_lem k h e =
    let p = (and-eq-true_iff (leb 1 k && leb k setting_limit) (leb 1 h && leb h k)).0 e in
    let ks = (and-eq-true_iff (leb 1 k) (leb k setting_limit)).0 p.0 in
    let hs = (and-eq-true_iff (leb 1 h) (leb h k)).0 p.1 in
    record { some = leb-true 1 h hs.0; within = leb-true h k hs.1; limit = leb-true k setting_limit ks.1 }

or_none : (b : Bool) → (b || false) ≡ true → b ≡ true
or_none true e = refl
or_none false e = e

pub context_settings : (k h : ℕ) → ClassOk (class_of context_kind k h) → ContextSettings k h
context_settings k h ok = context_ok_lem k h (or_none (context_ok k h) ok)

module _ (n : ℕ) (rows : List Word) (parents names ends groups : List ℕ)
    (tree : TreeIn rows parents names ends) (size : length parents ≡ n) where
  all-states : n ≡ length (tree_of rows)
  all-states = sym size ∙ tree.tree.parents_size

  pub by_context_fact :
      (k h : ℕ) → ContextSettings k h → ContextJoined n k h parents names groups →
      JoinedBy (class_of context_kind k h) rows parents names groups
  by_context_fact k h settings joined =
      let at : ContextJoined (length (tree_of rows)) k h parents names groups =
      subst (λ (m : ℕ). ContextJoined m k h parents names groups) all-states joined in
      record {
        labels = at.labelled;
        forks = at.fork_closed;
        states =
            context_states (class_of context_kind k h) rows parents names groups tree.tree refl settings.some settings.within at;
      }

  by_f_lem :
      (c : Class) → eqb c.kind context_kind ≡ false → (classes : List ℕ) → ClassesOfF c rows classes →
      FJoined (length (tree_of rows)) parents names ends classes groups → JoinedBy c rows parents names groups
  by_f_lem c e classes told at =
      record {
        labels = at.labelled;
        forks = at.fork_closed;
        states = f_states c rows parents names ends classes groups tree.tree tree.ends_are told e at;
      }

  pub by_seen : JoinedBySeen n parents names ends groups → JoinedBy (class_of seen_set_kind 0 0) rows parents names groups
  by_seen joined =
      let at : JoinedBySeen (length (tree_of rows)) parents names ends groups =
      subst (λ (m : ℕ). JoinedBySeen m parents names ends groups) all-states joined in
      by_f_lem (class_of seen_set_kind 0 0) refl at.seen
      (seen_classes (class_of seen_set_kind 0 0) rows parents names at.seen tree.tree refl at.sets)
      at.joined

  pub by_last :
      (j : ℕ) → JoinedByLast n j parents names ends groups → JoinedBy (class_of last_names_kind j 0) rows parents names groups
  by_last j joined =
      let at : JoinedByLast (length (tree_of rows)) j parents names ends groups =
      subst (λ (m : ℕ). JoinedByLast m j parents names ends groups) all-states joined in
      by_f_lem (class_of last_names_kind j 0) refl at.codes
      (last_classes (class_of last_names_kind j 0) rows parents names at.codes tree.tree refl at.by_codes)
      at.joined
