-- Laws of rounds: the states' own numbers, and sweeps until one joins nothing. Assumes nothing.
use mathlib.Core.Path.{◌≡◌, sym, ap, ◌∙◌, subst, subst₂}
use mathlib.Core.Bool.{Bool, true, false, true≢false}
use mathlib.Core.List.{List}
use Prim.Native.Nat.{ℕ, ◌+◌, ◌<◌, ◌≤◌}
use native.Mathlib.Omega.{arith}
use lib.ListN.{length, take}
use Rattle.base.specs.Lists.{numbers_from}
use Rattle.base.specs.Limits.{setting_limit}
use Rattle.indexed.specs.Trees.{Arrays}
use Rattle.indexed.specs.Partitions.{Labelled, ForkClosed, ContextClosed, SuffixAgree}
use Rattle.indexed.specs.Passes.{Swept, SuffixClasses, BySuffix, ContextJoined}
use Rattle.base.proofs.Places.{length-numbers_from}
use Rattle.indexed.proofs.Contexts.{joined_suffix_agree}
use Rattle.indexed.proofs.Rounds.{due, due-less}
use Rattle.base.proofs.Fills.{front_length}
use Rattle.contexts.specs.Climbs.{ClimbedBelow}
use Rattle.contexts.specs.Distances.{Tested}
use Rattle.contexts.specs.Joins.{SweptBy}
use Rattle.contexts.specs.Rounds.{ContextSound, ForksJoined, RoundReady}
use Rattle.contexts.proofs.ClimbLaws.{climbs-sound}
use Rattle.contexts.proofs.FarLaws.{tested_coarser, tested_tree}

-- sweeps so far, the last by `before`: joined says whether another is due
pub record RoundsTo (n h m : ℕ) (parents names before groups : List ℕ) (joined : Bool) : Type 0 where
  pub labelled : Labelled n groups
  pub sound : ContextSound n h m parents names groups
  pub before_size : length before ≡ n
  pub tested : Tested n h m parents names before groups
  pub forks : ForkClosed n parents names groups
  pub contexts : joined ≡ false → ContextClosed n h m parents names groups

-- forks closed, and no sweep yet
pub rounds_none :
    (n h m : ℕ) (parents names before groups forked : List ℕ) → RoundReady n h m parents names groups → before ≡ numbers_from n 0 →
    ForksJoined n parents names groups forked → RoundsTo n h m parents names before forked true
rounds_none n h m parents names before groups forked ready own forks =
    record {
      labelled = forks.labelled;
      sound = λ others fork context. forks.sound others fork (ready.sound others fork context);
      before_size = ap length own ∙ length-numbers_from n 0;
      tested =
          tested_coarser n h m parents names before groups forked
          (subst (λ (l : List ℕ). Tested n h m parents names l groups) (sym own) ready.tested) forks.coarser;
      forks = forks.closed;
      contexts = λ e. absurd (true≢false e);
    }

-- one sweep more
module _ (n h m : ℕ) (parents names before groups : List ℕ) (was : Bool) (arrays : Arrays n parents names) (pos : 0 < h)
    (so_far : RoundsTo n h m parents names before groups was) (classes before' groups' : List ℕ) (joined : Bool)
    (by : SuffixClasses n (h + 1) parents names classes)
    (sweeps : SweptBy n m parents names classes before before' groups groups' joined) where
  agree : SuffixAgree n h parents names groups
  agree = joined_suffix_agree n parents names arrays h m groups pos so_far.labelled.size so_far.sound

  swept : Swept n h m parents names groups groups' joined
  swept = sweeps.swept h by agree so_far.tested

  pub rounds_more : ForkClosed n parents names groups' → RoundsTo n h m parents names before' groups' joined
  rounds_more forks =
      record {
        labelled = swept.labelled;
        sound = λ others fork context. swept.sound others fork context (so_far.sound others fork context);
        before_size = ap length sweeps.before_is ∙ so_far.labelled.size;
        tested =
            subst (λ (l : List ℕ). Tested n h m parents names l groups') (sym sweeps.before_is)
            (sweeps.tested_after h by agree so_far.tested);
        forks = forks;
        contexts = λ e.
            subst (λ (l : List ℕ). ContextClosed n h m parents names l) (sym (swept.none e).0) (swept.none e).1;
      }

  pub rounds_less : due groups' joined < due groups true
  rounds_less = due-less groups groups' joined (λ e. (swept.none e).0) swept.some

pub rounds_all :
    (n h m : ℕ) (parents names before groups : List ℕ) (joined : Bool) → joined ≡ false →
    RoundsTo n h m parents names before groups joined →
    ContextJoined n (h + m) h parents names groups
rounds_all n h m parents names before groups joined done so_far =
    record {
      labelled = so_far.labelled;
      sound = λ j e others fork context.
          so_far.sound others fork (subst (λ (i : ℕ). ContextClosed n h i parents names others) (is_m j e) context);
      fork_closed = so_far.forks;
      context_closed = λ j e.
          subst (λ (i : ℕ). ContextClosed n h i parents names groups) (sym (is_m j e)) (so_far.contexts done);
    }
  where
    is_m : (j : ℕ) → h + j ≡ h + m → j ≡ m
    is_m j e = omega arith

-- the classes of a front, as many as there are states
pub classes_front :
    (n h : ℕ) (list parents names classes : List ℕ) → n ≤ length list →
    SuffixClasses (length (take n list)) h parents names classes → SuffixClasses n h parents names classes
classes_front n h list parents names classes fits by =
    subst (λ (m : ℕ). SuffixClasses m h parents names classes) (front_length n list fits) by

-- what a sweep promises, by the number of states and by the classes that its front is
pub sweep_told :
    (n m : ℕ) (parents names front classes before before' groups groups' : List ℕ) (joined : Bool) → length groups ≡ n →
    front ≡ classes → SweptBy (length groups) m parents names front before before' groups groups' joined →
    SweptBy n m parents names classes before before' groups groups' joined
sweep_told n m parents names front classes before before' groups groups' joined size same sweeps =
    subst₂ (λ (k : ℕ) (l : List ℕ). SweptBy k m parents names l before before' groups groups' joined) size same sweeps

-- the rounds start from the climbs
pub climbs_ready :
    (n h m k : ℕ) (parents names starts groups : List ℕ) → Arrays n parents names → 0 < h → 1 < m → h + m ≡ k →
    k ≤ setting_limit → BySuffix n k parents names starts → ClimbedBelow n n m parents starts starts groups →
    RoundReady (length groups) h m parents names groups
climbs_ready n h m k parents names starts groups arrays some_names more_names sum_is_lem limit by climbed =
    subst (λ (l : ℕ). RoundReady l h m parents names groups) (sym climbed.labelled.size)
    (record {
      arrays = arrays;
      some_names = some_names;
      more_names = more_names;
      limit = omega arith;
      labelled = climbed.labelled;
      sound = climbs-sound n h m k parents names starts groups arrays some_names sum_is_lem by climbed;
      tested = tested_tree n parents names arrays h m k starts groups some_names (omega arith) sum_is_lem by climbed;
    })

pub rounds_joined :
    (n h m k : ℕ) (parents names groups groups' : List ℕ) → length groups ≡ n → h + m ≡ k →
    ContextJoined (length groups) (h + m) h parents names groups' → ContextJoined n k h parents names groups'
rounds_joined n h m k parents names groups groups' size sum_is_lem joined =
    subst (λ (j : ℕ). ContextJoined n j h parents names groups') sum_is_lem
    (subst (λ (l : ℕ). ContextJoined l (h + m) h parents names groups') size joined)
