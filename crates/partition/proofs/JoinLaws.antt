-- Laws of joins: a label after a join, and what a join of two groups promises where they are one already and where the first or the
-- second has the lower label. Assumes nothing.
use mathlib.Core.Path.{◌≡◌, refl, sym, subst}
use mathlib.Core.Bool.{Bool, true, false, cond}
use mathlib.Core.List.{List}
use Prim.Native.Nat.{ℕ, ◌<◌}
use native.Mathlib.Omega.{arith}
use lib.Dec.{eqb}
use lib.ListN.{get_or}
use borrow.Author.Tests.{eq-eqb, ne_eqb}
use Rattle.indexed.specs.Partitions.{Labelled}
use Rattle.indexed.specs.Passes.{relabelled}
use Rattle.indexed.proofs.Keys.{
  relabelled-labelled,
  relabelled-coarser,
  relabelled-sum,
  relabelled-refines,
  relabelled-joins,
}
use Rattle.partition.specs.Joins.{JoinedTwo}

-- a label after the join, by cases
pub label_moved : (g x y : ℕ) → g ≡ y → x ≡ cond (eqb g y) x g
label_moved g x y e = rw (eq-eqb g y e)

pub label_kept : (g x y : ℕ) → (g ≡ y → ⊥) → g ≡ cond (eqb g y) x g
label_kept g x y d = rw (ne_eqb g y d)

-- two states of one group: nothing is joined
pub joined_none :
    (n v w : ℕ) (groups : List ℕ) → Labelled n groups → get_or groups v 0 ≡ get_or groups w 0 → JoinedTwo n v w groups groups false
joined_none n v w groups labelled one =
    record {
      labelled = labelled;
      coarser = λ a b ha hb e. e;
      sound = λ others e refines. refines;
      together = one;
      none = λ e. refl;
      some = λ e. absurd (no_truth e);
    }
  where
    no_truth : false ≡ true → ⊥
    no_truth e = let z : ◌≡◌ {A = ℕ} 0 1 = cc in omega arith

-- the first state has the lower label
pub joined_first :
    (n v w : ℕ) (groups groups' : List ℕ) → Labelled n groups → v < n → w < n → get_or groups v 0 < get_or groups w 0 →
    groups' ≡ relabelled (get_or groups v 0) (get_or groups w 0) groups → JoinedTwo n v w groups groups' true
joined_first n v w groups groups' labelled hv hw lower is =
    subst (λ (l : List ℕ). JoinedTwo n v w groups l true) (sym is)
    (record {
      labelled =
          relabelled-labelled n x y groups labelled lower (omega (arith, labelled.low w hw)) (labelled.own v hv)
          (labelled.own w hw);
      coarser = relabelled-coarser n x y groups labelled.size;
      sound = λ others e refines. relabelled-refines n v w groups others labelled.size hv hw refines e;
      together = relabelled-joins n v w groups labelled.size hv hw;
      none = λ e. absurd (no-falsehood e);
      some = λ e. relabelled-sum x y w groups lower (omega (arith, labelled.size)) refl;
    })
  where
    x : ℕ
    x = get_or groups v 0

    y : ℕ
    y = get_or groups w 0

    no-falsehood : true ≡ false → ⊥
    no-falsehood e = let z : ◌≡◌ {A = ℕ} 0 1 = cc in omega arith

-- the order of the two states does not matter
pub joined_flip :
    (n v w : ℕ) (groups groups' : List ℕ) (joined : Bool) → JoinedTwo n w v groups groups' joined →
    JoinedTwo n v w groups groups' joined
joined_flip n v w groups groups' joined two =
    record {
      labelled = two.labelled;
      coarser = two.coarser;
      sound = λ others e refines. two.sound others (sym e) refines;
      together = sym two.together;
      none = two.none;
      some = two.some;
    }
