-- Marks: the same for every state where every state leads to an end, and otherwise the levels. Assumes nothing.
use mathlib.Core.Path.{◌≡◌, refl, sym, ap, ◌∙◌}
use mathlib.Core.Bool.{true, not}
use mathlib.Core.List.{List}
use Prim.Native.Nat.{ℕ, zero, suc, ◌≤◌, ◌<◌}
use native.Mathlib.Omega.{arith}
use borrow.Author.Tests.{lt-ltb, ne_eqb}
use lib.Dec.{eqb, ltb}
use lib.ListN.{length, replicate, get_or-replicate}
use Rattle.model.specs.Tables.{State}
use Rattle.endings.specs.Live.{level_of, is_live, Marked}
use Rattle.levels.specs.Found.{LevelsFound}

-- so many of a mark that is not 0 mark the states of a table of at most so many, where every state leads to an end
pub marked_all :
    (n mark : ℕ) (states : List State) → 0 < mark → length states ≤ n →
    ((q : ℕ) → q < length states → is_live states q ≡ true) → Marked states (replicate n mark)
marked_all n mark states some few live =
    record {
      tells = λ q low.
          ap (λ (m : ℕ). eqb m 0) (get_or-replicate n q mark 0 (omega arith))
          ∙ ne_eqb mark 0 (λ (e : mark ≡ 0). omega arith)
          ∙ sym (ap not (live q low));
    }

-- and levels do
pub marked_levels : (states : List State) (levels : List ℕ) → LevelsFound states levels → Marked states levels
unfolding is_live
marked_levels states levels found =
    record { tells = λ q low. ap (λ (l : ℕ). eqb l 0) (found.is q low) ∙ none_or_some (level_of states q) }
  where
    none_or_some : (l : ℕ) → eqb l 0 ≡ not (ltb 0 l)
    none_or_some zero = refl
    none_or_some (suc l) =
        ne_eqb (suc l) 0 (λ (e : suc l ≡ 0). omega arith) ∙ sym (ap not (lt-ltb 0 (suc l) (omega arith)))
