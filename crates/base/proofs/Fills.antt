-- Laws of a list filled from the front: what holds of each element before the place just written, and of that one, holds of each
-- before the next place; what was not reached yet is as it came. Then of a front of a list, written and read again, and of a
-- local array cut to the number of states. Assumes nothing.
use mathlib.Core.Path.{◌≡◌, refl, sym, ap, ◌∙◌, subst}
use mathlib.Core.Logic.{⊎_elim}
use mathlib.Core.List.{List, ◌++◌, append-nil}
use Prim.Native.Nat.{ℕ, ◌+◌, ◌<◌, ◌≤◌}
use native.Mathlib.Nat.{le_refl}
use native.Mathlib.Omega.{arith}
use lib.ListN.{length, get_or, set, take, drop, replicate, length-set, length-replicate, get_or-replicate}
use lib.ListN.{drop_of_length-le}
use lib.Seq.{get_or-set_same, get_or-set_other, get_or-take, length-take-le, take_at}
use Rattle.base.specs.Limits.{state_limit}
use Rattle.base.proofs.Tests.{eq_dec}

module _ (P : ℕ → ℕ → Type 0) (list : List ℕ) (at value : ℕ) where
  pub fill_more :
      at < length list → ((v : ℕ) → v < at → P v (get_or list v 0)) → P at value →
      (v : ℕ) → v < at + 1 → P v (get_or (set list at value) v 0)
  fill_more inside before here v h =
      ⊎_elim
      (λ e. subst (λ (x : ℕ). P x (get_or (set list at value) x 0)) (sym e) (rw (get_or-set_same list at value 0 inside) here))
      (λ apart. rw (get_or-set_other list at v value 0 apart) (before v (omega arith))) (eq_dec v at)

pub rest_kept :
    (list₀ list : List ℕ) (at value : ℕ) → ((v : ℕ) → at ≤ v → get_or list v 0 ≡ get_or list₀ v 0) →
    (v : ℕ) → at + 1 ≤ v → get_or (set list at value) v 0 ≡ get_or list₀ v 0
rest_kept list₀ list at value rest v h = get_or-set_other list at v value 0 (λ e. omega arith) ∙ rest v (omega arith)

-- each of the first i elements is as it should be
pub record Filled (P : ℕ → ℕ → Type 0) (i : ℕ) (list₀ list : List ℕ) : Type 0 where
  pub size : length list ≡ length list₀
  pub done : (v : ℕ) → v < i → P v (get_or list v 0)

pub filled_none : (P : ℕ → ℕ → Type 0) (list₀ : List ℕ) → Filled P 0 list₀ list₀
filled_none P list₀ = record { size = refl; done = λ v h. absurd (omega arith) }

pub filled_more :
    (P : ℕ → ℕ → Type 0) (i value : ℕ) (list₀ list : List ℕ) → i < length list₀ → P i value → Filled P i list₀ list →
    Filled P (i + 1) list₀ (set list i value)
filled_more P i value list₀ list inside here so_far =
    record {
      size = length-set list i value ∙ so_far.size;
      done = fill_more P list i value (omega (arith, so_far.size)) so_far.done here;
    }

-- a list filled with one value to its end
pub filled : (n v : ℕ) (xs : List ℕ) → n ≡ length xs → replicate n v ++ drop n xs ≡ replicate (length xs) v
filled n v xs e = rw (e, drop_of_length-le xs (le_refl (length xs)), append-nil)

-- the front of a list is as long as it says
pub front_length : (n : ℕ) (list : List ℕ) → n ≤ length list → length (take n list) ≡ n
front_length n list h = length-take-le n list h

-- a front that was written anew, and read again
pub front_again : (n : ℕ) (list front rest : List ℕ) → front ≡ list → length list ≡ n → take n (front ++ rest) ≡ list
front_again n list front rest e size = take_at front rest n (ap length e ∙ size) ∙ e

-- a local array of as many elements as there may be states, cut to n: its length, and what it holds where nothing was written
pub cut : (n x : ℕ) → n ≤ state_limit → n ≡ length (take n (replicate state_limit x))
cut n x h = sym (length-take-le n (replicate state_limit x) (subst (λ (m : ℕ). n ≤ m) (sym (length-replicate state_limit x)) h))

pub cut_at : (n x v : ℕ) → n ≤ state_limit → v < n → get_or (take n (replicate state_limit x)) v 0 ≡ x
cut_at n x v h inside =
    let below : v < state_limit = omega arith in
    get_or-take n (replicate state_limit x) v 0 inside ∙ get_or-replicate state_limit v x 0 below
