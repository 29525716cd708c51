-- How far a walk comes, over any table: the longest beginning of the row by whose names there are arcs; and what the walk alone tells, by
-- it. Assumes nothing.
use mathlib.Core.Path.{◌≡◌, refl, sym, ap, ◌∙◌, subst}
use mathlib.Core.Bool.{cond}
use mathlib.Core.List.{List, [], ◌∷◌, ◌++◌, cons≢nil, head-eq_of_cons-eq, tail-eq_of_cons-eq}
use Prim.Native.Nat.{ℕ, zero, suc, ◌+◌, ◌≤◌}
use native.Mathlib.Omega.{arith}
use native.Mathlib.Nat.{zero-add}
use lib.Dec.{ltb}
use lib.ListN.{length, get_or, take}
use lib.Seq.{take-append_seam}
use Rattle.base.specs.Limits.{admitted, on_the_way, stops}
use Rattle.model.specs.Tables.{State, empty_state, target_in, Walk, walk_at, walk_from, walk, reached_state, name_set, Told, told, plain_walk}
use Rattle.model.specs.Classes.{Word}
use Rattle.model.proofs.Admits.{walk-stops, walk-goes}
use Rattle.model.proofs.TableWalks.{Steps}

-- what the walk alone tells of a row, of which so many names are walked: this beginning, which leads to this state
abbrev pub told_of : Word → ℕ → Word → State → Told
told_of row taken beginning reached =
    told (cond (ltb taken (length row)) stops (cond reached.accepts admitted on_the_way)) beginning
    (name_set reached.arcs) (length reached.arcs)

-- how far the walk from state p comes by the row, n names having been walked
pub record Comes (states : List State) (p n : ℕ) (row : Word) : Type 0 where
  pub front : Word
  pub rest : Word
  pub at : ℕ
  pub whole : front ++ rest ≡ row
  pub walked : walk_from states p n row ≡ walk_at at (n + length front)
  pub way : Steps states p front at
  pub furthest : (u more : Word) (q : ℕ) → u ++ more ≡ row → Steps states p u q → length u ≤ length front

module _ (states : List State) where
  -- each walk comes so far
  pub comes : (row : Word) (p n : ℕ) → Comes states p n row
  unfolding walk_from
  comes [] p n =
      let none : n ≡ n + 0 = omega arith in
      record {
        front = [];
        rest = [];
        at = p;
        whole = refl;
        walked = ap (walk_at p) none;
        way = refl;
        furthest = λ u more q e s. only u more e;
      }
    where
      only : (u more : Word) → u ++ more ≡ [] → length u ≤ 0
      only [] more e = omega arith
      only (x ∷ u) more e = absurd (cons≢nil e)
  comes (a ∷ row) p n = go (target_in a (get_or states p empty_state).arcs) refl (λ r. comes row r (suc n))
    where
      -- no arc by the first name: no beginning but the empty one can be walked
      none-further :
          target_in a (get_or states p empty_state).arcs ≡ 0 → (u more : Word) (q : ℕ) → u ++ more ≡ a ∷ row →
          Steps states p u q → length u ≤ 0
      none-further t [] more q e s = omega arith
      none-further t (x ∷ u) more q e s =
          let none : 0 ≡ suc s.0 =
          sym t ∙ ap (λ (y : ℕ). target_in y (get_or states p empty_state).arcs) (sym (head-eq_of_cons-eq e)) ∙ s.1 in
          let z : ⊥ = omega arith in
          absurd z

      -- an arc: one name further than from its target
      one_further :
          (r : ℕ) → target_in a (get_or states p empty_state).arcs ≡ suc r → (c : Comes states r (suc n) row) →
          (u more : Word) (q : ℕ) → u ++ more ≡ a ∷ row → Steps states p u q → length u ≤ suc (length c.front)
      one_further r t c [] more q e s = omega arith
      one_further r t c (x ∷ u) more q e s =
          let both : suc r ≡ suc s.0 =
          sym t ∙ ap (λ (y : ℕ). target_in y (get_or states p empty_state).arcs) (sym (head-eq_of_cons-eq e)) ∙ s.1 in
          let same : s.0 ≡ r = omega arith in
          let less : length u ≤ length c.front =
          c.furthest u more q (tail-eq_of_cons-eq e) (subst (λ (k : ℕ). Steps states k u q) same s.2) in
          omega arith

      go :
          (t : ℕ) → target_in a (get_or states p empty_state).arcs ≡ t → ((r : ℕ) → Comes states r (suc n) row) →
          Comes states p n (a ∷ row)
      go zero t again =
          let none : n ≡ n + 0 = omega arith in
          record {
            front = [];
            rest = a ∷ row;
            at = p;
            whole = refl;
            walked = walk-stops states p n a row t ∙ ap (walk_at p) none;
            way = refl;
            furthest = none-further t;
          }
      go (suc r) t again =
          let c = again r in
          let size : suc n + length c.front ≡ n + suc (length c.front) = omega arith in
          record {
            front = a ∷ c.front;
            rest = c.rest;
            at = c.at;
            whole = ap (λ (w : Word). a ∷ w) c.whole;
            walked = walk-goes states p n a row r t ∙ c.walked ∙ ap (walk_at c.at) size;
            way = (r, t, c.way);
            furthest = one_further r t c;
          }

  -- what the walk alone tells, by it
  pub plain_told :
      (row : Word) (c : Comes states 0 0 row) →
      plain_walk states row ≡ told_of row (length c.front) c.front (get_or states c.at empty_state)
  unfolding plain_walk walk reached_state
  plain_told row c =
      ap (λ (w : Walk). told_of row w.taken (take w.taken row) (get_or states w.at_state empty_state))
      (c.walked ∙ ap (walk_at c.at) (zero-add (length c.front)))
      ∙ ap (λ (w : Word). told_of row (length c.front) w (get_or states c.at empty_state))
      (ap (take (length c.front)) (sym c.whole) ∙ take-append_seam c.front c.rest)
