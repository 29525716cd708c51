-- Tables that admit rows of bounded length only. In order: the words that can be walked, listed; a word that can be walked has its
-- beginnings among them; where no word of n + 1 names can be walked, no longer one can; and a test that tells which words are
-- admitted. Assumes nothing.
use mathlib.Core.Path.{◌≡◌, refl, sym, ap, ap₂}
use mathlib.Core.Logic.{⊎_elim}
use mathlib.Core.Bool.{Bool, true, false, ◌&&◌}
use mathlib.Core.List.Memᴰ.{head as here}
use mathlib.Core.List.Memᴰ.{tail as there}
use mathlib.Core.List.{List, [], ◌∷◌, map, flat_map, Memᴰ as In}
use mathlib.Core.List.Memᴰ
use Prim.Native.Nat.{ℕ, zero, suc, ◌+◌, ◌≤◌}
use native.Mathlib.Omega.{arith}
use lib.Dec.{eqb}
use lib.ListN.{length, get_or, take}
use lib.Seq.{take-length}
use Rattle.base.specs.Lists.{all, filter_by, numbers_from, has_row}
use Rattle.model.specs.Tables.{Arc, arc, State, empty_state, target_in, Walk, walk_from, walk, reached_state, admits}
use Rattle.model.specs.Classes.{Word}
use Rattle.model.specs.Claims.{all_among}
use Rattle.base.proofs.Tests.{decided, same_tests, tells_itself, tells_eqb, tells_ltb, tells_and, tells_all}
use Rattle.base.proofs.Tests.{tells_has_row}
use Rattle.base.proofs.Lists.{in_flat_map, in_filter_by}
use Rattle.base.proofs.Places.{in_numbers_from}
use Rattle.model.proofs.Admits.{walk-stops, walk-goes}

-- the words of n names that can be walked from a state
unfoldable pub walkable : List State → ℕ → ℕ → List Word
walkable states zero q = [] ∷ []
walkable states (suc n) q =
    flat_map (λ (a : Arc). map (λ (w : Word). a.name ∷ w) (walkable states n a.to)) (get_or states q empty_state).arcs

-- a name with a target is the name of an arc to it
pub target_arc : (x t : ℕ) (arcs : List Arc) → target_in x arcs ≡ suc t → In (arc x t) arcs
unfolding target_in
target_arc x t [] e = let z : ⊥ = omega (arith, e) in absurd z
target_arc x t (a ∷ arcs) e = go (eqb x a.name) refl e (λ f. target_arc x t arcs f)
  where
    go :
        (b : Bool) → eqb x a.name ≡ b →
        elim b as (λ y. ℕ) [ true ↦ suc a.to | false ↦ target_in x arcs ] ≡ suc t →
        (target_in x arcs ≡ suc t → In (arc x t) arcs) → In (arc x t) (a ∷ arcs)
    go true named f again =
        let to : a.to ≡ t = omega (arith, f) in
        here (ap₂ (λ (m n : ℕ). arc m n) ((tells_eqb x a.name).fact named) (sym to))
    go false named f again = there (again f)

-- a list with an element is not empty
not_empty : {w : Word} (ws : List Word) → In w ws → length ws ≡ 0 → ⊥
not_empty [] m e = Memᴰ.not-nil m
not_empty (v ∷ ws) m e = omega arith

module _ (states : List State) where
  -- a word that can be walked has its beginnings among those listed
  walked-begins :
      (n : ℕ) (w : Word) (q k : ℕ) → n ≤ length w → (walk_from states q k w).taken ≡ k + length w →
      In (take n w) (walkable states n q)
  unfolding walkable
  walked-begins zero w q k short e = here refl
  walked-begins (suc n) [] q k short e = let z : ⊥ = omega arith in absurd z
  walked-begins (suc n) (x ∷ w) q k short e =
      go (target_in x (get_or states q empty_state).arcs) refl (λ t f. walked-begins n w t (suc k) (omega arith) f)
    where
      go :
          (t : ℕ) → target_in x (get_or states q empty_state).arcs ≡ t →
          ((y : ℕ) → (walk_from states y (suc k) w).taken ≡ suc k + length w → In (take n w) (walkable states n y)) →
          In (x ∷ take n w) (walkable states (suc n) q)
      go zero h again =
          let stays : (walk_from states q k (x ∷ w)).taken ≡ k = ap (λ (v : Walk). v.taken) (walk-stops states q k x w h) in
          let z : ⊥ = omega (arith, e, stays) in
          absurd z
      go (suc t) h again =
          let goes : (walk_from states q k (x ∷ w)).taken ≡ (walk_from states t (suc k) w).taken =
          ap (λ (v : Walk). v.taken) (walk-goes states q k x w t h) in
          let rest : (walk_from states t (suc k) w).taken ≡ suc k + length w = omega (arith, e, goes) in
          in_flat_map (λ (a : Arc). map (λ (v : Word). a.name ∷ v) (walkable states n a.to))
          (get_or states q empty_state).arcs (target_arc x t (get_or states q empty_state).arcs h)
          (Memᴰ.map (λ (v : Word). x ∷ v) (again t rest))

  -- so has a word that is admitted
  admitted-begins : (n : ℕ) (r : Word) → n ≤ length r → admits states r ≡ true → In (take n r) (walkable states n 0)
  unfolding admits walk
  admitted-begins n r short e =
      let walked : (walk states r).taken ≡ length r =
      ((tells_and (tells_eqb (walk states r).taken (length r)) (tells_itself (reached_state states r).accepts)).fact e).0 in
      walked-begins n r 0 0 short (omega (arith, walked))

  -- where no word of n + 1 names can be walked, no longer one can: what is admitted has at most n names
  no_longer : (n : ℕ) (r : Word) → length (walkable states (suc n) 0) ≡ 0 → admits states r ≡ true → length r ≤ n
  no_longer n r none e =
      ⊎_elim
      (λ h. absurd (not_empty (walkable states (suc n) 0) (admitted-begins (suc n) r (omega (arith, h)) e) none))
      (λ h. omega (arith, h))
      (decided (tells_ltb n (length r)))

  -- the words of at most n names that can be walked
  unfoldable pub walkable_to : ℕ → List Word
  walkable_to n = flat_map (λ (k : ℕ). walkable states k 0) (numbers_from (suc n) 0)

  -- no word of n + 1 names can be walked, those of at most n names that are admitted are among the rows, and all rows are admitted
  unfoldable pub only_these : ℕ → List Word → Bool
  only_these n rows =
      eqb (length (walkable states (suc n) 0)) 0
      && (all_among (filter_by (admits states) (walkable_to n)) rows && all (admits states) rows)

  -- then of all words, of any length, exactly the rows are admitted
  pub admits-only : (n : ℕ) (rows : List Word) → only_these n rows ≡ true → (r : Word) → admits states r ≡ has_row r rows
  unfolding only_these walkable_to all_among
  admits-only n rows passed r =
      let told =
      (tells_and (tells_eqb (length (walkable states (suc n) 0)) 0)
      (tells_and (tells_all (λ w. tells_has_row w rows) (filter_by (admits states) (walkable_to n)))
      (tells_all (λ w. tells_itself (admits states w)) rows))).fact passed in
      same_tests (tells_itself (admits states r)) (tells_has_row r rows)
      (λ e. told.1.0 r (in_filter_by (admits states) (walkable_to n) (listed (no_longer n r told.0 e) e) e))
      (λ m. told.1.1 r m)
    where
      listed : length r ≤ n → admits states r ≡ true → In r (walkable_to n)
      listed short e =
          in_flat_map (λ (k : ℕ). walkable states k 0) (numbers_from (suc n) 0)
          (in_numbers_from (suc n) 0 (length r) (omega arith) (omega arith))
          (Memᴰ.cast (sym (take-length r)) (admitted-begins (length r) r (omega arith) e))
