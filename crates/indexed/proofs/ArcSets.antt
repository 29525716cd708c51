-- Arcs taken one by one from a set of names and a row of cells: while the set is not empty there is a first arc, whose name is the set's
-- lowest; the set without it holds the others; an empty set has no arcs; and how many there are. Assumes nothing.
use mathlib.Core.Path.{◌≡◌, refl, sym, ap, ◌∙◌}
use mathlib.Core.List.Memᴰ.{head as here}
use mathlib.Core.List.Memᴰ.{tail as there}
use mathlib.Core.List.{List, [], ◌∷◌}
use Prim.Native.Nat.{ℕ, suc, ◌-◌, ◌^◌, ◌<◌, ◌≤◌}
use native.Mathlib.Omega.{arith}
use lib.Count.{ones, count_trailing_zeros}
use lib.ListN.{length}
use lib.Pow.{pow_pos}
use Rattle.model.specs.Tables.{Arc, name_set}
use Rattle.base.specs.Limits.{name_limit}
use Rattle.base.specs.Cells.{cell_at}
use Rattle.indexed.specs.ArcCells.{ArcsAt}
use Rattle.model.proofs.NameSets.{ones_name_set, trailing_name_set, name_set-rest}

-- there is a first arc, with the name m, and the others after it
pub record ArcsMore (n : ℕ) (work : List ℕ) (row set m : ℕ) (arcs : List Arc) : Type 0 where
  pub first : Arc
  pub rest : List Arc
  pub is : arcs ≡ first ∷ rest
  pub named : first.name ≡ m
  pub low : m < name_limit
  pub in_cell : cell_at work row m ≡ first.to
  pub target_low : first.to < n
  pub in_set : 2 ^ m ≤ set
  pub some : 0 < 2 ^ m
  pub after : ArcsAt n work row (set - 2 ^ m) rest

no_arcs : name_set [] ≡ 0
unfolding name_set
no_arcs = refl

first_in_set : (a : Arc) (arcs : List Arc) → 2 ^ a.name ≤ name_set (a ∷ arcs)
unfolding name_set
first_in_set a arcs = omega arith

module _ {n : ℕ} {work : List ℕ} {row set : ℕ} where
  take-first :
      (m : ℕ) (a : Arc) (arcs : List Arc) → ArcsAt n work row set (a ∷ arcs) → m ≡ count_trailing_zeros 64 set →
      ArcsMore n work row set m (a ∷ arcs)
  take-first m a arcs r e =
      let low : a.name < 64 = r.names_low a (here refl) in
      let named : a.name ≡ m =
      sym (e ∙ ap (count_trailing_zeros 64) r.set_is ∙ trailing_name_set r.from a arcs r.ascending low) in
      let bits : 2 ^ a.name ≡ 2 ^ m = ap (λ (k : ℕ). 2 ^ k) named in
      let set_is : set ≡ name_set (a ∷ arcs) = r.set_is in
      let inside : 2 ^ a.name ≤ name_set (a ∷ arcs) = first_in_set a arcs in
      record {
        first = a;
        rest = arcs;
        is = refl;
        named = named;
        low = omega arith;
        in_cell = ap (cell_at work row) (sym named) ∙ r.in_cells a (here refl);
        target_low = r.targets_low a (here refl);
        in_set = omega arith;
        some = pow_pos m;
        after =
            record {
              from = suc a.name;
              ascending = r.ascending.1;
              names_low = λ b k. r.names_low b (there k);
              set_is = ap (λ (k : ℕ). set - k) (sym bits) ∙ ap (λ (k : ℕ). k - 2 ^ a.name) set_is ∙ name_set-rest a arcs;
              in_cells = λ b k. r.in_cells b (there k);
              targets_low = λ b k. r.targets_low b (there k);
            };
      }

  pub arcs_more :
      (m : ℕ) (arcs : List Arc) → ArcsAt n work row set arcs → 0 < set → m ≡ count_trailing_zeros 64 set →
      ArcsMore n work row set m arcs
  arcs_more m [] r h e =
      let set_is : set ≡ name_set [] = r.set_is in
      let z : ⊥ = omega (arith, no_arcs) in
      absurd z
  arcs_more m (a ∷ arcs) r h e = take-first m a arcs r e

  pub arcs_done : (arcs : List Arc) → ArcsAt n work row set arcs → set ≤ 0 → arcs ≡ []
  arcs_done [] r h = refl
  arcs_done (a ∷ arcs) r h =
      let set_is : set ≡ name_set (a ∷ arcs) = r.set_is in
      let z : ⊥ = omega (arith, first_in_set a arcs, pow_pos a.name) in
      absurd z

  -- as many arcs as the set has names
  pub arcs_counted : (arcs : List Arc) → ArcsAt n work row set arcs → ones set ≡ length arcs
  arcs_counted arcs r = ap ones r.set_is ∙ ones_name_set r.from arcs r.ascending
