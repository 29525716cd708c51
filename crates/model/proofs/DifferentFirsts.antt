-- Rows with different first names: they have no beginning in common but the empty one, so that each adds a state to the prefix tree for
-- each of its entries. Assumes nothing.
use mathlib.Core.Path.{◌≡◌, refl, sym, ap, ◌∙◌}
use mathlib.Core.Logic.{⊎_elim}
use mathlib.Core.Bool.{Bool, cond}
use mathlib.Core.List.{List, [], ◌∷◌, ◌++◌, map, append_assoc, append-nil, nil≢cons, cons≢nil}
use mathlib.Core.List.Memᴰ.{head as here}
use mathlib.Core.List.Memᴰ.{tail as there}
use mathlib.Core.List.{Memᴰ as In}
use mathlib.Core.List.Memᴰ
use Prim.Native.Nat.{ℕ, suc, ◌+◌}
use native.Mathlib.Omega.{arith}
use lib.ListN.{length, get_or, drop, length-append, length-map}
use Rattle.base.specs.Lists.{Distinct}
use Rattle.model.specs.Classes.{Word}
use Rattle.model.specs.Joinings.{beginnings, with_states, with_rows, tree_of}
use Rattle.model.specs.Edges.{entries_of, DifferentFirsts}
use Rattle.base.proofs.Tests.{told-false, tells_has_row}
use Rattle.base.proofs.Lists.{map-in}

-- ---- the beginnings of a row

-- words with one name more in front
abbrev after : ℕ → List Word → List Word
after x ws = map (λ (w : Word). x ∷ w) ws

-- such a word begins with that name, and the rest of it is one of the words
after-in : (x y : ℕ) (w : Word) (ws : List Word) → In (y ∷ w) (after x ws) → (y ≡ x) × In w ws
after-in x y w ws m =
    let r = map-in (λ (u : Word). x ∷ u) ws m in
    (ap (λ (z : Word). get_or z 0 0) r.2, Memᴰ.cast (ap (λ (z : Word). drop 1 z) r.2) r.1)

-- they are as different as before
after-distinct : (x : ℕ) (ws : List Word) → Distinct ws → Distinct (after x ws)
after-distinct x [] d = tt
after-distinct x (w ∷ ws) d = (λ m. d.0 (after-in x x w ws m).1, after-distinct x ws d.1)

-- the beginnings of a row are different, and one more than it has entries
beginnings-distinct : (row : Word) → Distinct (beginnings row)
unfolding beginnings
beginnings-distinct [] = (Memᴰ.not-nil, tt)
beginnings-distinct (x ∷ row) = (
  λ m. nil≢cons (map-in (λ (w : Word). x ∷ w) (beginnings row) m).2,
  after-distinct x (beginnings row) (beginnings-distinct row),
)

beginnings-length : (row : Word) → length (beginnings row) ≡ suc (length row)
unfolding beginnings
beginnings-length [] = refl
beginnings-length (x ∷ row) = ap suc (length-map (beginnings row) (λ (w : Word). x ∷ w) ∙ beginnings-length row)

-- ---- states added

-- different words, none of which is there yet, are all added
all-added :
    (nodes ws : List Word) → Distinct ws → ((w : Word) → In w ws → In w nodes → ⊥) → with_states nodes ws ≡ nodes ++ ws
unfolding with_states
all-added nodes [] d new = sym (append-nil nodes)
all-added nodes (w ∷ ws) d new =
    rw (told-false (tells_has_row w nodes) (new w (here refl)))
    (all-added (nodes ++ (w ∷ [])) ws d.1 still-new ∙ append_assoc nodes (w ∷ []) ws)
  where
    still-new : (u : Word) → In u ws → In u (nodes ++ (w ∷ [])) → ⊥
    still-new u m n =
        ⊎_elim (λ k. new u (there m) k) (λ k. d.0 (Memᴰ.cast (sym (Memᴰ.eq_of_singleton k)) m))
        (Memᴰ.append_cases nodes n)

-- the root is there, and no state begins with any of these names
record Free (firsts : List ℕ) (nodes : List Word) : Type 0 where
  root : In [] nodes
  free : (x : ℕ) (w : Word) → In x firsts → In (x ∷ w) nodes → ⊥

module _ (first : ℕ) (firsts : List ℕ) (row : Word) (nodes : List Word) (open-to : Free (first ∷ firsts) nodes) where
  -- a row with such a first name adds a state for each of its entries
  row_added : with_states nodes (beginnings (first ∷ row)) ≡ nodes ++ after first (beginnings row)
  unfolding with_states beginnings
  row_added =
      let more = after first (beginnings row) in
      ap (λ (b : Bool). with_states (cond b nodes (nodes ++ ([] ∷ []))) more) ((tells_has_row [] nodes).test open-to.root)
      ∙ all-added nodes more (after-distinct first (beginnings row) (beginnings-distinct row)) new
    where
      new : (u : Word) → In u (after first (beginnings row)) → In u nodes → ⊥
      new u m n =
          let r = map-in (λ (w : Word). first ∷ w) (beginnings row) m in
          open-to.free first r.0 (here refl) (Memᴰ.cast (sym r.2) n)

  -- and the states begin with none of the other names then
  still_free : (In first firsts → ⊥) → Free firsts (nodes ++ after first (beginnings row))
  still_free other =
      let more = after first (beginnings row) in
      record {
        root = Memᴰ.append_left more open-to.root;
        free = λ x w n m.
            ⊎_elim (λ k. open-to.free x w (there n) k)
            (λ k. other (Memᴰ.cast (sym (after-in first x w (beginnings row) k).0) n))
            (Memᴰ.append_cases nodes m);
      }

rows_added :
    (rows nodes : List Word) → DifferentFirsts rows → Free (map (λ (row : Word). get_or row 0 0) rows) nodes →
    length (with_rows nodes rows) ≡ length nodes + entries_of rows
unfolding with_rows entries_of
rows_added [] nodes firsts open-to = omega arith
rows_added ([] ∷ rows) nodes firsts open-to = absurd (firsts.some_entry (here refl))
rows_added ((x ∷ row) ∷ rows) nodes firsts open-to =
    let others = map (λ (r : Word). get_or r 0 0) rows in
    let more = after x (beginnings row) in
    let size : length more ≡ suc (length row) = length-map (beginnings row) (λ (w : Word). x ∷ w) ∙ beginnings-length row in
    let rest : DifferentFirsts rows =
    record { some_entry = λ m. firsts.some_entry (there m); different = firsts.different.1 } in
    ap (λ (grown : List Word). length (with_rows grown rows)) (row_added x others row nodes open-to)
    ∙ rows_added rows (nodes ++ more) rest (still_free x others row nodes open-to firsts.different.0)
    ∙ omega (arith, length-append nodes more, size)

-- the prefix tree has the root besides
pub different_firsts_states : (rows : List Word) → DifferentFirsts rows → length (tree_of rows) ≡ 1 + entries_of rows
unfolding tree_of
different_firsts_states rows firsts =
    rows_added rows ([] ∷ []) firsts
    (record { root = here refl; free = λ x w n m. cons≢nil (Memᴰ.eq_of_singleton m) })
