-- Laws of the definition of a prefix tree, one turn at a time: a state more, the beginnings of a row one after the other, a row
-- more; it never shrinks; and a row that is a state changes nothing. Assumes nothing.
use mathlib.Core.Path.{◌≡◌, refl, sym, ap, ◌∙◌}
use mathlib.Core.Logic.{⊎_elim}
use mathlib.Core.Bool.{Bool, true, false, cond}
use mathlib.Core.List.Memᴰ
use mathlib.Core.List.{List, [], ◌∷◌, ◌++◌, map, map-append, append_assoc, append-nil}
use mathlib.Core.List.Memᴰ.{head as here}
use mathlib.Core.List.Memᴰ.{tail as there}
use mathlib.Core.List.{Memᴰ as In}
use Prim.Native.Nat.{ℕ, zero, suc, ◌<◌, ◌≤◌}
use native.Mathlib.Omega.{arith}
use lib.ListN.{length, get_or, take, drop, take-append-drop}
use lib.Seq.{take-suc}
use Rattle.base.specs.Lists.{has_row}
use Rattle.model.specs.Classes.{Word}
use Rattle.model.specs.Joinings.{beginnings, with_states, with_rows, tree_of}
use Rattle.base.proofs.Tests.{tells_has_row, told-false, eq_dec}
use Rattle.model.proofs.Trees.{beginnings-in}
use Rattle.judging.specs.Offsets.{body_at, offset_at, fields_at}
use Rattle.judging.proofs.OffsetLaws.{fields_more}
use Rattle.prefix_tree.specs.Growth.{with_state}
use Rattle.prefix_tree.proofs.WordLaws.{snoc_length}

-- ---- a state more

pub with_state-there : (nodes : List Word) (w : Word) → In w nodes → with_state nodes w ≡ nodes
unfolding with_state
with_state-there nodes w m = rw ((tells_has_row w nodes).test m)

pub with_state-new : (nodes : List Word) (w : Word) → (In w nodes → ⊥) → with_state nodes w ≡ nodes ++ (w ∷ [])
unfolding with_state
with_state-new nodes w out = rw (told-false (tells_has_row w nodes) out)

pub with_state-longer : (nodes : List Word) (w : Word) → length nodes ≤ length (with_state nodes w)
unfolding with_state
with_state-longer nodes w = go (has_row w nodes)
  where
    go : (b : Bool) → length nodes ≤ length (cond b nodes (nodes ++ (w ∷ [])))
    go true = omega arith
    go false = omega (arith, snoc_length nodes w)

pub with_states-longer : (nodes ws : List Word) → length nodes ≤ length (with_states nodes ws)
unfolding with_states with_state
with_states-longer nodes [] = omega arith
with_states-longer nodes (w ∷ ws) =
    let one : length nodes ≤ length (with_state nodes w) = with_state-longer nodes w in
    let rest : length (with_state nodes w) ≤ length (with_states (with_state nodes w) ws) = with_states-longer (with_state nodes w) ws in
    omega arith

pub with_states-append : (nodes xs ys : List Word) → with_states nodes (xs ++ ys) ≡ with_states (with_states nodes xs) ys
unfolding with_states with_state
with_states-append nodes [] ys = refl
with_states-append nodes (w ∷ xs) ys = with_states-append (with_state nodes w) xs ys

pub with_states-more : (nodes xs : List Word) (w : Word) → with_states nodes (xs ++ (w ∷ [])) ≡ with_state (with_states nodes xs) w
unfolding with_states with_state
with_states-more nodes xs w = with_states-append nodes xs (w ∷ [])

-- states that are all there change nothing
with_states-there : (nodes ws : List Word) → ((w : Word) → In w ws → In w nodes) → with_states nodes ws ≡ nodes
unfolding with_states with_state
with_states-there nodes [] old = refl
with_states-there nodes (w ∷ ws) old =
    ap (λ (l : List Word). with_states l ws) (with_state-there nodes w (old w (here refl)))
    ∙ with_states-there nodes ws (λ u m. old u (there m))

-- ---- beginnings

-- where the parent of every state is a state, what begins a state is one
beginning_there :
    (nodes : List Word) → ((w : Word) (a : ℕ) → In (w ++ (a ∷ [])) nodes → In w nodes) →
    (w v : Word) → In (w ++ v) nodes → In w nodes
beginning_there nodes parent w [] m = Memᴰ.cast (sym (append-nil w)) m
beginning_there nodes parent w (a ∷ v) m =
    parent w a (beginning_there nodes parent (w ++ (a ∷ [])) v (Memᴰ.cast (append_assoc w (a ∷ []) v) m))

-- so the beginnings of a row that is a state change nothing
pub row_there :
    (nodes : List Word) → ((w : Word) (a : ℕ) → In (w ++ (a ∷ [])) nodes → In w nodes) →
    (row : Word) → In row nodes → with_states nodes (beginnings row) ≡ nodes
row_there nodes parent row m =
    with_states-there nodes (beginnings row)
    (λ w b. let r = beginnings-in row w b in beginning_there nodes parent w r.0 (Memᴰ.cast r.1 m))

-- the beginnings of a word with another after it are its own, and then others
pub beginnings-append : (u v : Word) → (rest : List Word) × (beginnings (u ++ v) ≡ beginnings u ++ rest)
unfolding beginnings
beginnings-append [] [] = ([], refl)
beginnings-append [] (x ∷ v) = (map (λ (w : Word). x ∷ w) (beginnings v), refl)
beginnings-append (x ∷ u) v =
    let r = beginnings-append u v in
    let f : Word → Word = λ (w : Word). x ∷ w in (
      map f r.0,
      ap (λ (l : List Word). [] ∷ l) (ap (map f) r.1 ∙ map-append f (beginnings u) r.0),
    )

pub beginnings-more : (w : Word) (a : ℕ) → beginnings (w ++ (a ∷ [])) ≡ beginnings w ++ ((w ++ (a ∷ [])) ∷ [])
unfolding beginnings
beginnings-more [] a = refl
beginnings-more (x ∷ w) a =
    let f : Word → Word = λ (u : Word). x ∷ u in
    ap (λ (l : List Word). [] ∷ l) (ap (map f) (beginnings-more w a) ∙ map-append f (beginnings w) ((w ++ (a ∷ [])) ∷ []))

-- the states after the first i entries of a row
unfoldable pub walked : List Word → Word → ℕ → List Word
walked nodes row i = with_states nodes (beginnings (take i row))

pub walked_none : (nodes : List Word) (row : Word) → In [] nodes → walked nodes row 0 ≡ nodes
unfolding walked beginnings with_states with_state
walked_none nodes row m = with_state-there nodes [] m

pub walked_more : (nodes : List Word) (row : Word) (i : ℕ) → i < length row
    → walked nodes row (suc i) ≡ with_state (walked nodes row i) (take i row ++ (get_or row i 0 ∷ []))
unfolding walked
walked_more nodes row i h =
    ap (λ (w : Word). with_states nodes (beginnings w)) (take-suc row i 0 h)
    ∙ ap (with_states nodes) (beginnings-more (take i row) (get_or row i 0))
    ∙ with_states-more nodes (beginnings (take i row)) (take i row ++ (get_or row i 0 ∷ []))

pub walked-longer : (nodes : List Word) (row : Word) (i : ℕ)
    → length (walked nodes row i) ≤ length (with_states nodes (beginnings row))
unfolding walked
walked-longer nodes row i =
    let r = beginnings-append (take i row) (drop i row) in
    let whole : beginnings row ≡ beginnings (take i row) ++ r.0 = ap beginnings (sym (take-append-drop i row)) ∙ r.1 in
    let same : with_states nodes (beginnings row) ≡ with_states (with_states nodes (beginnings (take i row))) r.0 =
    ap (with_states nodes) whole ∙ with_states-append nodes (beginnings (take i row)) r.0 in
    omega (arith, with_states-longer (with_states nodes (beginnings (take i row))) r.0, ap length same)

-- ---- a row more

with_rows-more : (nodes rows : List Word) (row : Word)
    → with_rows nodes (rows ++ (row ∷ [])) ≡ with_states (with_rows nodes rows) (beginnings row)
unfolding with_rows
with_rows-more nodes [] row = refl
with_rows-more nodes (r ∷ rows) row = with_rows-more (with_states nodes (beginnings r)) rows row

pub tree_of-more : (s : List ℕ) (a n : ℕ)
    → tree_of (fields_at s a (suc n)) ≡ with_states (tree_of (fields_at s a n)) (beginnings (body_at s (offset_at s a n)))
unfolding tree_of
tree_of-more s a n =
    ap (λ (rows : List Word). with_rows ([] ∷ []) rows) (fields_more s a n)
    ∙ with_rows-more ([] ∷ []) (fields_at s a n) (body_at s (offset_at s a n))

tree_of-step : (s : List ℕ) (a n : ℕ) → length (tree_of (fields_at s a n)) ≤ length (tree_of (fields_at s a (suc n)))
tree_of-step s a n =
    omega (
      arith,
      with_states-longer (tree_of (fields_at s a n)) (beginnings (body_at s (offset_at s a n))),
      ap length (tree_of-more s a n),
    )

-- more rows, no fewer states
pub tree_of-longer : (s : List ℕ) (a i n : ℕ) → i ≤ n → length (tree_of (fields_at s a i)) ≤ length (tree_of (fields_at s a n))
tree_of-longer s a i zero h =
    let none : i ≡ 0 = omega arith in
    omega (arith, ap (λ (k : ℕ). length (tree_of (fields_at s a k))) none)
tree_of-longer s a i (suc n) h =
    ⊎_elim (λ e. omega (arith, ap (λ (k : ℕ). length (tree_of (fields_at s a k))) e))
    (λ d.
    let before : length (tree_of (fields_at s a i)) ≤ length (tree_of (fields_at s a n)) = tree_of-longer s a i n (omega (arith, d)) in
    omega (arith, tree_of-step s a n))
    (eq_dec i (suc n))
