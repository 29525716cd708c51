-- The prefix tree: its states are exactly the beginnings of rows, and the root. First what it is to extend a list of states by
-- those that are new, then that each of the three definitions of a tree does so. Assumes nothing.
use mathlib.Core.Path.{◌≡◌, refl, sym, ap, subst}
use mathlib.Core.Logic.{◌⊎◌, inl, inr, ⊎_elim}
use mathlib.Core.Bool.{Bool, true, false, cond}
use mathlib.Core.List.{List, [], ◌∷◌, ◌++◌, map, append_assoc, append-nil, append-ne-nil_of_right_ne-nil, cons≢nil}
use mathlib.Core.List.Memᴰ.{head as here}
use mathlib.Core.List.Memᴰ.{tail as there}
use mathlib.Core.List.{Memᴰ as In}
use mathlib.Core.List.Memᴰ
use Rattle.base.specs.Lists.{has_row, Distinct}
use Rattle.model.specs.Classes.{Word}
use Rattle.model.specs.Joinings.{beginnings, with_states, with_rows, tree_of}
use Rattle.base.proofs.Tests.{tells_has_row, not_told}
use Rattle.base.proofs.Lists.{distinct_snoc, map-in}
use Rattle.model.proofs.Notions.{Tree, ◌▸◌}

-- the word begins a row
abbrev pub Begins : Word → List Word → Type 0
Begins w rows = (v : Word) × In (w ++ v) rows

-- ---- beginnings

-- the beginnings of a row are those words that it goes on from
pub in_beginnings : (w v : Word) → In w (beginnings (w ++ v))
unfolding beginnings
in_beginnings [] [] = here refl
in_beginnings [] (x ∷ v) = here refl
in_beginnings (x ∷ w) v = there (Memᴰ.map (λ (u : Word). x ∷ u) (in_beginnings w v))

pub beginnings-in : (row w : Word) → In w (beginnings row) → (v : Word) × (w ++ v ≡ row)
unfolding beginnings
beginnings-in [] w m = ([], ap (λ (u : Word). u ++ []) (Memᴰ.eq_of_singleton m))
beginnings-in (x ∷ row) w m = go (λ u n. beginnings-in row u n) (Memᴰ.cases_cons m)
  where
    longer : (u : Word) → w ≡ x ∷ u → (v : Word) × (u ++ v ≡ row) → (v : Word) × (w ++ v ≡ x ∷ row)
    longer u e r = (r.0, subst (λ (z : Word). z ++ r.0 ≡ x ∷ row) (sym e) (ap (λ (z : Word). x ∷ z) r.1))

    go :
        ((u : Word) → In u (beginnings row) → (v : Word) × (u ++ v ≡ row)) →
        (w ≡ []) ⊎ In w (map (λ (u : Word). x ∷ u) (beginnings row)) → (v : Word) × (w ++ v ≡ x ∷ row)
    go again (inl e) = (x ∷ row, ap (λ (z : Word). z ++ (x ∷ row)) e)
    go again (inr n) = let r = map-in (λ (u : Word). x ∷ u) (beginnings row) n in longer r.0 r.2 (again r.0 r.1)

-- ---- states extended by new ones

-- the result lists the states that were there and the new ones, and no word twice if none was there twice
record Extends (nodes : List Word) (New : Word → Type 0) (result : List Word) : Type 0 where
  kept : (w : Word) → In w nodes → In w result
  added : (w : Word) → New w → In w result
  origin : (w : Word) → In w result → In w nodes ⊎ New w
  distinct : Distinct nodes → Distinct result

-- extended by nothing, where the new ones were there
extends_none : (nodes : List Word) (New : Word → Type 0) → ((w : Word) → New w → In w nodes) → Extends nodes New nodes
extends_none nodes New old = record { kept = λ w m. m; added = old; origin = λ w m. inl m; distinct = λ d. d }

-- extended by some and then by others
extends_then :
    {nodes between result : List Word} {P Q : Word → Type 0} →
    Extends nodes P between → Extends between Q result → Extends nodes (λ w. P w ⊎ Q w) result
extends_then {nodes} {between} {result} {P} {Q} s t =
    record {
      kept = λ w m. t.kept w (s.kept w m);
      added = λ w n. ⊎_elim (λ p. t.kept w (s.added w p)) (λ q. t.added w q) n;
      origin = λ w m. ⊎_elim (λ n. ⊎_elim (λ k. inl k) (λ p. inr (inl p)) (s.origin w n)) (λ q. inr (inr q)) (t.origin w m);
      distinct = λ d. t.distinct (s.distinct d);
    }

-- the new ones put another way
extends_by :
    {nodes result : List Word} {P Q : Word → Type 0} →
    Extends nodes P result → ((w : Word) → P w → Q w) → ((w : Word) → Q w → P w) → Extends nodes Q result
extends_by s f g =
    record {
      kept = s.kept;
      added = λ w q. s.added w (g w q);
      origin = λ w m. ⊎_elim (λ n. inl n) (λ p. inr (f w p)) (s.origin w m);
      distinct = s.distinct;
    }

-- one word more, if it is new, is an extension by that word
extends_one : (nodes : List Word) (w : Word) → Extends nodes (λ u. u ≡ w) (cond (has_row w nodes) nodes (nodes ++ (w ∷ [])))
extends_one nodes w = go (has_row w nodes) refl
  where
    go : (b : Bool) → has_row w nodes ≡ b → Extends nodes (λ u. u ≡ w) (cond b nodes (nodes ++ (w ∷ [])))
    go true e = extends_none nodes (λ u. u ≡ w) (λ u p. Memᴰ.cast p ((tells_has_row w nodes).fact e))
    go false e =
        record {
          kept = λ u m. Memᴰ.append_left (w ∷ []) m;
          added = λ u p. Memᴰ.append_right nodes (here p);
          origin = λ u m. ⊎_elim (λ n. inl n) (λ n. inr (Memᴰ.eq_of_singleton n)) (Memᴰ.append_cases nodes m);
          distinct = λ d. distinct_snoc nodes w d (not_told (tells_has_row w nodes) e);
        }

-- and so with some words, with the beginnings of some rows, and from the root on
with_states-extends : (nodes ws : List Word) → Extends nodes (λ u. In u ws) (with_states nodes ws)
unfolding with_states
with_states-extends nodes [] = extends_none nodes (λ u. In u []) (λ u m. absurd (Memᴰ.not-nil m))
with_states-extends nodes (w ∷ ws) =
    extends_by
    (extends_then (extends_one nodes w) (with_states-extends (cond (has_row w nodes) nodes (nodes ++ (w ∷ []))) ws))
    (λ u n. ⊎_elim (λ e. here e) (λ m. there m) n)
    (λ u m. Memᴰ.cases_cons m)

with_rows-extends : (nodes rows : List Word) → Extends nodes (λ u. Begins u rows) (with_rows nodes rows)
unfolding with_rows
with_rows-extends nodes [] = extends_none nodes (λ u. Begins u []) (λ u b. absurd (Memᴰ.not-nil b.1))
with_rows-extends nodes (row ∷ rows) =
    extends_by
    (extends_then (with_states-extends nodes (beginnings row)) (with_rows-extends (with_states nodes (beginnings row)) rows))
    (λ u n. ⊎_elim (λ m. let r = beginnings-in row u m in (r.0, here r.1)) (λ b. (b.0, there b.1)) n)
    (λ u b. ⊎_elim (λ e. inl (subst (λ (z : Word). In u (beginnings z)) e (in_beginnings u b.0))) (λ m. inr (b.0, m))
    (Memᴰ.cases_cons b.1))

tree_of-extends : (rows : List Word) → Extends ([] ∷ []) (λ u. Begins u rows) (tree_of rows)
unfolding tree_of
tree_of-extends rows = with_rows-extends ([] ∷ []) rows

-- ---- the prefix tree

-- what begins a row is a state, and the root is
pub begins_node : (rows : List Word) (w : Word) → Begins w rows → In w (tree_of rows)
begins_node rows w b = (tree_of-extends rows).added w b

pub root_node : (rows : List Word) → In [] (tree_of rows)
root_node rows = (tree_of-extends rows).kept [] (here refl)

-- and there is no other
pub node_begins : (rows : List Word) (w : Word) → In w (tree_of rows) → (w ≡ []) ⊎ Begins w rows
node_begins rows w m = ⊎_elim (λ n. inl (Memᴰ.eq_of_singleton n)) (λ b. inr b) ((tree_of-extends rows).origin w m)

-- where there is a row, the root begins it too
pub node_begins_row : (rows : List Word) (r : Word) → In r rows → (w : Word) → In w (tree_of rows) → Begins w rows
node_begins_row rows r m w n =
    ⊎_elim (λ e. (r, Memᴰ.cast (ap (λ (z : Word). z ++ r) e) m)) (λ b. b) (node_begins rows w n)

-- every row is a state
pub row_node : (rows : List Word) (r : Word) → In r rows → In r (tree_of rows)
row_node rows r m = begins_node rows r ([], Memᴰ.cast (append-nil r) m)

-- so it is a tree
pub tree_of-tree : (rows : List Word) → Tree (tree_of rows)
tree_of-tree rows =
    record {
      root = root_node rows;
      distinct = (tree_of-extends rows).distinct (Memᴰ.not-nil, tt);
      parent =
          λ w a m.
          ⊎_elim (λ e. absurd (append-ne-nil_of_right_ne-nil w cons≢nil e))
          (λ b. begins_node rows w ((a ∷ []) ++ b.0, Memᴰ.cast (sym (append_assoc w (a ∷ []) b.0)) b.1))
          (node_begins rows (w ▸ a) m);
    }

-- the tree of the same set of rows has the same states
pub same_nodes :
    (rows others : List Word) → ((r : Word) → In r rows → In r others) → (w : Word) → In w (tree_of rows) → In w (tree_of others)
same_nodes rows others h w m =
    ⊎_elim (λ e. Memᴰ.cast e (root_node others)) (λ b. begins_node others w (b.0, h (w ++ b.0) b.1)) (node_begins rows w m)
