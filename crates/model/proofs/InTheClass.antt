-- What the table of a full joining admits: the rows, and a set of words of the class, and nothing that some set of the class
-- that holds the rows does without. Assumes nothing.
use mathlib.Core.Path.{◌≡◌, refl, sym, ap, ◌∙◌, subst}
use mathlib.Core.Bool.{Bool, true, false, cond}
use mathlib.Core.List.{List, [], ◌∷◌, ◌++◌, append_assoc, append-nil, Memᴰ as In}
use Prim.Native.Nat.{ℕ}
use lib.Dec.{eqb}
use Rattle.model.specs.Fields.{Class}
use Rattle.model.specs.Classes.{Word, f_of, TailsEqual, Contextual, Distinguishable, InClass}
use Rattle.model.specs.Joinings.{Transition, transition, transitions_of, group_at, group_accepts, f_of_group, tree_of}
use Rattle.model.specs.Tables.{admits}
use Rattle.model.specs.Quotients.{states_of}
use Rattle.base.proofs.Tests.{Tells}
use Rattle.model.proofs.Notions.{Walks, Ways, Inside, ◌▸◌}
use Rattle.model.proofs.Groups.{group_in, tells_accepts}
use Rattle.model.proofs.Transitions.{arc-node, target_in_lem, walks_append, walks_split, walks_unique, walks_down}
use Rattle.model.proofs.Rules.{Ruled, full_equal}
use Rattle.model.proofs.Sound.{walks_ways}
use Rattle.model.proofs.Complete.{group_f}
use Rattle.model.proofs.Functions.{f_append, tails_closed, ways_tails}
use Rattle.model.proofs.Trees.{tree_of-tree, row_node, node_begins_row}
use Rattle.model.proofs.Joined.{Joined, members_agree, joined_deterministic}
use Rattle.model.proofs.Admits.{tells_admits}
use Rattle.model.proofs.ContextualTables.{states_contextual, joined_contextual}

-- the joined automaton of the rows' prefix tree, and its start
abbrev automaton : List Word → List ℕ → List Transition
automaton rows groups = transitions_of (tree_of rows) groups

abbrev start : List Word → List ℕ → ℕ
start rows groups = group_at (tree_of rows) groups []

-- it goes by the word from the start to an accepting group
abbrev Carried : List Word → List ℕ → Word → Type 0
Carried rows groups r =
    (g : ℕ) × Walks (automaton rows groups) (start rows groups) r g × (group_accepts rows (tree_of rows) groups g ≡ true)

-- the table admits the word
abbrev pub Admits : List Word → List ℕ → Word → Type 0
Admits rows groups r = admits (states_of rows (tree_of rows) groups) r ≡ true

module _ (c : Class) (rows : List Word) (groups : List ℕ) (joined : Joined c rows groups) where
  -- admitted is what it carries to an accepting group
  told : (r : Word) → Tells (admits (states_of rows (tree_of rows) groups) r) (Carried rows groups r)
  told r =
      tells_admits rows (tree_of rows) groups (tree_of-tree rows) joined.fits (joined_deterministic c rows groups joined) r

  -- every row is admitted
  pub admits-row : (r : Word) → In r rows → Admits rows groups r
  admits-row r m =
      let node : In r (tree_of rows) = row_node rows r m in
      (told r).test (
        group_at (tree_of rows) groups r,
        walks_down (tree_of rows) groups (tree_of-tree rows) [] r node,
        (tells_accepts rows (tree_of rows) groups (group_at (tree_of rows) groups r)).test (r, node, refl, m),
      )

  -- a walk from a group ends in a group
  walks_in : (x y : ℕ) (p : Word) → In x groups → Walks (automaton rows groups) x p y → In y groups
  walks_in x y [] m f = subst (λ (g : ℕ). In g groups) f m
  walks_in x y (a ∷ p) m f =
      walks_in f.0 y p (target_in_lem (tree_of rows) groups joined.fits x a f.0 f.1) f.2

  start-in : In (start rows groups) groups
  start-in = group_in (tree_of rows) groups [] joined.fits (tree_of-tree rows).root

  -- words that lead to one group have the same tails
  one_way :
      (u w : Word) (z : ℕ) → Walks (automaton rows groups) (start rows groups) u z →
      Walks (automaton rows groups) (start rows groups) w z → (v : Word) →
      Admits rows groups (u ++ v) → Admits rows groups (w ++ v)
  one_way u w z f g v e =
      let h = (told (u ++ v)).fact e in
      let cut = walks_split (automaton rows groups) (start rows groups) h.0 u v h.1 in
      let here-too : cut.0 ≡ z =
      walks_unique (automaton rows groups) (joined_deterministic c rows groups joined)
      (start rows groups) cut.0 z u cut.1 f in
      (told (w ++ v)).test (
        h.0,
        walks_append (automaton rows groups) (start rows groups) z h.0 w v g
            (subst (λ (q : ℕ). Walks (automaton rows groups) q v h.0) here-too cut.2),
        h.2,
      )

  -- words that lead to one group have equal tails
  one_group_tails :
      (u w : Word) (z : ℕ) → Walks (automaton rows groups) (start rows groups) u z →
      Walks (automaton rows groups) (start rows groups) w z → TailsEqual (Admits rows groups) u w
  one_group_tails u w z f g = record { tails = λ v. (one_way u w z f g v, one_way w u z g f v) }

  -- kind 0: the table's states meet the condition of contexts
  pub admits-contextual : eqb c.kind 0 ≡ true → Contextual c.first c.second (Admits rows groups)
  admits-contextual kind =
      states_contextual c.first c.second (states_of rows (tree_of rows) groups) (joined_contextual c rows groups joined kind)

  -- a group's f is that of every word that leads to it
  f_walked :
      eqb c.kind 0 ≡ false → (p u : Word) (x : ℕ) → In u (tree_of rows) →
      Walks (automaton rows groups) (group_at (tree_of rows) groups u) p x →
      f_of_group c (tree_of rows) groups x ≡ f_of c (u ++ p)
  f_walked kind [] u x m f =
      ap (f_of_group c (tree_of rows) groups) (sym f)
      ∙ group_f c (tree_of rows) groups (tree_of-tree rows) joined.fits (members_agree c rows groups joined kind) u m
      ∙ ap (f_of c) (sym (append-nil u))
  f_walked kind (a ∷ p) u x m f =
      let t = arc-node (tree_of rows) groups (tree_of-tree rows) (group_at (tree_of rows) groups u) a f.0 f.1 in
      let v : Word = t.0 in
      let on : Walks (automaton rows groups) (group_at (tree_of rows) groups (v ▸ a)) p x =
      subst (λ (z : ℕ). Walks (automaton rows groups) z p x) (sym t.4) f.2 in
      let agree : f_of c v ≡ f_of c u = ((members_agree c rows groups joined kind).related v u t.1 m t.3).same_f in
      f_walked kind p (v ▸ a) x t.2 on
      ∙ ap (f_of c) (append_assoc v (a ∷ []) p)
      ∙ f_append c v u (a ∷ p) agree

  -- groups that words lead to are one where a rule joins them
  led_equal :
      (w z : Word) (x y : ℕ) → Walks (automaton rows groups) (start rows groups) w x →
      Walks (automaton rows groups) (start rows groups) z y → Ruled c rows (tree_of rows) groups x y → x ≡ y
  led_equal w z x y wx zy =
      full_equal c rows (tree_of rows) groups joined.full x y
      (walks_in (start rows groups) x w start-in wx) (walks_in (start rows groups) y z start-in zy)

  -- and have one f where the words have
  led_f :
      eqb c.kind 0 ≡ false → (w z : Word) (x y : ℕ) → Walks (automaton rows groups) (start rows groups) w x →
      Walks (automaton rows groups) (start rows groups) z y → f_of c w ≡ f_of c z →
      f_of_group c (tree_of rows) groups x ≡ f_of_group c (tree_of rows) groups y
  led_f kind w z x y wx zy e =
      f_walked kind w [] x (tree_of-tree rows).root wx ∙ e ∙ sym (f_walked kind z [] y (tree_of-tree rows).root zy)

  -- words with the same f that have a common tail lead to one group
  meet_by_f :
      eqb c.kind 0 ≡ false → (v w z : Word) (x y g h : ℕ) → f_of c w ≡ f_of c z →
      Walks (automaton rows groups) (start rows groups) w x → Walks (automaton rows groups) (start rows groups) z y →
      Walks (automaton rows groups) x v g → Walks (automaton rows groups) y v h →
      group_accepts rows (tree_of rows) groups g ≡ true → group_accepts rows (tree_of rows) groups h ≡ true → x ≡ y
  meet_by_f kind [] w z x y g h e wx zy xg yh ga ha =
      led_equal w z x y wx zy
      (Ruled.by_ends kind (led_f kind w z x y wx zy e)
      (subst (λ (q : ℕ). group_accepts rows (tree_of rows) groups q ≡ true) (sym xg) ga)
      (subst (λ (q : ℕ). group_accepts rows (tree_of rows) groups q ≡ true) (sym yh) ha))
  meet_by_f kind (a ∷ v) w z x y g h e wx zy xg yh ga ha =
      let ts = automaton rows groups in
      let on-x : Walks ts (start rows groups) (w ▸ a) xg.0 =
      walks_append ts (start rows groups) x xg.0 w (a ∷ []) wx (xg.0, xg.1, refl) in
      let on-y : Walks ts (start rows groups) (z ▸ a) yh.0 =
      walks_append ts (start rows groups) y yh.0 z (a ∷ []) zy (yh.0, yh.1, refl) in
      let one : xg.0 ≡ yh.0 =
      meet_by_f kind v (w ▸ a) (z ▸ a) xg.0 yh.0 g h (f_append c w z (a ∷ []) e) on-x on-y xg.2 yh.2 ga ha in
      led_equal w z x y wx zy
      (Ruled.by_back kind (led_f kind w z x y wx zy e) a yh.0
      (subst (λ (q : ℕ). In (transition x a q) ts) one xg.1) yh.1)

  -- kinds 1 and 2: words with the same f and a common tail meet, since nothing is open
  pub admits-distinguishable : eqb c.kind 0 ≡ false → Distinguishable c (Admits rows groups)
  admits-distinguishable kind =
      record { equal_tails = λ w z v e lw lz. meet w z v e ((told (w ++ v)).fact lw) ((told (z ++ v)).fact lz) }
    where
      meet :
          (w z v : Word) → f_of c w ≡ f_of c z → Carried rows groups (w ++ v) → Carried rows groups (z ++ v) →
          TailsEqual (Admits rows groups) w z
      meet w z v e cw cz =
          let ts = automaton rows groups in
          let x = walks_split ts (start rows groups) cw.0 w v cw.1 in
          let y = walks_split ts (start rows groups) cz.0 z v cz.1 in
          let one : x.0 ≡ y.0 =
          meet_by_f kind v w z x.0 y.0 cw.0 cz.0 e x.1 y.1 x.2 y.2 cw.2 cz.2 in
          one_group_tails w z y.0 (subst (λ (q : ℕ). Walks ts (start rows groups) w q) one x.1) y.1

  -- the set of admitted words is of the class
  pub admits-in_class : InClass c (Admits rows groups)
  admits-in_class = go (eqb c.kind 0) refl
    where
      go :
          (b : Bool) → eqb c.kind 0 ≡ b →
          cond (eqb c.kind 0) (Contextual c.first c.second (Admits rows groups)) (Distinguishable c (Admits rows groups))
      go true kind = rw kind (admits-contextual kind)
      go false kind = rw kind (admits-distinguishable kind)

  -- without rows nothing is admitted
  pub admits-none : ((r : Word) → In r rows → ⊥) → (r : Word) → Admits rows groups r → ⊥
  admits-none none r e =
      let h = (told r).fact e in
      let end = (tells_accepts rows (tree_of rows) groups h.0).fact h.2 in
      none end.0 end.3

  -- every set of words of the class that holds the rows holds what the table admits
  pub admits-smallest :
      (l : Word → Type 0) → InClass c l → ((r : Word) → In r rows → l r) → (first-row : Word) → In first-row rows →
      (r : Word) → Admits rows groups r → l r
  admits-smallest l in_class holds first-row m r e =
      let nodes = tree_of rows in
      let h = (told r).fact e in
      let end = (tells_accepts rows nodes groups h.0).fact h.2 in
      let inside : Inside nodes groups (TailsEqual l) =
      joined.inside (TailsEqual l) (tails_closed c rows nodes l in_class holds (node_begins_row rows first-row m)) in
      let way : Ways nodes (TailsEqual l) [] r end.0 =
      walks_ways nodes groups (TailsEqual l) (tree_of-tree rows) inside r [] end.0 (tree_of-tree rows).root end.1
      (subst (λ (g : ℕ). Walks (transitions_of nodes groups) (start rows groups) r g) (sym end.2) h.1) in
      let same : TailsEqual l r end.0 = ways_tails l nodes r [] end.0 way in
      subst l (append-nil r) ((same.tails []).1 (subst l (sym (append-nil end.0)) (holds end.0 end.3)))
