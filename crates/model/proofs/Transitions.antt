-- Arcs between groups by their nodes, and walks between groups. First a word's last name, then that the arcs are exactly those
-- of the tree between the groups of their ends, then walks appended, taken apart and down the tree. Assumes nothing.
use mathlib.Core.Path.{◌≡◌, refl, sym, ap, ap₂, ◌∙◌, subst}
use mathlib.Core.Logic.{⊎_elim}
use mathlib.Core.List.Memᴰ.{head as here}
use mathlib.Core.List.{List, [], ◌∷◌, ◌++◌, drop_last, append_assoc, append-nil, Memᴰ as In}
use mathlib.Core.List.Memᴰ
use mathlib.Core.List.Memᴰ.{tail as there}
use mathlib.Core.List.{head-eq_of_cons-eq}
use mathlib.Core.List.{tail-eq_of_cons-eq, cons≢nil}
use Prim.Native.Nat.{ℕ}
use Rattle.model.specs.Classes.{Word}
use Rattle.base.proofs.Lists.{last_or-snoc}
use Rattle.base.specs.Lists.{last_or}
use Rattle.model.specs.Joinings.{Transition, transition, transitions_into, transitions_of, group_at, Deterministic}
use Rattle.model.proofs.Notions.{Tree, Fits, Walks, ◌▸◌}
use Rattle.model.proofs.Groups.{group_in}

-- ---- a word that is not empty, as a word with one name more

-- its last name put after the rest gives the word
last_split : (x : ℕ) (w : Word) → drop_last (x ∷ w) ▸ last_or x w ≡ x ∷ w
unfolding last_or
last_split x [] = refl
last_split x (y ∷ w) = ap (λ (v : Word). x ∷ v) (last_split y w)

-- of a word with one name more, the rest and the last name
drop_last_snoc : (w : Word) (a : ℕ) → drop_last (w ▸ a) ≡ w
drop_last_snoc [] a = refl
drop_last_snoc (x ∷ []) a = refl
drop_last_snoc (x ∷ y ∷ w) a = ap (λ (v : Word). x ∷ v) (drop_last_snoc (y ∷ w) a)

-- ---- arcs

-- the arc that the tree's arc into the word x w becomes
abbrev arc_into : List Word → List ℕ → ℕ → Word → Transition
arc_into nodes groups x w = transition (group_at nodes groups (drop_last (x ∷ w))) (last_or x w) (group_at nodes groups (x ∷ w))

-- every word that is not empty has its arc
in_transitions_into :
    (nodes : List Word) (groups : List ℕ) (ws : List Word) (x : ℕ) (w : Word) → In (x ∷ w) ws →
    In (arc_into nodes groups x w) (transitions_into nodes groups ws)
unfolding transitions_into
in_transitions_into nodes groups [] x w m = absurd (Memᴰ.not-nil m)
in_transitions_into nodes groups ([] ∷ ws) x w m =
    ⊎_elim (λ e. absurd (cons≢nil e)) (λ n. in_transitions_into nodes groups ws x w n) (Memᴰ.cases_cons m)
in_transitions_into nodes groups ((y ∷ v) ∷ ws) x w m =
    ⊎_elim (λ e. here (ap₂ (arc_into nodes groups) (head-eq_of_cons-eq e) (tail-eq_of_cons-eq e)))
    (λ n. there (in_transitions_into nodes groups ws x w n))
    (Memᴰ.cases_cons m)

-- each tree arc is an arc between the groups of its ends
pub in_transitions :
    (nodes : List Word) (groups : List ℕ) (w : Word) (a : ℕ) → In (w ▸ a) nodes →
    In (transition (group_at nodes groups w) a (group_at nodes groups (w ▸ a))) (transitions_of nodes groups)
unfolding transitions_of last_or
in_transitions nodes groups [] a m = in_transitions_into nodes groups nodes a [] m
in_transitions nodes groups (x ∷ w) a m =
    Memᴰ.cast
    (ap₂ (λ (v : Word) (b : ℕ). transition (group_at nodes groups v) b (group_at nodes groups (x ∷ (w ▸ a))))
    (sym (drop_last_snoc (x ∷ w) a)) (sym (last_or-snoc x w a)))
    (in_transitions_into nodes groups nodes x (w ▸ a) m)

-- every arc is that of a word
transitions_into-in :
    (nodes : List Word) (groups : List ℕ) (ws : List Word) (t : Transition) → In t (transitions_into nodes groups ws) →
    (w : Word) × (a : ℕ) × In (w ▸ a) ws × (t ≡ transition (group_at nodes groups w) a (group_at nodes groups (w ▸ a)))
unfolding transitions_into
transitions_into-in nodes groups [] t m = absurd (Memᴰ.not-nil m)
transitions_into-in nodes groups ([] ∷ ws) t m =
    let r = transitions_into-in nodes groups ws t m in
    (r.0, r.1, there r.2, r.3)
transitions_into-in nodes groups ((x ∷ v) ∷ ws) t m =
    ⊎_elim
    (λ e. (
      drop_last (x ∷ v),
      last_or x v,
      here (last_split x v),
      e
          ∙ ap (λ (z : Word). transition (group_at nodes groups (drop_last (x ∷ v))) (last_or x v) (group_at nodes groups z))
          (sym (last_split x v)),
    ))
    (λ n. let r = transitions_into-in nodes groups ws t n in (r.0, r.1, there r.2, r.3))
    (Memᴰ.cases_cons m)

-- and there is no other
pub transitions_in :
    (nodes : List Word) (groups : List ℕ) (t : Transition) → In t (transitions_of nodes groups) →
    (w : Word) × (a : ℕ) × In (w ▸ a) nodes × (t ≡ transition (group_at nodes groups w) a (group_at nodes groups (w ▸ a)))
unfolding transitions_of
transitions_in nodes groups t m = transitions_into-in nodes groups nodes t m

-- an arc between groups is an arc between two of their members
pub arc-node :
    (nodes : List Word) (groups : List ℕ) → Tree nodes → (x a z : ℕ) → In (transition x a z) (transitions_of nodes groups) →
    (v : Word) × In v nodes × In (v ▸ a) nodes × (group_at nodes groups v ≡ x) × (group_at nodes groups (v ▸ a) ≡ z)
arc-node nodes groups tree x a z m =
    let r = transitions_in nodes groups (transition x a z) m in
    let name_is : a ≡ r.1 = ap (λ (t : Transition). t.name) r.3 in
    let node : In (r.0 ▸ a) nodes = subst (λ (b : ℕ). In (r.0 ▸ b) nodes) (sym name_is) r.2 in
    let ends : z ≡ group_at nodes groups (r.0 ▸ r.1) = ap (λ (t : Transition). t.to) r.3 in (
      r.0,
      tree.parent r.0 a node,
      node,
      sym (ap (λ (t : Transition). t.from) r.3),
      subst (λ (b : ℕ). group_at nodes groups (r.0 ▸ b) ≡ z) (sym name_is) (sym ends),
    )

-- an arc leads to a group
pub target_in_lem :
    (nodes : List Word) (groups : List ℕ) → Fits nodes groups → (x a z : ℕ) →
    In (transition x a z) (transitions_of nodes groups) → In z groups
target_in_lem nodes groups fits x a z m =
    let r = transitions_in nodes groups (transition x a z) m in
    Memᴰ.cast (ap (λ (t : Transition). t.to) r.3) (group_in nodes groups (r.0 ▸ r.1) fits r.2)

-- ---- walks

-- walks in succession, and a walk taken apart
pub walks_append :
    (ts : List Transition) (x z y : ℕ) (p q : Word) → Walks ts x p z → Walks ts z q y → Walks ts x (p ++ q) y
walks_append ts x z y [] q f g = subst (λ (k : ℕ). Walks ts k q y) (sym f) g
walks_append ts x z y (a ∷ p) q f g = (f.0, f.1, walks_append ts f.0 z y p q f.2 g)

pub walks_split :
    (ts : List Transition) (x y : ℕ) (p q : Word) → Walks ts x (p ++ q) y →
    (z : ℕ) × Walks ts x p z × Walks ts z q y
walks_split ts x y [] q f = (x, refl, f)
walks_split ts x y (a ∷ p) q f =
    let r = walks_split ts f.0 y p q f.2 in
    (r.0, (f.0, f.1, r.1), r.2)

-- a deterministic automaton goes to one group
pub walks_unique :
    (ts : List Transition) → Deterministic ts → (x y z : ℕ) (p : Word) → Walks ts x p y → Walks ts x p z → y ≡ z
walks_unique ts det x y z [] f g = sym f ∙ g
walks_unique ts det x y z (a ∷ p) f g =
    walks_unique ts det f.0 y z p f.2 (subst (λ (k : ℕ). Walks ts k p z) (det x a g.0 f.0 g.1 f.1) g.2)

-- with a node what it goes on from
pub beginning_in : (nodes : List Word) → Tree nodes → (u p : Word) → In (u ++ p) nodes → In u nodes
beginning_in nodes tree u [] m = subst (λ (w : Word). In w nodes) (append-nil u) m
beginning_in nodes tree u (a ∷ p) m =
    tree.parent u a
    (beginning_in nodes tree (u ▸ a) p (subst (λ (w : Word). In w nodes) (sym (append_assoc u (a ∷ []) p)) m))

-- the tree's own way from a node down to another is walked between their groups
pub walks_down :
    (nodes : List Word) (groups : List ℕ) → Tree nodes → (u p : Word) → In (u ++ p) nodes →
    Walks (transitions_of nodes groups) (group_at nodes groups u) p (group_at nodes groups (u ++ p))
walks_down nodes groups tree u [] m = ap (group_at nodes groups) (sym (append-nil u))
walks_down nodes groups tree u (a ∷ p) m =
    let n : In ((u ▸ a) ++ p) nodes = subst (λ (w : Word). In w nodes) (sym (append_assoc u (a ∷ []) p)) m in (
      group_at nodes groups (u ▸ a),
      in_transitions nodes groups u a (beginning_in nodes tree (u ▸ a) p n),
      subst (λ (w : Word). Walks (transitions_of nodes groups) (group_at nodes groups (u ▸ a)) p (group_at nodes groups w))
          (append_assoc u (a ∷ []) p) (walks_down nodes groups tree (u ▸ a) p n),
    )
