-- The arcs out of a group: exactly the automaton's, in strictly ascending names. First what ascending names tell of an arc,
-- then one arc put among others, then all arcs of a group. Assumes nothing.
use mathlib.Core.Path.{◌≡◌, refl, sym, ap, ap₂, ◌∙◌, subst}
use mathlib.Core.Logic.{◌⊎◌, inl, inr, ⊎_elim}
use mathlib.Core.Bool.{Bool, true, false, cond, false≢true}
use mathlib.Core.List.Memᴰ.{head as here}
use mathlib.Core.List.Memᴰ.{tail as there}
use mathlib.Core.List.{List, [], ◌∷◌, Memᴰ as In}
use mathlib.Core.List.Memᴰ
use Prim.Native.Nat.{ℕ, zero, suc, ◌≤◌}
use native.Mathlib.Omega.{arith}
use lib.Dec.{eqb, ltb}
use lib.ListN.{get_or}
use borrow.Author.Tests.{eqb-true, eqb-false, eq-eqb, ltb-true, ltb-false}
use Rattle.model.specs.Tables.{Arc, arc, Ascending, State, empty_state}
use Rattle.model.specs.Joinings.{Transition, transition, Deterministic}
use Rattle.model.specs.Quotients.{put_arc, arcs_out_of}

-- no name is below where they begin
pub ascending_low : (next : ℕ) (arcs : List Arc) (z : Arc) → Ascending next arcs → In z arcs → next ≤ z.name
ascending_low next [] z p m = absurd (Memᴰ.not-nil m)
ascending_low next (a ∷ arcs) z p m = go (ascending_low (suc a.name) arcs z p.1) (Memᴰ.cases_cons m)
  where
    go : (In z arcs → suc a.name ≤ z.name) → (z ≡ a) ⊎ In z arcs → next ≤ z.name
    go again (inl e) = subst (λ (x : Arc). next ≤ x.name) (sym e) p.0
    go again (inr n) =
        let low : suc a.name ≤ z.name = again n in
        let first : next ≤ a.name = p.0 in
        omega arith

-- arcs that ascend in each state ascend at each place: past the end there are none
pub ascending_at :
    (states : List State) → ((s : State) → In s states → Ascending 0 s.arcs) → (q : ℕ) →
    Ascending 0 (get_or states q empty_state).arcs
ascending_at [] up q = tt
ascending_at (s ∷ states) up zero = up s (here refl)
ascending_at (s ∷ states) up (suc q) = ascending_at states (λ x m. up x (there m)) q

-- an arc with a name above the first one's stands after it
pub after_first : (x : Arc) (arcs : List Arc) (z : Arc) → suc x.name ≤ z.name → In z (x ∷ arcs) → In z arcs
after_first x arcs z above m = go (Memᴰ.cases_cons m)
  where
    go : (z ≡ x) ⊎ In z arcs → In z arcs
    go (inl e) =
        let same : z.name ≡ x.name = ap (λ (y : Arc). y.name) e in
        let no : ⊥ = omega arith in
        absurd no
    go (inr n) = n

-- ---- one arc put among others

-- names still ascend
put_arc-ascending :
    (n to next : ℕ) (arcs : List Arc) → Ascending next arcs → next ≤ n → Ascending next (put_arc n to arcs)
unfolding put_arc
put_arc-ascending n to next [] p h = (h, tt)
put_arc-ascending n to next (a ∷ arcs) p h =
    go (eqb n a.name) refl (ltb n a.name) refl (put_arc-ascending n to (suc a.name) arcs p.1)
  where
    go :
        (b : Bool) → eqb n a.name ≡ b → (c : Bool) → ltb n a.name ≡ c →
        (suc a.name ≤ n → Ascending (suc a.name) (put_arc n to arcs)) →
        Ascending next
        (elim b [ true ↦ a ∷ arcs | false ↦ elim c [ true ↦ arc n to ∷ (a ∷ arcs) | false ↦ a ∷ put_arc n to arcs ] ])
    go true e c f again = p
    go false e true f again = (h, (ltb-true n a.name f, p.1))
    go false e false f again =
        let below : a.name ≤ n = ltb-false n a.name f in
        let other : n ≡ a.name → ⊥ = eqb-false n a.name e in
        (p.0, again (omega arith))

-- what is there is the new arc, or was there
put_arc-in : (n to : ℕ) (arcs : List Arc) (z : Arc) → In z (put_arc n to arcs) → (z ≡ arc n to) ⊎ In z arcs
unfolding put_arc
put_arc-in n to [] z m = inl (Memᴰ.eq_of_singleton m)
put_arc-in n to (a ∷ arcs) z m = go (eqb n a.name) (ltb n a.name) (put_arc-in n to arcs z) m
  where
    go :
        (b c : Bool) → (In z (put_arc n to arcs) → (z ≡ arc n to) ⊎ In z arcs) →
        In z (elim b [ true ↦ a ∷ arcs | false ↦ elim c [ true ↦ arc n to ∷ (a ∷ arcs) | false ↦ a ∷ put_arc n to arcs ] ]) →
        (z ≡ arc n to) ⊎ In z (a ∷ arcs)
    go true c again k = inr k
    go false true again k = Memᴰ.cases_cons k
    go false false again k =
        ⊎_elim (λ e. inr (here e)) (λ r. ⊎_elim (λ e. inl e) (λ q. inr (there q)) (again r)) (Memᴰ.cases_cons k)

-- what was there stays
in_put_arc : (n to : ℕ) (arcs : List Arc) (z : Arc) → In z arcs → In z (put_arc n to arcs)
unfolding put_arc
in_put_arc n to [] z m = absurd (Memᴰ.not-nil m)
in_put_arc n to (a ∷ arcs) z m = go (eqb n a.name) (ltb n a.name) (in_put_arc n to arcs z)
  where
    go :
        (b c : Bool) → (In z arcs → In z (put_arc n to arcs)) →
        In z (elim b [ true ↦ a ∷ arcs | false ↦ elim c [ true ↦ arc n to ∷ (a ∷ arcs) | false ↦ a ∷ put_arc n to arcs ] ])
    go true c again = m
    go false true again = there m
    go false false again = ⊎_elim (λ e. here e) (λ q. there (again q)) (Memᴰ.cases_cons m)

-- the new arc is there, if no other of its name was
new_in_put_arc :
    (n to : ℕ) (arcs : List Arc) → ((y : ℕ) → In (arc n y) arcs → y ≡ to) → In (arc n to) (put_arc n to arcs)
unfolding put_arc
new_in_put_arc n to [] only = here refl
new_in_put_arc n to (a ∷ arcs) only =
    go (eqb n a.name) refl (ltb n a.name) (new_in_put_arc n to arcs (λ y m. only y (there m)))
  where
    go :
        (b : Bool) → eqb n a.name ≡ b → (c : Bool) → In (arc n to) (put_arc n to arcs) →
        In (arc n to)
        (elim b [ true ↦ a ∷ arcs | false ↦ elim c [ true ↦ arc n to ∷ (a ∷ arcs) | false ↦ a ∷ put_arc n to arcs ] ])
    go true e c again =
        let name : n ≡ a.name = eqb-true n a.name e in
        let target : a.to ≡ to = only a.to (here (ap (λ (k : ℕ). arc k a.to) name)) in
        here (ap₂ arc name (sym target))
    go false e true again = here refl
    go false e false again = there again

-- ---- the arcs out of a group

-- the arcs out of a group ascend
pub arcs_out_of-ascending : (g : ℕ) (ts : List Transition) → Ascending 0 (arcs_out_of g ts)
unfolding arcs_out_of
arcs_out_of-ascending g [] = tt
arcs_out_of-ascending g (t ∷ ts) = go (eqb t.from g) (arcs_out_of-ascending g ts)
  where
    go :
        (b : Bool) → Ascending 0 (arcs_out_of g ts) →
        Ascending 0 (cond b (put_arc t.name t.to (arcs_out_of g ts)) (arcs_out_of g ts))
    go true again = put_arc-ascending t.name t.to 0 (arcs_out_of g ts) again (omega arith)
    go false again = again

-- every arc out of a group is the automaton's, and none is missing where it is deterministic
pub arcs_out_of-in : (g a y : ℕ) (ts : List Transition) → In (arc a y) (arcs_out_of g ts) → In (transition g a y) ts
unfolding arcs_out_of
arcs_out_of-in g a y [] m = absurd (Memᴰ.not-nil m)
arcs_out_of-in g a y (t ∷ ts) m = go (eqb t.from g) refl (arcs_out_of-in g a y ts) m
  where
    go :
        (b : Bool) → eqb t.from g ≡ b → (In (arc a y) (arcs_out_of g ts) → In (transition g a y) ts) →
        In (arc a y) (cond b (put_arc t.name t.to (arcs_out_of g ts)) (arcs_out_of g ts)) → In (transition g a y) (t ∷ ts)
    go true e again k =
        let from : g ≡ t.from = sym (eqb-true t.from g e) in
        ⊎_elim
        (λ p. here (ap₂ (λ (x : ℕ) (z : Arc). transition x z.name z.to) from p))
        (λ q. there (again q))
        (put_arc-in t.name t.to (arcs_out_of g ts) (arc a y) k)
    go false e again k = there (again k)

pub in_arcs_out_of :
    (g a y : ℕ) (ts : List Transition) → Deterministic ts → In (transition g a y) ts → In (arc a y) (arcs_out_of g ts)
unfolding arcs_out_of
in_arcs_out_of g a y [] det m = absurd (Memᴰ.not-nil m)
in_arcs_out_of g a y (t ∷ ts) det m =
    go (eqb t.from g) refl (in_arcs_out_of g a y ts (λ x b v w p q. det x b v w (there p) (there q)))
    (Memᴰ.cases_cons m)
  where
    go :
        (b : Bool) → eqb t.from g ≡ b → (In (transition g a y) ts → In (arc a y) (arcs_out_of g ts)) →
        (transition g a y ≡ t) ⊎ In (transition g a y) ts →
        In (arc a y) (cond b (put_arc t.name t.to (arcs_out_of g ts)) (arcs_out_of g ts))
    go true e again (inl p) =
        let name : a ≡ t.name = ap (λ (z : Transition). z.name) p in
        let to : y ≡ t.to = ap (λ (z : Transition). z.to) p in
        let only : (z : ℕ) → In (arc t.name z) (arcs_out_of g ts) → z ≡ t.to =
        λ z k. det g t.name z t.to (there (arcs_out_of-in g t.name z ts k))
        (here (ap (λ (x : ℕ). transition x t.name t.to) (sym (eqb-true t.from g e)))) in
        Memᴰ.cast (ap₂ arc name to) (new_in_put_arc t.name t.to (arcs_out_of g ts) only)
    go true e again (inr q) = in_put_arc t.name t.to (arcs_out_of g ts) (arc a y) (again q)
    go false e again (inl p) =
        absurd (false≢true (sym e ∙ eq-eqb t.from g (sym (ap (λ (z : Transition). z.from) p))))
    go false e again (inr q) = again q
