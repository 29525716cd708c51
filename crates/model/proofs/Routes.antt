-- The paths that the context rule runs over, as walks: a path taken apart after each of its arcs, a path for any two walks in
-- succession, and what `after_same_arc` tells of two paths. Assumes nothing.
use mathlib.Core.Path.{◌≡◌, refl, sym, ap, ◌∙◌, subst}
use mathlib.Core.Bool.{Bool, true, false, false≢true}
use mathlib.Core.List.Memᴰ.{head as here}
use mathlib.Core.List.{List, [], ◌∷◌, ◌++◌, map, Memᴰ as In}
use mathlib.Core.List.Memᴰ
use Prim.Native.Nat.{ℕ, zero, suc, ◌-◌, ◌≤◌}
use native.Mathlib.Omega.{arith}
use lib.Dec.{eqb}
use lib.ListN.{length, get_or, take, drop}
use Rattle.model.specs.Classes.{Word}
use Rattle.base.specs.Lists.{numbers_from}
use Rattle.model.specs.Joinings.{Transition, transition, Route, route, routes_from, after_same_arc}
use Rattle.base.proofs.Tests.{Tells, tells_eqb, tells_and, tells_any, tells_by}
use Rattle.base.proofs.Lists.{map-in, in_flat_map, flat_map-in}
use Rattle.base.proofs.Places.{in_numbers_from, numbers_from-in}
use Rattle.model.proofs.Notions.{Walks}

-- x and y stand after the same arc of two paths
pub tells_after_same_arc :
    (k h x y : ℕ) (r s : Route) →
    Tells (after_same_arc k h x y r s)
    ((i : ℕ) × (h ≤ i) × (i ≤ k) × (get_or r.groups i 0 ≡ x) × (get_or s.groups i 0 ≡ y))
unfolding after_same_arc
tells_after_same_arc k h x y r s =
    tells_by
    (tells_any (λ i. tells_and (tells_eqb (get_or r.groups i 0) x) (tells_eqb (get_or s.groups i 0) y))
    (numbers_from (suc k - h) h))
    (λ f. let b = numbers_from-in (suc k - h) h f.0 f.1 in (f.0, b.0, omega (arith, b.0, b.1), f.2.0, f.2.1))
    (λ f. (f.0, in_numbers_from (suc k - h) h f.0 f.1 (omega (arith, f.1, f.2)), (f.3, f.4)))

module _ (ts : List Transition) where
  -- ---- a path taken apart

  -- a path of one arc more: its first arc, and the rest of it
  abbrev Steps : ℕ → ℕ → Route → Type 0
  Steps n g r =
      (a z : ℕ) × In (transition g a z) ts × (s : Route) × In s (routes_from ts n z) × (r ≡ route (a ∷ s.names) (g ∷ s.groups))

  -- every path of one arc more is such a step
  route-steps : (n g : ℕ) (r : Route) → In r (routes_from ts (suc n) g) → Steps n g r
  unfolding routes_from
  route-steps n g r m =
      let f = flat_map-in _ ts m in
      go f.0 f.1 (eqb f.0.from g) refl f.2
    where
      go :
          (t : Transition) → In t ts → (b : Bool) → eqb t.from g ≡ b →
          In r (elim b as (λ x. List Route) [
            | true ↦ map (λ (s : Route). route (t.name ∷ s.names) (g ∷ s.groups)) (routes_from ts n t.to)
            | false ↦ []
          ]) →
          Steps n g r
      go t k true e l =
          let f = map-in (λ (s : Route). route (t.name ∷ s.names) (g ∷ s.groups)) (routes_from ts n t.to) l in (
            t.name,
            t.to,
            Memᴰ.cast (ap (λ (x : ℕ). transition x t.name t.to) (sym ((tells_eqb t.from g).fact e))) k,
            f.0,
            f.1,
            f.2,
          )
      go t k false e l = absurd (Memᴰ.not-nil l)

  -- a path has as many names as arcs
  pub route-length : (n g : ℕ) (r : Route) → In r (routes_from ts n g) → length r.names ≡ n
  unfolding routes_from
  route-length zero g r m = ap (λ (s : Route). length s.names) (Memᴰ.eq_of_singleton m)
  route-length (suc n) g r m =
      let f = route-steps n g r m in
      ap (λ (s : Route). length s.names) f.5 ∙ ap suc (route-length n f.1 f.3 f.4)

  -- a path is walked up to the group after its i-th arc, and on from there
  abbrev pub Through : ℕ → Route → ℕ → Type 0
  Through g r i =
      Walks ts g (take i r.names) (get_or r.groups i 0)
      × ((e : ℕ) × Walks ts (get_or r.groups i 0) (drop i r.names) e)

  -- that is so of each of its arcs
  pub route-through : (n g : ℕ) (r : Route) (i : ℕ) → In r (routes_from ts n g) → i ≤ n → Through g r i
  unfolding routes_from
  route-through zero g r zero m h = subst (λ (s : Route). Through g s zero) (sym (Memᴰ.eq_of_singleton m)) (refl, (g, refl))
  route-through zero g r (suc i) m h = let z : ⊥ = omega arith in absurd z
  route-through (suc n) g r zero m h =
      let f = route-steps n g r m in
      let again = route-through n f.1 f.3 zero f.4 (omega arith) in
      let on = subst (λ (x : ℕ). Walks ts x f.3.names again.1.0) (sym again.0) again.1.1 in
      subst (λ (s : Route). Through g s zero) (sym f.5)
      (refl, (again.1.0, (f.1, f.2, on)))
  route-through (suc n) g r (suc i) m h =
      let f = route-steps n g r m in
      let again = route-through n f.1 f.3 i f.4 (omega arith) in
      subst (λ (s : Route). Through g s (suc i)) (sym f.5) ((f.1, f.2, again.0), again.1)

  -- ---- a path for two walks in succession

  -- an arc in front of a path
  route-with : (n g a z : ℕ) (s : Route) → In (transition g a z) ts → In s (routes_from ts n z) →
      In (route (a ∷ s.names) (g ∷ s.groups)) (routes_from ts (suc n) g)
  unfolding routes_from
  route-with n g a z s m k = in_flat_map _ ts m (go (eqb g g) ((tells_eqb g g).test refl))
    where
      go : (b : Bool) → b ≡ true →
          In (route (a ∷ s.names) (g ∷ s.groups)) (elim b as (λ x. List Route) [
            | true ↦ map (λ (r : Route). route (a ∷ r.names) (g ∷ r.groups)) (routes_from ts n z)
            | false ↦ []
          ])
      go true e = Memᴰ.map (λ (r : Route). route (a ∷ r.names) (g ∷ r.groups)) k
      go false e = absurd (false≢true e)

  -- a path by these names whose group after arc i is x
  abbrev pub RouteBy : ℕ → Word → ℕ → ℕ → Type 0
  RouteBy g p i x = (r : Route) × In r (routes_from ts (length p) g) × (r.names ≡ p) × (get_or r.groups i 0 ≡ x)

  -- a walk gives a path from its first group
  route-along : (p : Word) (g y : ℕ) → Walks ts g p y → RouteBy g p 0 g
  unfolding routes_from
  route-along [] g y f = (route [] (g ∷ []), here refl, refl, refl)
  route-along (a ∷ p) g y f =
      let r = route-along p f.0 y f.2 in (
        route (a ∷ r.0.names) (g ∷ r.0.groups),
        route-with (length p) g a f.0 r.0 f.1 r.1,
        ap (λ (q : Word). a ∷ q) r.2,
        refl,
      )

  -- two walks give one through the group between them
  pub route-by : (p q : Word) (g x y : ℕ) → Walks ts g p x → Walks ts x q y → RouteBy g (p ++ q) (length p) x
  route-by [] q g x y f k = subst (λ (z : ℕ). RouteBy z q 0 x) (sym f) (route-along q x y k)
  route-by (a ∷ p) q g x y f k =
      let r = route-by p q f.0 x y f.2 k in (
        route (a ∷ r.0.names) (g ∷ r.0.groups),
        route-with (length (p ++ q)) g a f.0 r.0 f.1 r.1,
        ap (λ (v : Word). a ∷ v) r.2,
        r.3,
      )
