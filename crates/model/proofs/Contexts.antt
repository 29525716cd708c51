-- The context rule as a fact: two paths with the same names through the two groups. First that routes are such paths and such
-- paths routes, then what `by_context` tells, then that the order of the groups does not matter. Assumes nothing.
use mathlib.Core.Path.{◌≡◌, sym, ap, ◌∙◌, subst, subst₂}
use mathlib.Core.List.{List, ◌++◌, flat_map, Memᴰ as In}
use Prim.Native.Nat.{ℕ, ◌+◌, ◌≤◌}
use native.Mathlib.Omega.{arith}
use lib.ListN.{length, get_or, take, drop, length-append, take-append-drop}
use lib.Seq.{length-take-le}
use Rattle.model.specs.Classes.{Word}
use Rattle.model.specs.Joinings.{Transition, Route, routes_from, by_context}
use Rattle.base.proofs.Tests.{Tells, tells_same, tells_and, tells_by, tells_any_two}
use Rattle.base.proofs.Lists.{in_flat_map, flat_map-in}
use Rattle.model.proofs.Routes.{tells_after_same_arc, Through, RouteBy, route-length, route-through, route-by}
use Rattle.model.proofs.Notions.{Walks}

-- two paths with the same names, p into x and y and q out of them, |p| at least h and |p| + |q| = k
pub record TwoPaths (k h : ℕ) (ts : List Transition) (groups : List ℕ) (x y : ℕ) : Type 0 where
  pub p : Word
  pub q : Word
  pub low : h ≤ length p
  pub size : length p + length q ≡ k
  pub from_x : ℕ
  pub from_y : ℕ
  pub to_x : ℕ
  pub to_y : ℕ
  pub from_x_in : In from_x groups
  pub from_y_in : In from_y groups
  pub into_x : Walks ts from_x p x
  pub into_y : Walks ts from_y p y
  pub out_of_x : Walks ts x q to_x
  pub out_of_y : Walks ts y q to_y

-- two routes that pass x and y after the same arc are such paths
two_paths :
    (k h : ℕ) (ts : List Transition) (groups : List ℕ) (x y : ℕ) (r s : Route) →
    In r (flat_map (routes_from ts k) groups) → In s (flat_map (routes_from ts k) groups) → r.names ≡ s.names →
    (i : ℕ) → h ≤ i → i ≤ k → get_or r.groups i 0 ≡ x → get_or s.groups i 0 ≡ y → TwoPaths k h ts groups x y
two_paths k h ts groups x y r s m n e i low high at_x at_y =
    record {
      p = take i r.names;
      q = drop i r.names;
      low = omega (arith, front);
      size = sym (length-append (take i r.names) (drop i r.names)) ∙ ap length (take-append-drop i r.names) ∙ long;
      from_x = from-r.0;
      from_y = from-s.0;
      to_x = through-r.1.0;
      to_y = through-s.1.0;
      from_x_in = from-r.1;
      from_y_in = from-s.1;
      into_x = subst (λ (z : ℕ). Walks ts from-r.0 (take i r.names) z) at_x through-r.0;
      into_y =
          subst₂ (λ (z : ℕ) (p : Word). Walks ts from-s.0 (take i p) z) at_y (sym e) through-s.0;
      out_of_x = subst (λ (z : ℕ). Walks ts z (drop i r.names) through-r.1.0) at_x through-r.1.1;
      out_of_y =
          subst₂ (λ (z : ℕ) (p : Word). Walks ts z (drop i p) through-s.1.0) at_y (sym e) through-s.1.1;
    }
  where
    from-r : (g : ℕ) × In g groups × In r (routes_from ts k g)
    from-r = flat_map-in (routes_from ts k) groups m

    from-s : (g : ℕ) × In g groups × In s (routes_from ts k g)
    from-s = flat_map-in (routes_from ts k) groups n

    through-r : Through ts from-r.0 r i
    through-r = route-through ts k from-r.0 r i from-r.2 high

    through-s : Through ts from-s.0 s i
    through-s = route-through ts k from-s.0 s i from-s.2 high

    long : length r.names ≡ k
    long = route-length ts k from-r.0 r from-r.2

    front : length (take i r.names) ≡ i
    front = length-take-le i r.names (omega (arith, long))

-- and such paths are routes
two_routes :
    (k h : ℕ) (ts : List Transition) (groups : List ℕ) (x y : ℕ) → TwoPaths k h ts groups x y →
    (r s : Route) × In r (flat_map (routes_from ts k) groups) × In s (flat_map (routes_from ts k) groups) ×
    ((r.names ≡ s.names) × ((i : ℕ) × (h ≤ i) × (i ≤ k) × (get_or r.groups i 0 ≡ x) × (get_or s.groups i 0 ≡ y)))
two_routes k h ts groups x y f = (
  by-x.0,
  by-y.0,
  in_flat_map (routes_from ts k) groups f.from_x_in
      (subst (λ (n : ℕ). In by-x.0 (routes_from ts n f.from_x)) long by-x.1),
  in_flat_map (routes_from ts k) groups f.from_y_in
      (subst (λ (n : ℕ). In by-y.0 (routes_from ts n f.from_y)) long by-y.1),
  (by-x.2 ∙ sym by-y.2, (length f.p, f.low, omega (arith, f.size), by-x.3, by-y.3)),
)
  where
    by-x : RouteBy ts f.from_x (f.p ++ f.q) (length f.p) x
    by-x = route-by ts f.p f.q f.from_x x f.to_x f.into_x f.out_of_x

    by-y : RouteBy ts f.from_y (f.p ++ f.q) (length f.p) y
    by-y = route-by ts f.p f.q f.from_y y f.to_y f.into_y f.out_of_y

    long : length (f.p ++ f.q) ≡ k
    long = length-append f.p f.q ∙ f.size

-- the context rule joins x and y exactly when there are such paths
pub tells_context :
    (k h : ℕ) (ts : List Transition) (groups : List ℕ) (x y : ℕ) →
    Tells (by_context k h ts groups x y) (TwoPaths k h ts groups x y)
unfolding by_context
tells_context k h ts groups x y =
    tells_by
    (tells_any_two (λ r s. tells_and (tells_same r.names s.names) (tells_after_same_arc k h x y r s))
    (flat_map (routes_from ts k) groups))
    (λ f. two_paths k h ts groups x y f.0 f.1 f.2 f.3 f.4.0 f.4.1.0 f.4.1.1
    f.4.1.2 f.4.1.3 f.4.1.4)
    (λ f. two_routes k h ts groups x y f)

-- paths from some groups are paths from the same groups listed otherwise
pub paths_from :
    (k h : ℕ) (ts : List Transition) (groups others : List ℕ) (x y : ℕ) → ((g : ℕ) → In g groups → In g others) →
    TwoPaths k h ts groups x y → TwoPaths k h ts others x y
paths_from k h ts groups others x y there-too f =
    record {
      p = f.p;
      q = f.q;
      low = f.low;
      size = f.size;
      from_x = f.from_x;
      from_y = f.from_y;
      to_x = f.to_x;
      to_y = f.to_y;
      from_x_in = there-too f.from_x f.from_x_in;
      from_y_in = there-too f.from_y f.from_y_in;
      into_x = f.into_x;
      into_y = f.into_y;
      out_of_x = f.out_of_x;
      out_of_y = f.out_of_y;
    }
