-- How many names suffice: sums that bound each other; what `within` tells; and that a number of names below the number of states suffices
-- wherever any does. Assumes nothing.
use mathlib.Core.Path.{◌≡◌, refl, sym, ap, ◌∙◌, subst}
use mathlib.Core.Logic.{◌⊎◌, inl, inr, ⊎_elim}
use mathlib.Core.Bool.{Bool, true, false, ◌||◌}
use mathlib.Core.List.Memᴰ.{head as here}
use mathlib.Core.List.Memᴰ.{tail as there}
use mathlib.Core.List.{List, [], ◌∷◌, Memᴰ as In}
use mathlib.Core.List.Memᴰ
use Prim.Native.Nat.{ℕ, zero, suc, ◌≤◌, ◌<◌}
use native.Mathlib.Omega.{arith}
use lib.ListN.{length, get_or, get_or-map}
use Rattle.base.specs.Limits.{when}
use Rattle.base.specs.Lists.{any, total, how_many, numbers_from}
use Rattle.base.proofs.Tests.{Tells, tells_by, tells_itself, tells_or, tells_any, le_or_lt}
use Rattle.base.proofs.Places.{length-numbers_from, in_numbers_from}
use Rattle.base.proofs.Totals.{total-le, many_few, many_some}
use Rattle.model.specs.Tables.{Arc, arc, State, empty_state}
use Rattle.model.specs.Classes.{Word}
use Rattle.model.specs.Sources.{AdmittedFrom}
use Rattle.model.proofs.Reached.{target_of_lem}
use Rattle.model.proofs.Walkable.{target_arc}
use Rattle.model.proofs.TableWalks.{admitted-in}
use Rattle.endings.specs.Live.{within, ArcsAscend}
use Rattle.endings.proofs.NameByName.{tells_none, admitted-cons, cons_admitted}

-- ---- sums

-- terms that are if_none greater than others, in a sum that is not less than theirs, are if_none less
total-tight :
    {A : Type 0} (f g : A → ℕ) (xs : List A) → ((x : A) → In x xs → f x ≤ g x) → total g xs ≤ total f xs →
    (x : A) → In x xs → g x ≤ f x
unfolding total
total-tight f g [] low most x m = absurd (Memᴰ.not-nil m)
total-tight {A} f g (y ∷ ys) low most x m =
    let first : f y ≤ g y = low y (here refl) in
    let rest : total f ys ≤ total g ys = total-le f g ys (λ z k. low z (there k)) in
    ⊎_elim (λ (e : x ≡ y). subst (λ (z : A). g z ≤ f z) (sym e) (omega arith))
    (λ k. total-tight f g ys (λ z n. low z (there n)) (omega arith) x k) (Memᴰ.cases_cons m)

-- of two tests, one that counts no more than the other is true only where the other is
when_true : (b c : Bool) → when b 1 ≤ when c 1 → b ≡ true → c ≡ true
when_true b true low e = refl
when_true b false low e =
    let one : when b 1 ≡ 1 = ap (λ (x : Bool). when x 1) e in
    let z : ⊥ = omega arith in
    absurd z

-- and back
true_when : (b c : Bool) → (b ≡ true → c ≡ true) → when b 1 ≤ when c 1
true_when true c follows =
    let one : when c 1 ≡ 1 = ap (λ (x : Bool). when x 1) (follows refl) in
    omega arith
true_when false c follows = omega arith

module _ (states : List State) where
  -- ---- so many names

  -- a word of at most n names is admitted from the state
  abbrev pub Within : ℕ → ℕ → Type 0
  Within n q = (w : Word) × (length w ≤ n) × AdmittedFrom states q w

  -- the test of it
  abbrev pub is_within : ℕ → ℕ → Bool
  is_within n q = get_or (within states n) q false

  -- its two cases, by the state
  within-zero : (q : ℕ) → is_within 0 q ≡ (get_or states q empty_state).accepts
  unfolding within
  within-zero q = get_or-map (λ (s : State). s.accepts) states q empty_state

  within-suc :
      (n q : ℕ) →
      is_within (suc n) q
      ≡ ((get_or states q empty_state).accepts || any (λ (a : Arc). is_within n a.to) (get_or states q empty_state).arcs)
  unfolding within any
  within-suc n q =
      get_or-map (λ (s : State). s.accepts || any (λ (a : Arc). is_within n a.to) s.arcs) states q empty_state

  -- a word of no names
  no_names : (q : ℕ) → Within 0 q → AdmittedFrom states q []
  no_names q ([], short, h) = h
  no_names q (x ∷ w, short, h) = let z : ⊥ = omega arith in absurd z

  -- a word of at most n + 1 names is none, or an arc and a word of at most n names from its target
  by_first_lem :
      ArcsAscend states → (n q : ℕ) →
      ((get_or states q empty_state).accepts ≡ true) ⊎ ((a : Arc) × In a (get_or states q empty_state).arcs × Within n a.to) →
      Within (suc n) q
  by_first_lem up n q (inl e) = ([], omega arith, (tells_none states q).fact e)
  by_first_lem up n q (inr r) =
      let a : Arc = r.0 in
      let short : length r.2.0 ≤ n = r.2.1 in (
        a.name ∷ r.2.0,
        omega arith,
        admitted-cons states q a.to a.name r.2.0 (target_of_lem 0 (get_or states q empty_state).arcs a (up q) r.1) r.2.2,
      )

  -- and back
  first_of_lem :
      (n q : ℕ) → Within (suc n) q →
      ((get_or states q empty_state).accepts ≡ true) ⊎ ((a : Arc) × In a (get_or states q empty_state).arcs × Within n a.to)
  first_of_lem n q ([], short, h) = inl ((tells_none states q).test h)
  first_of_lem n q (x ∷ w, short, h) =
      let r = cons_admitted states q x w h in
      inr (arc x r.0, target_arc x r.0 (get_or states q empty_state).arcs r.1, (w, omega arith, r.2))

  module _ (up : ArcsAscend states) where
    -- the test tells it
    pub tells-within : (n q : ℕ) → Tells (is_within n q) (Within n q)
    tells-within zero q =
        subst (λ (b : Bool). Tells b (Within 0 q)) (sym (within-zero q))
        (tells_by (tells_none states q) (λ h. ([], omega arith, h)) (no_names q))
    tells-within (suc n) q =
        subst (λ (b : Bool). Tells b (Within (suc n) q)) (sym (within-suc n q))
        (tells_by
        (tells_or (tells_itself (get_or states q empty_state).accepts)
        (tells_any (λ a. tells-within n a.to) (get_or states q empty_state).arcs))
        (by_first_lem up n q) (first_of_lem n q))

    -- more names suffice too
    more_names : (n m q : ℕ) → n ≤ m → is_within n q ≡ true → is_within m q ≡ true
    more_names n m q low e =
        let r = (tells-within n q).fact e in
        let short : length r.0 ≤ n = r.1 in
        (tells-within m q).test (r.0, omega arith, r.2)

    -- ---- fewer names than states

    -- so many names suffice wherever any number does
    abbrev Enough : ℕ → Type 0
    Enough n = (w : Word) (q : ℕ) → AdmittedFrom states q w → is_within n q ≡ true

    -- they do if one name more is of no use from any state
    enough-if : (n : ℕ) → ((q : ℕ) → is_within (suc n) q ≡ true → is_within n q ≡ true) → Enough n
    enough-if n no-use [] q h = (tells-within n q).test ([], omega arith, h)
    enough-if n no-use (x ∷ w) q h =
        let r = cons_admitted states q x w h in
        let after = (tells-within n r.0).fact (enough-if n no-use w r.0 r.2) in
        let short : length after.0 ≤ n = after.1 in
        no-use q ((tells-within (suc n) q).test (x ∷ after.0, omega arith, admitted-cons states q r.0 x after.0 r.1 after.2))

    -- from how many states n names suffice
    abbrev count : ℕ → ℕ
    count n = how_many (is_within n) (numbers_from (length states) 0)

    -- from no more than there are
    count-few : (n : ℕ) → count n ≤ length states
    count-few n =
        let few = many_few (is_within n) (numbers_from (length states) 0) in
        omega (arith, few, length-numbers_from (length states) 0)

    -- a state from which they suffice is a state of the table
    numbered : (n q : ℕ) → is_within n q ≡ true → In q (numbers_from (length states) 0)
    numbered n q e =
        let r = (tells-within n q).fact e in
        in_numbers_from (length states) 0 q (omega arith) (omega (arith, admitted-in states q r.0 r.2))

    -- if one name more adds no state, these names are enough
    enough-by-count : (n : ℕ) → count (suc n) ≤ count n → Enough n
    enough-by-count n most =
        enough-if n (λ q e.
        when_true (is_within (suc n) q) (is_within n q)
        (total-tight (λ (k : ℕ). when (is_within n k) 1) (λ (k : ℕ). when (is_within (suc n) k) 1) (numbers_from (length states) 0)
        (λ k m. true_when (is_within n k) (is_within (suc n) k) (more_names n (suc n) k (omega arith))) most q
        (numbered (suc n) q e)) e)

    -- n names are enough, or suffice from more than n states
    enough-or-many : (n : ℕ) → Enough n ⊎ (n < count n)
    enough-or-many zero = ⊎_elim (λ none. inl (if_none none)) inr (le_or_lt (count 0) 0)
      where
        if_none : count 0 ≤ 0 → Enough 0
        if_none none w q h =
            let at_end_fact : is_within 0 h.end ≡ true = within-zero h.end ∙ h.accepting in
            let some : 0 < count 0 =
            many_some (is_within 0) (numbers_from (length states) 0) h.end (numbered 0 h.end at_end_fact) at_end_fact in
            let z : ⊥ = omega arith in
            absurd z
    enough-or-many (suc n) = go (enough-or-many n) (le_or_lt (count (suc n)) (count n))
      where
        go :
            Enough n ⊎ (n < count n) → (count (suc n) ≤ count n) ⊎ (count n < count (suc n)) →
            Enough (suc n) ⊎ (suc n < count (suc n))
        go (inl enough) grown = inl (λ w q h. more_names n (suc n) q (omega arith) (enough w q h))
        go (inr many) (inl most) = inl (λ w q h. more_names n (suc n) q (omega arith) (enough-by-count n most w q h))
        go (inr many) (inr grown) = inr (omega arith)

    -- so a number below that of the states is enough
    pub few-enough : (w : Word) (q : ℕ) → AdmittedFrom states q w → (n : ℕ) × (n < length states) × (is_within n q ≡ true)
    few-enough w q h = go (length states) refl
      where
        go : (size : ℕ) → length states ≡ size → (n : ℕ) × (n < length states) × (is_within n q ≡ true)
        go zero e = let z : ⊥ = omega (arith, admitted-in states q w h) in absurd z
        go (suc n) e =
            let all : n < count n → Enough n = λ (many : n < count n). enough-by-count n (omega (arith, count-few (suc n))) in
            (n, omega arith, ⊎_elim (λ enough. enough w q h) (λ many. all many w q h) (enough-or-many n))
