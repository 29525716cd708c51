-- State fields: the test of their arcs from an offset on, and what refuses a state. Assumes nothing.
use mathlib.Core.Path.{◌≡◌, refl, sym, ◌∙◌}
use mathlib.Core.Bool.{Bool, true, false, ◌&&◌, and-false}
use mathlib.Core.List.{List, [], ◌∷◌}
use Prim.Native.Nat.{ℕ, zero, suc, ◌+◌, ◌-◌, ◌≤◌, ◌<◌}
use native.Mathlib.Numerals.{add-one, add-two, add-three}
use native.Mathlib.Omega.{arith}
use borrow.Author.Tests.{lt-ltb, le-ltb, le-leb, lt-leb}
use lib.Dec.{eqb, eqb-suc-zero, leb, ltb}
use lib.ListN.{length, get_or, take, drop, length-drop, length-take}
use lib.Seq.{drop-cons, drop-drop, take-length}
use Rattle.model.specs.Fields.{arcs_ok, state_ok}

-- what is left to test from offset i on, where the next arc's name is `next` or above: as in arcsOk, for some fuel that suffices
pub record ArcsLeft (n : ℕ) (s : List ℕ) (next i : ℕ) : Type 0 where
  pub fuel : ℕ
  pub enough : length s ≤ i + fuel
  pub rest : arcs_ok fuel n next (drop i s) ≡ state_ok n s

pub state-empty : (n : ℕ) (s : List ℕ) → length s ≡ 0 → state_ok n s ≡ false
unfolding state_ok
state-empty n [] h = refl
state-empty n (b ∷ s) h = let z : ⊥ = omega arith in absurd z

pub state-first : (n : ℕ) (s : List ℕ) → 1 < get_or s 0 0 → state_ok n s ≡ false
unfolding state_ok
state-first n [] h = refl
state-first n (b ∷ s) h = rw (lt-leb b 1 h)

pub arcs_begin : (n : ℕ) (s : List ℕ) → 0 < length s → get_or s 0 0 ≤ 1 → ArcsLeft n s 0 1
unfolding state_ok
arcs_begin n [] g h = let z : ⊥ = omega arith in absurd z
arcs_begin n (b ∷ s) g h = record { fuel = length s; enough = omega arith; rest = rw (le-leb b 1 h) }

-- the test of the arc at i, then of what comes after it
abbrev arc_test : ℕ → List ℕ → ℕ → ℕ → ℕ → Bool
arc_test n s next i f =
    let a = get_or s i 0 in
    leb 2 (length s - suc i) && ((ltb a n && leb next a) && arcs_ok f n (suc a) (drop (i + 3) s))

-- with an arc at i the fuel is at least 1
arcs_turn : (n : ℕ) (s : List ℕ) (next i f : ℕ) → i < length s → arcs_ok (suc f) n next (drop i s) ≡ arc_test n s next i f
unfolding arcs_ok
arcs_turn n s next i f h = rw (drop-cons s i 0 h, arcs_ok, length-drop, drop-drop, add-two, add-three)

-- with an arc at i there is fuel for it
record ArcNow (n : ℕ) (s : List ℕ) (next i : ℕ) : Type 0 where
  more : ℕ
  suffices : length s ≤ i + suc more
  turn : state_ok n s ≡ arc_test n s next i more

arc-now : (n : ℕ) (s : List ℕ) (next i : ℕ) → i < length s → ArcsLeft n s next i → ArcNow n s next i
arc-now n s next i h left = go left.fuel left.enough left.rest
  where
    go : (f : ℕ) → length s ≤ i + f → arcs_ok f n next (drop i s) ≡ state_ok n s → ArcNow n s next i
    go zero e r = let z : ⊥ = omega arith in absurd z
    go (suc f) e r = record { more = f; suffices = e; turn = sym r ∙ arcs_turn n s next i f h }

-- an arc of fewer than three bytes, one by no name's number, and one not above the one before: the field is refused
pub arcs_cut : (n : ℕ) (s : List ℕ) (next i : ℕ) → i < length s → length s - i < 3 → ArcsLeft n s next i → state_ok n s ≡ false
arcs_cut n s next i h g left =
    let q : length s - suc i < 2 = omega arith in
    (arc-now n s next i h left).turn ∙ rw (lt-leb 2 (length s - suc i) q)

pub arcs_unnamed : (n : ℕ) (s : List ℕ) (next i : ℕ) → i < length s → n ≤ get_or s i 0 → ArcsLeft n s next i → state_ok n s ≡ false
arcs_unnamed n s next i h g left = (arc-now n s next i h left).turn ∙ rw (le-ltb (get_or s i 0) n g, and-false)

pub arcs_unordered : (n : ℕ) (s : List ℕ) (next i : ℕ) → i < length s → get_or s i 0 < next → ArcsLeft n s next i
    → state_ok n s ≡ false
arcs_unordered n s next i h g left =
    (arc-now n s next i h left).turn ∙ rw (lt-leb next (get_or s i 0) g, and-false, and-false)

pub arcs_go : (n : ℕ) (s : List ℕ) (next i : ℕ) → i < length s → 3 ≤ length s - i → get_or s i 0 < n → next ≤ get_or s i 0
    → ArcsLeft n s next i → ArcsLeft n s (get_or s i 0 + 1) (i + 3)
arcs_go n s next i h g a b left =
    let now = arc-now n s next i h left in
    let q : 2 ≤ length s - suc i = omega arith in
    record {
      fuel = now.more;
      enough = omega (arith, now.suffices);
      rest =
          rw add-one
          (sym (now.turn ∙ rw (le-leb 2 (length s - suc i) q, lt-ltb (get_or s i 0) n a, le-leb next (get_or s i 0) b)));
    }

-- as many as there are
take-all : (n : ℕ) (s : List ℕ) → n ≡ length s → take n s ≡ s
take-all n s e = rw e (take-length s)

-- what is left to test, the next arc's name being `next` or above, decides: as in arcs_ok, for some fuel that suffices
pub record ArcsRest (n next : ℕ) (s : List ℕ) (answer : Bool) : Type 0 where
  pub fuel : ℕ
  pub enough : length s ≤ fuel
  pub rest : arcs_ok fuel n next s ≡ answer

-- the test of the arc at the front, then of what comes after it
abbrev front_test : ℕ → ℕ → List ℕ → ℕ → Bool
front_test n next s f =
    let a = get_or s 0 0 in
    leb 2 (length (drop 1 s)) && ((ltb a n && leb next a) && arcs_ok f n (suc a) (drop 3 s))

record FrontArc (n next : ℕ) (s : List ℕ) (answer : Bool) : Type 0 where
  more : ℕ
  suffices : length s ≤ suc more
  turn : answer ≡ front_test n next s more

front_arc : (n next : ℕ) (s : List ℕ) (answer : Bool) → 0 < length s → ArcsRest n next s answer → FrontArc n next s answer
unfolding arcs_ok
front_arc n next s answer h left = go left.fuel s h left.enough left.rest
  where
    go : (f : ℕ) (s : List ℕ) → 0 < length s → length s ≤ f → arcs_ok f n next s ≡ answer → FrontArc n next s answer
    go zero s h e r = let z : ⊥ = omega arith in absurd z
    go (suc f) [] h e r = let z : ⊥ = omega arith in absurd z
    go (suc f) (a ∷ s) h e r = record { more = f; suffices = e; turn = sym r }

-- no whole arc is left: the answer is whether nothing is
pub rest_short : (n next : ℕ) (s : List ℕ) (answer : Bool) → length s < 3 → ArcsRest n next s answer → eqb (length s) 0 ≡ answer
unfolding arcs_ok
rest_short n next [] answer h left = none left.fuel ∙ left.rest
  where
    none : (f : ℕ) → true ≡ arcs_ok f n next []
    none zero = refl
    none (suc f) = refl
rest_short n next (a ∷ s) answer h left =
    let q : length s < 2 = omega arith in
    sym ((front_arc n next (a ∷ s) answer (omega arith) left).turn ∙ rw (lt-leb 2 (length s) q) (sym (eqb-suc-zero (length s))))

-- the arc at the front is not by a name's number, or not above the one before
pub rest_unnamed : (n next : ℕ) (s : List ℕ) (answer : Bool) → 0 < length s → n ≤ get_or s 0 0 → ArcsRest n next s answer → false ≡ answer
rest_unnamed n next s answer h g left =
    sym ((front_arc n next s answer h left).turn ∙ rw (le-ltb (get_or s 0 0) n g, and-false))

pub rest_unordered : (n next : ℕ) (s : List ℕ) (answer : Bool) → 0 < length s → get_or s 0 0 < next → ArcsRest n next s answer
    → false ≡ answer
rest_unordered n next s answer h g left =
    sym ((front_arc n next s answer h left).turn ∙ rw (lt-leb next (get_or s 0 0) g, and-false, and-false))

pub rest_more : (n next : ℕ) (s : List ℕ) (answer : Bool) → 3 ≤ length s → get_or s 0 0 < n → next ≤ get_or s 0 0
    → ArcsRest n next s answer → ArcsRest n (get_or s 0 0 + 1) (take (length s - 3) (drop 3 s)) answer
rest_more n next s answer h a b left =
    let now = front_arc n next s answer (omega arith) left in
    let q : 2 ≤ length (drop 1 s) = omega (arith, length-drop 1 s) in
    record {
      fuel = now.more;
      enough = omega (arith, now.suffices, length-take (length s - 3) (drop 3 s), length-drop 3 s);
      rest =
          rw (add-one, take-all (length s - 3) (drop 3 s) (omega (arith, length-drop 3 s)))
          (sym (now.turn ∙ rw (le-leb 2 (length (drop 1 s)) q, lt-ltb (get_or s 0 0) n a, le-leb next (get_or s 0 0) b)));
    }

-- the first byte is 0 or 1: the arcs decide
pub state_rest : (n : ℕ) (s : List ℕ) → 0 < length s → get_or s 0 0 ≤ 1
    → arcs_ok (length (take (length s - 1) (drop 1 s))) n 0 (take (length s - 1) (drop 1 s)) ≡ state_ok n s
unfolding state_ok
state_rest n [] g h = let z : ⊥ = omega arith in absurd z
state_rest n (b ∷ s) g h =
    let q : length (b ∷ s) - 1 ≡ length s = omega arith in
    rw (take-all (length (b ∷ s) - 1) s q, le-leb b 1 h)

-- what is known of a state field by its first byte
pub ruleset first_bytes = (state-empty, state-first, state_rest)
