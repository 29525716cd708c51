-- Levels: a state has one, `level_of` is it, and it tells whether a word is admitted from the state; and numbers that no arc could lower
-- are the levels. Assumes nothing.
use mathlib.Core.Path.{◌≡◌, refl, sym, ap, ◌∙◌}
use mathlib.Core.Bool.{Bool, true, false, true≢false, cond}
use mathlib.Core.List.{List, [], ◌∷◌}
use Prim.Native.Nat.{ℕ, zero, suc, ◌+◌, ◌≤◌, ◌<◌}
use native.Mathlib.Omega.{arith}
use lib.ListN.{length, get_or}
use Rattle.base.proofs.Tests.{Tells, tells_by, tells_ltb}
use Rattle.model.specs.Tables.{State, empty_state, target_in}
use Rattle.model.specs.Classes.{Word}
use Rattle.model.specs.Sources.{AdmittedFrom}
use Rattle.model.proofs.TableWalks.{admitted-in}
use Rattle.endings.specs.Live.{level_from, level_of, HasWay, ArcsAscend, IsLevel, is_live}
use Rattle.endings.proofs.NameByName.{tells_none, cons_admitted}
use Rattle.endings.proofs.Within.{is_within, tells-within, few-enough}

-- ---- one level

-- no level of a state is above another
level_low : {states : List State} {q : ℕ} (l m : ℕ) → IsLevel states q l → IsLevel states q m → l ≤ m
level_low zero m a b = omega arith
level_low (suc d) zero a b =
    let r = a.some_way d refl in
    let z : ⊥ = omega (arith, (b.no_shorter r.0 r.2).0) in
    absurd z
level_low (suc d) (suc e) a b =
    let r = b.some_way e refl in
    omega (arith, r.1, (a.no_shorter r.0 r.2).1)

-- a state has one level
level_one : {states : List State} {q l m : ℕ} → IsLevel states q l → IsLevel states q m → l ≡ m
level_one {states} {q} {l} {m} a b =
    let low : l ≤ m = level_low l m a b in
    let high : m ≤ l = level_low m l b a in
    omega arith

-- ---- the first number that suffices

-- what `level_from` finds among `more` numbers of names from n on: none that suffices, or the first
data Found (states : List State) (more n q : ℕ) : Type 0 where
  none :
      level_from states more n q ≡ 0 → ((j : ℕ) → n ≤ j → is_within states j q ≡ true → n + more ≤ j) →
      Found states more n q
  first :
      (k : ℕ) → level_from states more n q ≡ suc k → is_within states k q ≡ true →
      ((j : ℕ) → n ≤ j → is_within states j q ≡ true → k ≤ j) → Found states more n q

-- where n names do not suffice, a number from n on that does is above n
above :
    (states : List State) (n q : ℕ) → is_within states n q ≡ false →
    (j : ℕ) → n ≤ j → is_within states j q ≡ true → suc n ≤ j
above states n q e j low f =
    let other : n ≡ j → ⊥ =
    λ (s : n ≡ j). true≢false (sym f ∙ ap (λ (k : ℕ). is_within states k q) (sym s) ∙ e) in
    omega (arith, other)

-- it finds one of the two
found : (states : List State) (more n q : ℕ) → Found states more n q
unfolding level_from
found states zero n q = none refl (λ j low e. omega (arith, low))
found states (suc more) n q = go (is_within states n q) refl (found states more (suc n) q)
  where
    onward : Bool → ℕ
    onward b = cond b (suc n) (level_from states more (suc n) q)

    go : (b : Bool) → is_within states n q ≡ b → Found states more (suc n) q → Found states (suc more) n q
    go true e rest = first n (ap onward e) e (λ j low f. low)
    go false e (none is low) =
        none (ap onward e ∙ is) (λ j from f. omega (arith, low j (above states n q e j from f) f))
    go false e (first k is suffices low) =
        first k (ap onward e ∙ is) suffices (λ j from f. low j (above states n q e j from f) f)

-- ---- the level of a state

module _ (states : List State) (up : ArcsAscend states) (q : ℕ) where
  -- as many names as an admitted word has suffice
  its_length : (w : Word) → AdmittedFrom states q w → is_within states (length w) q ≡ true
  its_length w h = (tells-within states up (length w) q).test (w, omega arith, h)

  -- what is computed is the level
  pub level_is : IsLevel states q (level_of states q)
  unfolding level_of
  level_is = go (found states (length states) 0 q)
    where
      go : Found states (length states) 0 q → IsLevel states q (level_from states (length states) 0 q)
      go (none is low) =
          record {
            some_way = λ d e. let z : ⊥ = omega (arith, is, e) in absurd z;
            no_shorter = λ w h.
                let r = few-enough states up w q h in
                let z : ⊥ = omega (arith, r.1, low r.0 (omega arith) r.2) in
                absurd z;
          }
      go (first k is suffices low) =
          record {
            some_way = λ d e.
                let r = (tells-within states up k q).fact suffices in
                (r.0, omega (arith, is, e, r.1, low (length r.0) (omega arith) (its_length r.0 r.2)), r.2);
            no_shorter = λ w h.
                let least = low (length w) (omega arith) (its_length w h) in
                (omega (arith, is), omega (arith, is, least));
          }

  -- a state has a way to an end exactly if its level is not 0
  pub tells_live : Tells (is_live states q) (HasWay states q)
  unfolding is_live
  tells_live = tells_by (tells_ltb 0 (level_of states q)) (some (level_of states q) level_is) (λ h. (level_is.no_shorter h.0 h.1).0)
    where
      some : (level : ℕ) → IsLevel states q level → 0 < level → HasWay states q
      some zero is low = let z : ⊥ = omega (arith, low) in absurd z
      some (suc d) is low = let r = is.some_way d refl in (r.0, r.2)

-- ---- levels by arcs

-- numbers that some word bears out, that are 1 where a state accepts, and that no arc could lower are the levels
pub level_by_arcs :
    (states : List State) (levels : List ℕ) → ArcsAscend states →
    ((q : ℕ) → q < length states → (d : ℕ) → get_or levels q 0 ≡ suc d →
    (w : Word) × (length w ≡ d) × AdmittedFrom states q w) →
    ((q : ℕ) → q < length states → (get_or states q empty_state).accepts ≡ true → get_or levels q 0 ≡ 1) →
    ((q t : ℕ) → q < length states → (x : ℕ) → target_in x (get_or states q empty_state).arcs ≡ suc t → 0 < get_or levels t 0 →
    (0 < get_or levels q 0) × (get_or levels q 0 ≤ suc (get_or levels t 0))) →
    (q : ℕ) → q < length states → get_or levels q 0 ≡ level_of states q
level_by_arcs states levels up some_way at_end_fact no_lower q inside =
    level_one (record { some_way = some_way q inside; no_shorter = λ w. shortest w q }) (level_is states up q)
  where
    shortest : (w : Word) (p : ℕ) → AdmittedFrom states p w → (0 < get_or levels p 0) × (get_or levels p 0 ≤ suc (length w))
    shortest [] p h =
        let one : get_or levels p 0 ≡ 1 = at_end_fact p (admitted-in states p [] h) ((tells_none states p).test h) in
        (omega arith, omega arith)
    shortest (x ∷ w) p h =
        let r = cons_admitted states p x w h in
        let after = shortest w r.0 r.2 in
        let lower = no_lower p r.0 (admitted-in states p (x ∷ w) h) x r.1 after.0 in
        (lower.0, omega (arith, lower.1, after.1))
