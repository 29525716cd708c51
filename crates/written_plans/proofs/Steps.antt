-- One step of reading without its answers: the place that a byte leads to, what it adds to the tags, and reading over a front. Assumes
-- nothing.
use mathlib.Core.Path.{◌≡◌, refl, sym, ap, ◌∙◌, subst}
use mathlib.Core.List.{List, [], ◌∷◌, ◌++◌}
use Prim.Native.Nat.{ℕ, zero, suc}
use Rattle.written_plans.specs.Written.{Tag}
use Rattle.written_plans.specs.Reading.{Place, Next, stop, go, step, met}
use Rattle.written_plans.proofs.Runs.{run, tags_from, met_at}

-- a byte stops reading, or leads to a place
pub data Stepped (q : Place) (b : ℕ) : Type 0 where
  stops : step q b ≡ stop → Stepped q b
  goes : (r : Place) → step q b ≡ go r → Stepped q b

-- one of the two
pub stepped : (q : Place) (b : ℕ) → Stepped q b
stepped q b = look (step q b) refl
  where
    look : (x : Next) → step q b ≡ x → Stepped q b
    look stop e = stops e
    look (go r) e = goes r e

-- reading goes on
abbrev GoesOn : Next → Type 0
GoesOn stop = ⊥
GoesOn (go r) = Unit {0}

-- a place is no stop
pub go≢stop : {r : Place} → go r ≡ stop → ⊥
go≢stop e = subst GoesOn e tt

-- places led to are equal
pub go_eq : {q r : Place} → go q ≡ go r → q ≡ r
go_eq {q} e = ap (λ (x : Next). elim x [ stop ↦ q | go z ↦ z ]) e

module _ (q : Place) (b : ℕ) (s : List ℕ) (e : step q b ≡ stop) where
  -- a byte that stops reading: no place, no tags, and none met at any byte
  pub run-stops : run q (b ∷ s) ≡ stop
  unfolding run
  run-stops = ap (λ (x : Next). elim x [ stop ↦ stop | go r ↦ run r s ]) e

  pub tags-stop : tags_from q (b ∷ s) ≡ []
  unfolding tags_from
  tags-stop = ap (λ (x : Next). elim x as (λ _. List Tag) [ stop ↦ [] | go r ↦ met q b s ++ tags_from r s ]) e

  pub met-stops : (p : ℕ) → met_at q p (b ∷ s) ≡ []
  unfolding met_at
  met-stops zero = ap (λ (x : Next). elim x as (λ _. List Tag) [ stop ↦ [] | go r ↦ met q b s ]) e
  met-stops (suc p) = ap (λ (x : Next). elim x as (λ _. List Tag) [ stop ↦ [] | go r ↦ met_at r p s ]) e

module _ (q : Place) {r : Place} (b : ℕ) (s : List ℕ) (e : step q b ≡ go r) where
  -- a byte that leads to a place: reading goes on there, and the tags met at the byte come first
  pub run-goes : run q (b ∷ s) ≡ run r s
  unfolding run
  run-goes = ap (λ (x : Next). elim x [ stop ↦ stop | go z ↦ run z s ]) e

  pub tags-go : tags_from q (b ∷ s) ≡ met q b s ++ tags_from r s
  unfolding tags_from
  tags-go = ap (λ (x : Next). elim x as (λ _. List Tag) [ stop ↦ [] | go z ↦ met q b s ++ tags_from z s ]) e

  -- what is met at the byte itself, and later
  pub met-here : met_at q zero (b ∷ s) ≡ met q b s
  unfolding met_at
  met-here = ap (λ (x : Next). elim x as (λ _. List Tag) [ stop ↦ [] | go z ↦ met q b s ]) e

  pub met-later : (p : ℕ) → met_at q (suc p) (b ∷ s) ≡ met_at r p s
  unfolding met_at
  met-later p = ap (λ (x : Next). elim x as (λ _. List Tag) [ stop ↦ [] | go z ↦ met_at z p s ]) e

-- no bytes lead to where reading stands
pub run-nil : (q : Place) → run q [] ≡ go q
unfolding run
run-nil q = refl

-- no tag is met past the end
pub met-nil : (q : Place) (p : ℕ) → met_at q p [] ≡ []
unfolding met_at
met-nil q zero = refl
met-nil q (suc p) = refl

-- ---- over a front

-- bytes that lead to a place, and what follows them
pub run-front : (q : Place) {r : Place} (s t : List ℕ) → run q s ≡ go r → run q (s ++ t) ≡ run r t
run-front q [] t e = ap (λ (z : Place). run z t) (go_eq (sym (run-nil q) ∙ e))
run-front q {r} (b ∷ s) t e = look (stepped q b) (λ z. run-front z s t)
  where
    look : Stepped q b → ((z : Place) → run z s ≡ go r → run z (s ++ t) ≡ run r t) → run q (b ∷ (s ++ t)) ≡ run r t
    look (stops d) again = absurd (go≢stop (sym e ∙ run-stops q b s d))
    look (goes z d) again = run-goes q b (s ++ t) d ∙ again z (sym (run-goes q b s d) ∙ e)
