-- How a walk of a row ends, case by case, and what each outcome tells by words. Assumes nothing.
use mathlib.Core.Path.{◌≡◌, sym, ap, ◌∙◌}
use mathlib.Core.Logic.{◌⊎◌, inl, inr, ◌↔◌}
use mathlib.Core.Bool.{true, false, true≢false}
use mathlib.Core.List.{List, [], append-nil}
use Prim.Native.Nat.{ℕ}
use native.Mathlib.Omega.{arith}
use Rattle.base.specs.Limits.{admitted, on_the_way, stops}
use Rattle.model.specs.Tables.{State, admits}
use Rattle.model.specs.Classes.{Word}
use Rattle.endings.specs.Words.{BeginsAdmitted}

-- how a walk of the row ends, with what the outcome tells
pub data Ends (states : List State) (row : Word) (outcome : ℕ) : Type 0 where
  is_admitted : outcome ≡ admitted → admits states row ≡ true → Ends states row outcome
  is_on_the_way : outcome ≡ on_the_way → admits states row ≡ false → BeginsAdmitted states row → Ends states row outcome
  is_stopped : outcome ≡ stops → (BeginsAdmitted states row → ⊥) → Ends states row outcome

module _ (states : List State) (row : Word) where
  -- an admitted row begins one: itself
  begins_itself : admits states row ≡ true → BeginsAdmitted states row
  begins_itself e = record { rest = []; is_admitted = ap (admits states) (append-nil row) ∙ e }

  -- one of three
  pub ends-three : {k : ℕ} → Ends states row k → (k ≡ admitted) ⊎ ((k ≡ on_the_way) ⊎ (k ≡ stops))
  ends-three (is_admitted e passes) = inl e
  ends-three (is_on_the_way e not_yet begins) = inr (inl e)
  ends-three (is_stopped e none) = inr (inr e)

  -- where each of them is told
  pub ends-admitted : {k : ℕ} → Ends states row k → (k ≡ admitted) ↔ (admits states row ≡ true)
  ends-admitted (is_admitted e passes) = (λ h. passes, λ h. e)
  ends-admitted (is_on_the_way e not_yet begins) =
      (λ h. let z : ⊥ = omega (arith, e, h) in absurd z, λ h. absurd (true≢false (sym h ∙ not_yet)))
  ends-admitted (is_stopped e none) =
      (λ h. let z : ⊥ = omega (arith, e, h) in absurd z, λ h. absurd (none (begins_itself h)))

  pub ends-on_the_way :
      {k : ℕ} → Ends states row k → (k ≡ on_the_way) ↔ ((admits states row ≡ false) × BeginsAdmitted states row)
  ends-on_the_way (is_admitted e passes) =
      (λ h. let z : ⊥ = omega (arith, e, h) in absurd z, λ h. absurd (true≢false (sym passes ∙ h.0)))
  ends-on_the_way (is_on_the_way e not_yet begins) = (λ h. (not_yet, begins), λ h. e)
  ends-on_the_way (is_stopped e none) = (λ h. let z : ⊥ = omega (arith, e, h) in absurd z, λ h. absurd (none h.1))

  pub ends-stops : {k : ℕ} → Ends states row k → (k ≡ stops) ↔ (BeginsAdmitted states row → ⊥)
  ends-stops (is_admitted e passes) =
      (λ h. let z : ⊥ = omega (arith, e, h) in absurd z, λ h. absurd (h (begins_itself passes)))
  ends-stops (is_on_the_way e not_yet begins) = (λ h. let z : ⊥ = omega (arith, e, h) in absurd z, λ h. absurd (h begins))
  ends-stops (is_stopped e none) = (λ h. none, λ h. e)
