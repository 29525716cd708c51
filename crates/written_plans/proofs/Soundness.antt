-- Bytes that can be read to the end are a plan, and bytes that lead to a place may stand before what may stand from there on. Assumes
-- nothing.
use mathlib.Core.Path.{◌≡◌, sym, subst, ◌∙◌}
use mathlib.Core.List.{List, [], ◌∷◌, ◌++◌, append-nil}
use Prim.Native.Nat.{ℕ}
use Rattle.written_plans.specs.Written.{Plan, plan_bytes}
use Rattle.written_plans.specs.Reading.{Place, before, after, Next, stop, go, step}
use Rattle.written_plans.proofs.Runs.{run}
use Rattle.written_plans.proofs.Rests.{Rest}
use Rattle.written_plans.proofs.Elements.{white-none}
use Rattle.written_plans.proofs.StepsBack.{Back, back}

-- reading comes to a place from which on this may stand
abbrev Leads : List ℕ → Next → Type 0
Leads t stop = ⊥
Leads t (go r) = Rest r t

-- by induction on the bytes read
all_back : (q : Place) (s t : List ℕ) → Leads t (run q s) → Rest q (s ++ t)
unfolding run
all_back q [] t x = x
all_back q (b ∷ s) t x = onward (step q b) (back q b (s ++ t)) (λ r. all_back r s t) x
  where
    onward :
        (z : Next) → Back q b (s ++ t) z → ((r : Place) → Leads t (run r s) → Rest r (s ++ t)) →
        Leads t (elim z [ stop ↦ stop | go r ↦ run r s ]) → Rest q (b ∷ (s ++ t))
    onward stop f again x = absurd x
    onward (go r) f again x = f (again r x)

-- bytes that lead from one place to another may stand before what may stand from the other on
pub run-rest : (q r : Place) (s t : List ℕ) → run q s ≡ go r → Rest r t → Rest q (s ++ t)
run-rest q r s t e x = all_back q s t (subst (Leads t) (sym e) x)

-- bytes that can be read to the end are a plan
pub run-plan : (s : List ℕ) → run before s ≡ go after → (plan : Plan) × (plan_bytes plan ≡ s)
unfolding Rest
run-plan s e = let r = run-rest before after s [] e white-none in (r.0, r.1 ∙ append-nil s)
