-- What can be read can be completed to a plan: from each place that is reached, bytes that lead to the place after a plan. Assumes nothing.
use mathlib.Core.Path.{◌≡◌, refl, ◌∙◌, subst}
use mathlib.Core.Bool.{true}
use mathlib.Core.List.{List, [], ◌∷◌, ◌++◌}
use Prim.Native.Nat.{ℕ}
use lib.Dec.{eqb}
use Rattle.model.specs.Fields.{name_ok}
use Rattle.written_plans.specs.Written.{less, greater, slash, is_white, is_text, Name, empty_tag, end_tag}
use Rattle.written_plans.specs.Reading.{begins_name, Place, before, inside, opened, naming, named, emptied, closing, after}
use Rattle.written_plans.specs.Reading.{Next, stop, go, leave, after_name, after_end, end_begins, step}
use Rattle.written_plans.proofs.Runs.{run}
use Rattle.written_plans.proofs.NameRule.{a_name, name_rest, name_rest_lem}
use Rattle.written_plans.proofs.Elements.{none}
use Rattle.written_plans.proofs.StepsBack.{by_test}
use Rattle.written_plans.proofs.WrittenRuns.{pass_name, pass_more_name, pass_empty_end, pass_first, pass_empty, pass_due, pass_end}

-- ---- the bytes

-- some name
unfoldable some_name : Name
some_name = record { bytes = 97 ∷ []; allowed = a_name }

-- the end tags of the open elements
unfoldable ends : List (List ℕ) → List ℕ
ends [] = []
ends (n ∷ around) = end_tag n [] (ends around)

-- the rest of a plan, from each place
unfoldable finish : Place → List ℕ
finish before = empty_tag some_name.bytes [] []
finish (inside n around) = ends (n ∷ around)
finish (opened around) = some_name.bytes ++ (slash ∷ (greater ∷ ends around))
finish (naming around n) = name_rest n ++ (slash ∷ (greater ∷ ends around))
finish (named around n) = slash ∷ (greater ∷ ends around)
finish (emptied around) = greater ∷ ends around
finish (closing due around) = due ++ (greater ∷ ends around)
finish after = []

-- ---- the places that are reached

-- what is read of a name begins one
abbrev Begun : Place → Type 0
Begun before = Unit
Begun (inside n around) = Unit
Begun (opened around) = Unit
Begun (naming around n) = begins_name n ≡ true
Begun (named around n) = Unit
Begun (emptied around) = Unit
Begun (closing due around) = Unit
Begun after = Unit

-- of the next place, if there is one
abbrev BegunNext : Next → Type 0
BegunNext stop = Unit
BegunNext (go q) = Begun q

-- after an element
begun-leave : (around : List (List ℕ)) → Begun (leave around)
begun-leave [] = tt
begun-leave (n ∷ around) = tt

-- after the name of a tag that begins an element
begun-after_name : (around : List (List ℕ)) (n : List ℕ) (b : ℕ) → BegunNext (after_name around n b)
unfolding after_name
begun-after_name around n b =
    by_test BegunNext (is_white b) (λ e. tt) (λ e.
    by_test BegunNext (eqb b slash) (λ e. tt) (λ e.
    by_test BegunNext (eqb b greater) (λ e. tt) (λ e. tt)))

-- at the `/` of an end tag
begun-end_begins : (around : List (List ℕ)) (b : ℕ) → BegunNext (end_begins around b)
unfolding end_begins
begun-end_begins [] b = tt
begun-end_begins (n ∷ around) b = by_test BegunNext (eqb b slash) (λ e. tt) (λ e. tt)

-- every byte leads to such a place
begun-step : (q : Place) (b : ℕ) → BegunNext (step q b)
unfolding step after_end
begun-step before b =
    by_test BegunNext (is_white b) (λ e. tt) (λ e. by_test BegunNext (eqb b less) (λ e. tt) (λ e. tt))
begun-step (inside n around) b =
    by_test BegunNext (eqb b less) (λ e. tt) (λ e. by_test BegunNext (is_text b) (λ e. tt) (λ e. tt))
begun-step (opened around) b = by_test BegunNext (begins_name (b ∷ [])) (λ e. e) (λ e. begun-end_begins around b)
begun-step (naming around n) b =
    by_test BegunNext (begins_name (n ++ (b ∷ []))) (λ e. e) (λ e.
    by_test BegunNext (name_ok n) (λ e. begun-after_name around n b) (λ e. tt))
begun-step (named around n) b = begun-after_name around n b
begun-step (emptied around) b = by_test BegunNext (eqb b greater) (λ e. begun-leave around) (λ e. tt)
begun-step (closing [] around) b =
    by_test BegunNext (is_white b) (λ e. tt) (λ e. by_test BegunNext (eqb b greater) (λ e. begun-leave around) (λ e. tt))
begun-step (closing (x ∷ due) around) b = by_test BegunNext (eqb b x) (λ e. tt) (λ e. tt)
begun-step after b = by_test BegunNext (is_white b) (λ e. tt) (λ e. tt)

-- and so do all bytes
begun-run : (s : List ℕ) (q : Place) → Begun q → BegunNext (run q s)
unfolding run
begun-run [] q begun = begun
begun-run (b ∷ s) q begun = onward (step q b) (begun-step q b) (λ r p. begun-run s r p)
  where
    onward : (x : Next) → BegunNext x → ((r : Place) → Begun r → BegunNext (run r s))
        → BegunNext (elim x [ stop ↦ stop | go r ↦ run r s ])
    onward stop p on = tt
    onward (go r) p on = on r p

-- ---- completions

-- the end tags lead to the place after the plan
run_ends : (around : List (List ℕ)) → run (leave around) (ends around) ≡ go after
unfolding ends run
run_ends [] = refl
run_ends (n ∷ around) = (pass_end around n none (ends around)).runs ∙ run_ends around

-- and so does the rest of a plan, from each place
finish-runs : (q : Place) → Begun q → run q (finish q) ≡ go after
unfolding finish run step after_name after_end
finish-runs before begun = (pass_empty before [] pass_first some_name none []).runs
finish-runs (inside n around) begun = run_ends (n ∷ around)
finish-runs (opened around) begun =
    (pass_name around some_name.bytes _ some_name.allowed).runs
    ∙ (pass_empty_end around some_name.bytes none (ends around) some_name.allowed).runs
    ∙ run_ends around
finish-runs (naming around n) begun =
    (pass_more_name around n (name_rest n) _ (name_rest_lem n begun)).runs
    ∙ (pass_empty_end around (n ++ name_rest n) none (ends around) (name_rest_lem n begun)).runs
    ∙ run_ends around
finish-runs (named around n) begun = run_ends around
finish-runs (emptied around) begun = run_ends around
finish-runs (closing due around) begun = (pass_due around due _).runs ∙ run_ends around
finish-runs after begun = refl

-- what can be read can be completed
pub completes : (s : List ℕ) (q : Place) → run before s ≡ go q → (t : List ℕ) × (run q t ≡ go after)
completes s q e = (finish q, finish-runs q (subst BegunNext e (begun-run s before tt)))
