-- Where a plan has no fault, every child of a chosen element is among the names. Assumes nothing.
use mathlib.Core.Path.{◌≡◌, refl, sym, subst}
use mathlib.Core.Logic.{inr, ⊎_elim}
use mathlib.Core.Bool.{Bool, true, false, cond}
use mathlib.Core.List.Memᴰ.{head as here}
use mathlib.Core.List.Memᴰ.{tail as there}
use mathlib.Core.List.{List, [], ◌∷◌, ◌++◌, Memᴰ as In}
use mathlib.Core.List.Memᴰ
use Prim.Native.Nat.{ℕ}
use Rattle.base.specs.Limits.{unknown_child}
use Rattle.base.specs.Lists.{same}
use Rattle.base.proofs.Tests.{decided, tells_same, tells_has_row}
use Rattle.written_plans.specs.Written.{Content, nothing, text, empty, full, Plan, plan_bytes, plan_tags, Tag, tags, end_tag, written}
use Rattle.written_plans.specs.Written.{children, traces, ChildOf}
use Rattle.written_plans.specs.Reading.{before}
use Rattle.written_plans.specs.Claims.{Faultless, Known, ChildrenKnown}
use Rattle.written_plans.proofs.WrittenRuns.{plan-tags}
use Rattle.written_plans.proofs.MetLaws.{tag-met, met-onward}

module _ (names : List (List ℕ)) (chosen : List ℕ) where
  -- among these tags each child of a chosen element has one of the names
  abbrev KnownTags : List Tag → Type 0
  KnownTags ts = (t : Tag) → In t ts → ChildOf chosen t → In t.name names

  -- each of these children has one of the names
  abbrev KnownRow : List (List ℕ) → Type 0
  KnownRow row = (n : List ℕ) → In n row → In n names

  -- what stands directly in a chosen element
  children-known :
      (around : List (List ℕ)) (c : Content) (s : List ℕ) → KnownTags (tags (chosen ∷ around) c s) → KnownRow (children c)
  unfolding tags children
  children-known around nothing s known n m = absurd (Memᴰ.not-nil m)
  children-known around (text b e c) s known n m = children-known around c s known n m
  children-known around (empty k g c) s known n m =
      ⊎_elim (λ e. subst (λ z. In z names) (sym e) (known _ (here refl) (around, refl)))
      (λ r. children-known around c s (λ t i. known t (there i)) n r) (Memᴰ.cases_cons m)
  children-known around (full k g inner e c) s known n m =
      let first = tags (k.bytes ∷ (chosen ∷ around)) inner (end_tag k.bytes e.bytes (written c s)) in
      ⊎_elim (λ e. subst (λ z. In z names) (sym e) (known _ (here refl) (around, refl)))
      (λ r. children-known around c s (λ t i. known t (there (Memᴰ.append_right first i))) n r) (Memᴰ.cases_cons m)

  -- a trace more where the element is chosen
  one_more :
      (b : Bool) (row : List (List ℕ)) (rows : List (List (List ℕ))) → (b ≡ true → KnownRow row) → Known names rows
      → Known names (cond b (row ∷ rows) rows)
  one_more true row rows first others r m n i =
      ⊎_elim (λ e. first refl n (subst (λ z. In n z) e i)) (λ j. others r j n i) (Memᴰ.cases_cons m)
  one_more false row rows first others r m n i = others r m n i

  traces-known :
      (around : List (List ℕ)) (c : Content) (s : List ℕ) → KnownTags (tags around c s) → Known names (traces chosen c)
  unfolding tags traces
  traces-known around nothing s known = λ row m n i. absurd (Memᴰ.not-nil m)
  traces-known around (text b e c) s known = traces-known around c s known
  traces-known around (empty k g c) s known =
      one_more (same k.bytes chosen) [] (traces chosen c) (λ e n i. absurd (Memᴰ.not-nil i))
      (traces-known around c s (λ t i. known t (there i)))
  traces-known around (full k g inner e c) s known =
      let rest = end_tag k.bytes e.bytes (written c s) in
      let first = tags (k.bytes ∷ around) inner rest in
      let inside : KnownTags first = λ t i. known t (there (Memᴰ.append_left (tags around c s) i)) in
      one_more (same k.bytes chosen) (children inner) (traces chosen inner ++ traces chosen c)
      (λ same_name n i.
      children-known around inner rest
      (subst (λ z. KnownTags (tags (z ∷ around) inner rest)) ((tells_same k.bytes chosen).fact same_name) inside) n i)
      (λ row m n i.
      ⊎_elim (λ j. traces-known (k.bytes ∷ around) inner rest inside row j n i)
      (λ j. traces-known around c s (λ t u. known t (there (Memᴰ.append_right first u))) row j n i)
      (Memᴰ.append_cases (traces chosen inner) m))

  -- a plan without a fault has such tags
  faultless_tags : (plan : Plan) → Faultless names chosen (plan_bytes plan) → KnownTags (plan_tags plan)
  faultless_tags plan free t m child =
      let bytes = plan_bytes plan in
      let at = tag-met before bytes (subst (λ z. In t z) (sym (plan-tags plan)) m) in
      ⊎_elim (λ i. i)
      (λ unknown.
      absurd (free unknown_child at.0
      (inr (inr (
        refl,
        (
          t,
          record { plan = plan; alike = refl; of_plan = m; here = sym (met-onward before at.0 bytes at.1) },
          child,
          unknown,
        ),
      )))))
      (decided (tells_has_row t.name names))

pub children-are_known : ChildrenKnown
children-are_known names chosen plan free =
    traces-known names chosen [] plan.element plan.after.bytes (faultless_tags names chosen plan free)
