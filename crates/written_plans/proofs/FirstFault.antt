-- The reading of a plan tells the first of its faults, or that there is none: what reading comes to (Outcomes), put in terms of plans by
-- the theorems that bytes read to the end are a plan, that every plan is read to its end with its tags, and that what is read can be
-- completed. Assumes nothing.
use mathlib.Core.Path.{◌≡◌, refl, sym, ap, ◌∙◌, subst}
use mathlib.Core.Logic.{◌⊎◌, inl, inr, ⊎_elim}
use mathlib.Core.List.{List, ◌++◌, Memᴰ as In}
use Prim.Native.Nat.{ℕ, suc, ◌-◌, ◌≤◌, ◌<◌}
use native.Mathlib.Omega.{arith}
use lib.ListN.{length, take, drop, length-drop}
use lib.Seq.{length-take-le, take_at, take-take}
use Rattle.base.specs.Limits.{bad_plan, too_deep, unknown_child}
use Rattle.base.proofs.Tests.{le_or_lt}
use Rattle.written_plans.specs.Written.{Plan, plan_bytes, Tag, tag, Impossible, TagAt, Deep, Unknown, Fault, First}
use Rattle.written_plans.specs.Reading.{Place, before, after, go, read_plan, tag_fault}
use Rattle.written_plans.specs.Claims.{Faultless, ReadingTells}
use Rattle.written_plans.proofs.Runs.{run, tags_from, met_at}
use Rattle.written_plans.proofs.Steps.{run-front}
use Rattle.written_plans.proofs.MetLaws.{tag-met, met_tag, met-is_here, met-onward, met-single, met-moves}
use Rattle.written_plans.proofs.Soundness.{run-plan}
use Rattle.written_plans.proofs.WrittenRuns.{plan-runs, plan-tags}
use Rattle.written_plans.proofs.Completions.{completes}
use Rattle.written_plans.proofs.Outcomes.{Blocked, Judged, Clear, Outcome, accepted, blocked, judged_at, outcome}
use Rattle.written_plans.proofs.TagFaults.{TooDeep, UnknownChild, Verdict, fine, deep, unknown, verdict}

-- a place inside a list is told by what is left there
place_eq : (s : List ℕ) (p q : ℕ) → drop p s ≡ drop q s → q < length s → p ≡ q
place_eq s p q e h =
    let left : length s - p ≡ length s - q = sym (length-drop p s) ∙ ap length e ∙ length-drop q s in
    omega arith

-- lists that begin with the same so many elements begin with the same fewer
take-fewer : (s u : List ℕ) (p q : ℕ) → p ≤ q → take q u ≡ take q s → take p u ≡ take p s
take-fewer s u p q h e = sym (take-take p q u h) ∙ ap (take p) e ∙ take-take p q s h

-- not less is less or equal
no_less : {p q : ℕ} → (q < p → ⊥) → (p < q) ⊎ (p ≡ q)
no_less {p} {q} h = ⊎_elim (λ (more : suc p ≤ q). inl more) (λ (few : q < suc p). inr (omega arith)) (le_or_lt (suc p) q)

module _ (s : List ℕ) where
  -- ---- plans and the bytes read

  -- some plan begins with bytes that can be read
  begins_plan : (p : ℕ) → p ≤ length s → (r : Place) × (run before (take p s) ≡ go r) →
      (plan : Plan) × (take p (plan_bytes plan) ≡ take p s)
  begins_plan p h (r, e) =
      let rest = completes (take p s) r e in
      let whole = run-plan (take p s ++ rest.0) (run-front before (take p s) rest.0 e ∙ rest.1) in
      (whole.0, ap (take p) whole.1 ∙ take_at (take p s) rest.0 p (length-take-le p s h))

  -- where reading is blocked, no plan goes on
  is_impossible : (p : ℕ) → Blocked before s p → Impossible s p
  is_impossible p h =
      record {
        within = h.within;
        possible_before = begins_plan p h.within h.leads;
        not_here = λ plan e. h.ends_not (plan_bytes plan) e (plan-runs plan);
      }

  -- a byte that no plan can have is not before one that some plan has
  impossible_after : (p q : ℕ) → Impossible s q → (plan : Plan) × (take p (plan_bytes plan) ≡ take p s) → q < p → ⊥
  impossible_after p q h (plan, e) less = h.not_here plan (take-fewer s (plan_bytes plan) (suc q) p less e)

  -- a tag met is one of some plan that begins so
  has_tag : (p : ℕ) {t : Tag} → In t (met_at before p s) → (u : List ℕ) × TagAt s p (tag t.around t.name u)
  has_tag p {t} m =
      let h = met-is_here before p s m in
      let some = begins_plan (suc p) h.within h.leads in
      let u = plan_bytes some.0 in
      let v = tag t.around t.name (drop p u) in
      let n : In v (tags_from before u) = met_tag before p u (met-moves before p s m u some.1) in
      (drop p u, record { plan = some.0; alike = some.1; of_plan = subst (λ z. In v z) (plan-tags some.0) n; here = refl })

  -- and the other way
  tag-is_met : (p : ℕ) (t : Tag) → TagAt s p t → In (tag t.around t.name (drop p s)) (met_at before p s)
  tag-is_met p t h =
      let u = plan_bytes h.plan in
      let m = tag-met before u (subst (λ z. In t z) (sym (plan-tags h.plan)) h.of_plan) in
      let same : p ≡ m.0 =
      place_eq u p m.0 (h.here ∙ met-onward before m.0 u m.1) (met-is_here before m.0 u m.1).within in
      met-moves before p u (subst (λ z. In t (met_at before z u)) (sym same) m.1) s (sym h.alike)

  -- ---- faults and the tags met

  module _ (names : List (List ℕ)) (chosen : List ℕ) where
    -- a tag that is refused, by a number that is not above this one
    abbrev Refused : ℕ → ℕ → Type 0
    Refused number p =
        (t : Tag) × In t (met_at before p s) × ((0 < tag_fault names chosen t) × (tag_fault names chosen t ≤ number))

    -- a tag of a plan that is too deep is met and refused
    deep-refused : (p : ℕ) → Deep s p → Refused too_deep p
    deep-refused p (t, at, far) =
        let u = tag t.around t.name (drop p s) in (u, tag-is_met p t at, look u far (verdict names chosen u))
      where
        look : (u : Tag) → TooDeep u → Verdict names chosen u → (0 < tag_fault names chosen u) × (tag_fault names chosen u ≤ too_deep)
        look u d (fine e near o) = absurd (near d)
        look u d (deep e h) = (omega arith, omega arith)
        look u d (unknown e near o) = absurd (near d)

    -- and so is one that is an unknown child
    unknown-refused : (p : ℕ) → Unknown names chosen s p → Refused unknown_child p
    unknown-refused p (t, at, child, other) =
        let u = tag t.around t.name (drop p s) in (u, tag-is_met p t at, look u (child, other) (verdict names chosen u))
      where
        look : (u : Tag) → UnknownChild names chosen u → Verdict names chosen u →
            (0 < tag_fault names chosen u) × (tag_fault names chosen u ≤ unknown_child)
        look u o (fine e d known) = absurd (known o)
        look u o (deep e d) = (omega arith, omega arith)
        look u o (unknown e d h) = (omega arith, omega arith)

    -- a tag met that is refused is a fault of that number
    refused-fault : (p number : ℕ) → Judged (tag_fault names chosen) before s p number → Fault names chosen s number p
    refused-fault p number h = look (verdict names chosen h.met_tag)
      where
        look : Verdict names chosen h.met_tag → Fault names chosen s number p
        look (fine e d o) = let z : ⊥ = omega (arith, e, h.judged, h.refused) in absurd z
        look (deep e d) =
            let at = has_tag p h.is_met in
            inr (inl (sym h.judged ∙ e, (tag h.met_tag.around h.met_tag.name at.0, at.1, d)))
        look (unknown e d o) =
            let at = has_tag p h.is_met in
            inr (inr (sym h.judged ∙ e, (tag h.met_tag.around h.met_tag.name at.0, at.1, o.0, o.1)))

    -- ---- the first fault

    -- the first fault told and another: what is told stands earlier, or at the same place with a number that is not above
    abbrev Earlier : ℕ → ℕ → ℕ → ℕ → Type 0
    Earlier number p n q = (p < q) ⊎ ((p ≡ q) × (number ≤ n))

    -- no tag is refused before the place told
    clear-before : (n p q : ℕ) → Clear (tag_fault names chosen) before s p → Refused n q → q < p → ⊥
    clear-before n p q clear (t, m, r) less =
        let none : tag_fault names chosen t ≡ 0 = clear q t less m in
        let some : 0 < tag_fault names chosen t = r.0 in
        omega arith

    -- reading that is blocked tells the first fault
    blocked-first : (p : ℕ) → Clear (tag_fault names chosen) before s p → Blocked before s p →
        (n q : ℕ) → Fault names chosen s n q → Earlier bad_plan p n q
    blocked-first p clear h n q (inl (e, f)) =
        ⊎_elim inl (λ (d : p ≡ q). inr (d, omega arith))
        (no_less (impossible_after p q f (begins_plan p h.within h.leads)))
    blocked-first p clear h n q (inr (inl (e, f))) =
        ⊎_elim inl (λ (d : p ≡ q). inr (d, omega arith)) (no_less (clear-before too_deep p q clear (deep-refused q f)))
    blocked-first p clear h n q (inr (inr (e, f))) =
        ⊎_elim inl (λ (d : p ≡ q). inr (d, omega arith)) (no_less (clear-before unknown_child p q clear (unknown-refused q f)))

    module _ (number p : ℕ) (clear : Clear (tag_fault names chosen) before s p) (h : Judged (tag_fault names chosen) before s p number) where
      -- a tag told and another that is refused
      tag-first : (n q : ℕ) → Refused n q → Earlier number p n q
      tag-first n q r = ⊎_elim inl (λ (d : p ≡ q). inr (d, least d)) (no_less (clear-before n p q clear r))
        where
          least : p ≡ q → number ≤ n
          least d =
              let same : r.0 ≡ h.met_tag = met-single before p s h.is_met (subst (λ z. In r.0 (met_at before z s)) (sym d) r.1) in
              let told : tag_fault names chosen r.0 ≡ number = ap (tag_fault names chosen) same ∙ h.judged in
              let most : tag_fault names chosen r.0 ≤ n = r.2.1 in
              omega arith

      -- reading that stops at a tag tells the first fault
      judged-first : (n q : ℕ) → Fault names chosen s n q → Earlier number p n q
      judged-first n q (inl (e, f)) =
          let here = met-is_here before p s h.is_met in
          let later : q < suc p → ⊥ = impossible_after (suc p) q f (begins_plan (suc p) here.within here.leads) in
          inl (omega arith)
      judged-first n q (inr (inl (e, f))) = tag-first n q (subst (λ z. Refused z q) (sym e) (deep-refused q f))
      judged-first n q (inr (inr (e, f))) = tag-first n q (subst (λ z. Refused z q) (sym e) (unknown-refused q f))

    -- ---- what is claimed

    -- what a refusal tells
    outcome-first : Outcome (tag_fault names chosen) before 0 s (read_plan names chosen s) → 0 < (read_plan names chosen s).number →
        First names chosen s (read_plan names chosen s).number (read_plan names chosen s).place
    outcome-first (accepted n l ts c) some = let z : ⊥ = omega (arith, n, some) in absurd z
    outcome-first (blocked i at c n h) some =
        let place : i ≡ (read_plan names chosen s).place = omega (arith, at) in
        subst (λ z. First names chosen s z (read_plan names chosen s).place) (sym n)
        (subst (λ z. First names chosen s bad_plan z) place
        (record { fault = inl (refl, is_impossible i h); first = blocked-first i c h }))
    outcome-first (judged_at i at c h) some =
        let number = (read_plan names chosen s).number in
        let place : i ≡ (read_plan names chosen s).place = omega (arith, at) in
        subst (λ z. First names chosen s number z) place
        (record { fault = refused-fault i number h; first = judged-first number i c h })

    -- what no refusal tells: the bytes lead to the end, the tags met are all, and none is refused
    outcome-none : Outcome (tag_fault names chosen) before 0 s (read_plan names chosen s) → (read_plan names chosen s).number ≡ 0 →
        (run before s ≡ go after)
        × ((read_plan names chosen s).met_tags ≡ tags_from before s)
        × ((p : ℕ) (t : Tag) → In t (met_at before p s) → tag_fault names chosen t ≡ 0)
    outcome-none (accepted n l ts c) none = (l, ts, c)
    outcome-none (blocked i at c n h) none = let z : ⊥ = omega (arith, n, none) in absurd z
    outcome-none (judged_at i at c h) none = let z : ⊥ = omega (arith, h.refused, none) in absurd z

    -- bytes that lead to the end and have no tag that is refused have no fault
    none-faultless : run before s ≡ go after → ((p : ℕ) (t : Tag) → In t (met_at before p s) → tag_fault names chosen t ≡ 0) →
        Faultless names chosen s
    none-faultless l c n q (inl (e, f)) = let whole = run-plan s l in f.not_here whole.0 (ap (take (suc q)) whole.1)
    none-faultless l c n q (inr (inl (e, f))) =
        clear-before too_deep (suc q) q (λ j t less m. c j t m) (deep-refused q f) (omega arith)
    none-faultless l c n q (inr (inr (e, f))) =
        clear-before unknown_child (suc q) q (λ j t less m. c j t m) (unknown-refused q f) (omega arith)

-- the reading of any bytes tells their first fault, or that they are a plan without a fault
pub reading_tells : (names : List (List ℕ)) (chosen s : List ℕ) → ReadingTells names chosen s
unfolding read_plan
reading_tells names chosen s =
    let o : Outcome (tag_fault names chosen) before 0 s (read_plan names chosen s) = outcome (tag_fault names chosen) before 0 s in
    let number = (read_plan names chosen s).number in
    let told = outcome-first s names chosen o in
    record {
      first = told;
      is_plan = λ none. run-plan s (outcome-none s names chosen o none).0;
      faultless = λ none. let h = outcome-none s names chosen o none in none-faultless s names chosen h.0 h.2;
      tags_are = λ none plan e. (outcome-none s names chosen o none).1 ∙ ap (tags_from before) (sym e) ∙ plan-tags plan;
      accepts = λ free.
          ⊎_elim (λ (few : number ≤ 0). omega arith) (λ (some : 0 < number). absurd (free number _ (told some).fault))
          (le_or_lt number 0);
    }
