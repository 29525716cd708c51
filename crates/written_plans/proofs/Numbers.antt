-- Which numbers reading refuses with, and where: 14, 15 or 16, at a place within the bytes. Assumes nothing.
use mathlib.Core.List.{List}
use Prim.Native.Nat.{ℕ, ◌≤◌, ◌<◌}
use native.Mathlib.Omega.{arith}
use lib.ListN.{length}
use Rattle.base.specs.Limits.{bad_plan}
use Rattle.written_plans.specs.Written.{Tag}
use Rattle.written_plans.specs.Reading.{Reading, before, tag_fault, read_plan}
use Rattle.written_plans.proofs.MetLaws.{met-is_here}
use Rattle.written_plans.proofs.Outcomes.{Outcome, accepted, blocked, judged_at, outcome}
use Rattle.written_plans.proofs.TagFaults.{Verdict, fine, deep, unknown, verdict}

-- a plan's refusal, at a place within so many bytes
pub record PlanRefusal (r : Reading) (bytes : ℕ) : Type 0 where
  pub high : bad_plan ≤ r.number
  pub within : r.place ≤ bytes

module _ (names : List (List ℕ)) (chosen : List ℕ) where
  -- a tag that is refused
  tag-high : (t : Tag) → 0 < tag_fault names chosen t → bad_plan ≤ tag_fault names chosen t
  tag-high t some = look (verdict names chosen t)
    where
      look : Verdict names chosen t → bad_plan ≤ tag_fault names chosen t
      look (fine e d u) = let z : ⊥ = omega (arith, e, some) in absurd z
      look (deep e d) = omega (arith, e)
      look (unknown e d u) = omega (arith, e)

  -- a plan that is refused
  pub plan-refusal : (s : List ℕ) → 0 < (read_plan names chosen s).number → PlanRefusal (read_plan names chosen s) (length s)
  unfolding read_plan
  plan-refusal s some = look (outcome (tag_fault names chosen) before 0 s)
    where
      look : Outcome (tag_fault names chosen) before 0 s (read_plan names chosen s) → PlanRefusal (read_plan names chosen s) (length s)
      look (accepted e run tags c) = let z : ⊥ = omega (arith, e, some) in absurd z
      look (blocked i at c e h) = record { high = omega (arith, e); within = omega (arith, at, h.within) }
      look (judged_at i at c h) =
          let high = tag-high h.met_tag (omega (arith, h.judged, h.refused)) in
          record {
            high = omega (arith, h.judged, high);
            within = omega (arith, at, (met-is_here before i s h.is_met).within);
          }
