-- The log of a plan's tags: its entries are those that they were where its bytes are, and one entry more is written after them. Assumes
-- nothing.
use mathlib.Core.Path.{◌≡◌, refl, ap, ap₂, ◌∙◌}
use mathlib.Core.Logic.{◌≢◌}
use mathlib.Core.List.{List, [], ◌∷◌, ◌++◌}
use Prim.Native.Nat.{ℕ, zero, suc, ◌+◌, ◌*◌, ◌<◌}
use native.Mathlib.Omega.{arith}
use lib.ListN.{length, get_or, set, length-set}
use lib.Seq.{get_or-set_same, get_or-set_other}
use Rattle.written_plans.specs.Reading.{Entry}
use Rattle.written_plans.specs.Logs.{entry_at, entries_at}
use Rattle.plan_reading.specs.Turns.{entry}

-- one entry more is the one after these
entries_more : (log : List ℕ) (i n : ℕ) → entries_at log i (suc n) ≡ entries_at log i n ++ (entry_at log (i + n) ∷ [])
unfolding entries_at
entries_more log i zero =
    let same_place : i ≡ i + 0 = omega arith in
    ap (λ (k : ℕ). entry_at log k ∷ []) same_place
entries_more log i (suc n) =
    let same_place : suc i + n ≡ i + suc n = omega arith in
    ap (λ (es : List Entry). entry_at log i ∷ es)
    (entries_more log (suc i) n ∙ ap (λ (k : ℕ). entries_at log (suc i) n ++ (entry_at log k ∷ [])) same_place)

-- entries whose bytes are the same are the same
entries_kept : (log log' : List ℕ) (i n : ℕ) → ((j : ℕ) → j < 2 * (i + n) → get_or log' j 0 ≡ get_or log j 0)
    → entries_at log' i n ≡ entries_at log i n
unfolding entries_at
entries_kept log log' i zero kept = refl
entries_kept log log' i (suc n) kept =
    ap₂ (λ (e : Entry) (es : List Entry). e ∷ es)
    (ap₂ (λ (number depth : ℕ). entry number depth) (kept (2 * i) (omega arith)) (kept (2 * i + 1) (omega arith)))
    (entries_kept log log' (suc i) n (λ j h. kept j (omega arith)))

-- the log with one entry after so many
abbrev written : List ℕ → ℕ → ℕ → ℕ → List ℕ
written log tags number depth = set (set log (2 * tags) number) (2 * tags + 1) depth

-- the entries are then these and that one
pub entry_put : (log : List ℕ) (tags number depth : ℕ) → 2 * tags + 1 < length log
    → entries_at (written log tags number depth) 0 (tags + 1) ≡ entries_at log 0 tags ++ (entry number depth ∷ [])
entry_put log tags number depth room =
    let after = written log tags number depth in
    let first : List ℕ = set log (2 * tags) number in
    let long : 2 * tags + 1 < length first = omega (arith, length-set log (2 * tags) number) in
    let apart : 2 * tags ≢ 2 * tags + 1 = λ e. let z : ⊥ = omega arith in z in
    let number_is : get_or after (2 * tags) 0 ≡ number =
    get_or-set_other first (2 * tags + 1) (2 * tags) depth 0 apart ∙ get_or-set_same log (2 * tags) number 0 (omega arith) in
    let depth_is : get_or after (2 * tags + 1) 0 ≡ depth = get_or-set_same first (2 * tags + 1) depth 0 long in
    let kept : (j : ℕ) → j < 2 * (0 + tags) → get_or after j 0 ≡ get_or log j 0 =
    λ j h.
    let not-second : j ≢ 2 * tags + 1 = λ e. let z : ⊥ = omega arith in z in
    let not_first : j ≢ 2 * tags = λ e. let z : ⊥ = omega arith in z in
    get_or-set_other first (2 * tags + 1) j depth 0 not-second ∙ get_or-set_other log (2 * tags) j number 0 not_first in
    let more : tags + 1 ≡ suc tags = omega arith in
    let place : 0 + tags ≡ tags = omega arith in
    ap (entries_at after 0) more
    ∙ entries_more after 0 tags
    ∙ ap₂ (λ (es : List Entry) (e : Entry). es ++ (e ∷ [])) (entries_kept log after 0 tags kept)
    (ap (entry_at after) place ∙ ap₂ (λ (n d : ℕ). entry n d) number_is depth_is)
