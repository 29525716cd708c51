-- One state enters the queue: there is room for it, and what holds of the queue then. Assumes nothing.
use mathlib.Core.Path.{◌≡◌, sym, ap, ◌∙◌}
use mathlib.Core.Logic.{◌⊎◌, inl, inr, ⊎_elim}
use mathlib.Core.Bool.{Bool}
use mathlib.Core.List.{List, [], ◌∷◌}
use Prim.Native.Nat.{ℕ, zero, suc, ◌+◌, ◌<◌}
use native.Mathlib.Nat.{not-suc-le-zero}
use native.Mathlib.Omega.{arith}
use lib.Dec.{eqb}
use lib.ListN.{length, get_or, set, length-set}
use lib.Seq.{get_or-set_same, get_or-set_other}
use borrow.Author.Tests.{eq-eqb, ne_eqb}
use Rattle.base.specs.Limits.{state_limit, when}
use Rattle.base.specs.Lists.{total}
use Rattle.base.proofs.Tests.{eq_dec, le_or_lt}
use Rattle.levels.specs.Queues.{without_level, Queue, MayEnter, Longer}

-- ---- one state enters

-- with a level for one state one fewer is without
without_set :
    (levels : List ℕ) (q level : ℕ) → q < length levels → get_or levels q 0 ≡ 0 → 0 < level →
    suc (without_level (set levels q level)) ≡ without_level levels
unfolding without_level total
without_set [] q level inside none some = absurd (not-suc-le-zero inside)
without_set (x ∷ xs) zero level inside none some =
    let one : when (eqb x 0) 1 ≡ 1 = ap (λ (b : Bool). when b 1) (eq-eqb x 0 none) in
    let zero_is : when (eqb level 0) 1 ≡ 0 = ap (λ (b : Bool). when b 1) (ne_eqb level 0 (λ (e : level ≡ 0). omega arith)) in
    omega arith
without_set (x ∷ xs) (suc q) level inside none some = omega (arith, without_set xs q level (omega arith) none some)

-- where a state has no level, the queue has room
pub enters_inside :
    {levels queue : List ℕ} {last : ℕ} → Queue levels queue last → (q : ℕ) → q < state_limit → get_or levels q 0 ≡ 0 →
    last < state_limit
enters_inside {levels} {queue} {last} queued q inside none =
    omega (arith, queued.room, without_set levels q 1 (omega (arith, queued.levels_size)) none (omega arith))

-- what holds with one state more in the queue
module _
    (level : ℕ) (levels queue : List ℕ) (last : ℕ) (may : MayEnter level levels queue last)
    (q : ℕ) (inside : q < state_limit) (none : get_or levels q 0 ≡ 0) where
  -- it has the level, and the others theirs
  level-here : get_or (set levels q level) q 0 ≡ level
  level-here = get_or-set_same levels q level 0 (omega (arith, may.queued.levels_size))

  level_kept : (p : ℕ) → 0 < get_or levels p 0 → get_or (set levels q level) p 0 ≡ get_or levels p 0
  level_kept p some =
      get_or-set_other levels q p level 0 (λ (e : p ≡ q). omega (arith, ap (λ (k : ℕ). get_or levels k 0) e, none, some))

  -- it stands in the last place, and the others in theirs
  place_here : get_or (set queue last q) last 0 ≡ q
  place_here =
      get_or-set_same queue last q 0 (omega (arith, may.queued.queue_size, enters_inside may.queued q inside none))

  place_kept : (i : ℕ) → i < last → get_or (set queue last q) i 0 ≡ get_or queue i 0
  place_kept i low = get_or-set_other queue last i q 0 (λ (e : i ≡ last). omega (arith, low))

  -- the level by the place
  at_last : (i : ℕ) → i ≡ last → get_or (set levels q level) (get_or (set queue last q) i 0) 0 ≡ level
  at_last i e =
      ap (λ (k : ℕ). get_or (set levels q level) (get_or (set queue last q) k 0) 0) e
      ∙ ap (λ (p : ℕ). get_or (set levels q level) p 0) place_here
      ∙ level-here

  at_kept :
      (i : ℕ) → i < last → get_or (set levels q level) (get_or (set queue last q) i 0) 0 ≡ get_or levels (get_or queue i 0) 0
  at_kept i low =
      ap (λ (p : ℕ). get_or (set levels q level) p 0) (place_kept i low)
      ∙ level_kept (get_or queue i 0) (may.queued.has_level i low)

  -- a place is the last one, or was there
  place-cases : (i : ℕ) → i < last + 1 → (i < last) ⊎ (i ≡ last)
  place-cases i low = ⊎_elim (λ past. inr (omega (arith, low, past))) (λ before. inl before) (le_or_lt last i)

  -- a state with a level is the new one, or had it
  level_cases :
      (p : ℕ) → 0 < get_or (set levels q level) p 0 →
      (p ≡ q) ⊎ ((0 < get_or levels p 0) × (get_or (set levels q level) p 0 ≡ get_or levels p 0))
  level_cases p some =
      ⊎_elim (λ e. inl e)
      (λ (apart : p ≡ q → ⊥).
      let same = get_or-set_other levels q p level 0 apart in
      inr (omega (arith, same, some), same))
      (eq_dec p q)

  queue_entered : Queue (set levels q level) (set queue last q) (last + 1)
  queue_entered =
      record {
        levels_size = length-set levels q level ∙ may.queued.levels_size;
        queue_size = length-set queue last q ∙ may.queued.queue_size;
        room =
            omega (
              arith,
              may.queued.room,
              without_set levels q level (omega (arith, may.queued.levels_size)) none may.some_level,
            );
        has_level = λ i low.
            ⊎_elim (λ before. omega (arith, at_kept i before, may.queued.has_level i before))
            (λ e. omega (arith, at_last i e, may.some_level)) (place-cases i low);
        stands = λ p some.
            ⊎_elim (λ e. (last, omega arith, place_here ∙ sym e))
            (λ had.
            let r = may.queued.stands p had.0 in
            (r.0, omega (arith, r.1), place_kept r.0 r.1 ∙ r.2))
            (level_cases p some);
        ordered = λ i low.
            let kept = at_kept i (omega (arith, low)) in
            ⊎_elim (λ before. omega (arith, kept, at_kept (suc i) before, may.queued.ordered i before))
            (λ e. omega (arith, kept, at_last (suc i) e, may.highest (get_or queue i 0))) (place-cases (suc i) low);
        near = λ i low.
            ⊎_elim (λ before. omega (arith, at_kept i before, may.queued.near i before))
            (λ e. omega (arith, at_last i e, may.next_level, e)) (place-cases i low);
      }

  -- the queue grew by the state
  pub longer-one : Longer (λ (p : ℕ). p ≡ q) level levels queue last (set levels q level) (set queue last q) (last + 1)
  longer-one =
      record {
        after =
            record {
              queued = queue_entered;
              some_level = may.some_level;
              next_level = omega (arith, may.next_level);
              highest = λ p.
                  ⊎_elim (λ (e : p ≡ q). omega (arith, ap (λ (k : ℕ). get_or (set levels q level) k 0) e, level-here))
                  (λ (apart : p ≡ q → ⊥). omega (arith, get_or-set_other levels q p level 0 apart, may.highest p)) (eq_dec p q);
            };
        more = omega arith;
        same_place = place_kept;
        same_level = level_kept;
        all = λ p e. omega (arith, ap (λ (k : ℕ). get_or (set levels q level) k 0) e, level-here, may.some_level);
        only = λ p some.
            ⊎_elim (λ e. inr (ap (λ (k : ℕ). get_or (set levels q level) k 0) e ∙ level-here, e)) (λ had. inl had.1)
            (level_cases p some);
      }
