-- Laws of a queue that grew: in no step and in two, by the sources of the arcs in places, and by the accepting states. Assumes nothing.
use mathlib.Core.Path.{◌≡◌, refl, sym, ap, ◌∙◌, subst}
use mathlib.Core.Logic.{◌⊎◌, inl, inr, ⊎_elim}
use mathlib.Core.List.{List}
use Prim.Native.Nat.{ℕ, zero, suc, ◌+◌, ◌-◌, ◌≤◌, ◌<◌}
use native.Mathlib.Omega.{arith}
use lib.ListN.{length, get_or, replicate, length-replicate}
use Rattle.base.specs.Limits.{state_limit}
use Rattle.base.specs.Lists.{total}
use Rattle.base.proofs.Tests.{eq_dec}
use Rattle.model.specs.Tables.{State}
use Rattle.levels.specs.Sorted.{source_at}
use Rattle.levels.specs.Queues.{without_level, MayEnter, Longer, SourceIn, Accepts, AcceptsBelow}

-- ---- in steps

-- by none: those with P have a level
pub longer-none :
    {P : ℕ → Type 0} {level : ℕ} {levels queue : List ℕ} {last : ℕ} → MayEnter level levels queue last →
    ((q : ℕ) → P q → 0 < get_or levels q 0) → Longer P level levels queue last levels queue last
longer-none may known =
    record {
      after = may;
      more = omega arith;
      same_place = λ i low. refl;
      same_level = λ q some. refl;
      all = known;
      only = λ q some. inl refl;
    }

-- first by those with P, then by those with Q
longer-more :
    {P Q R : ℕ → Type 0} {level : ℕ} {levels queue levels' queue' levels'' queue'' : List ℕ} {last last' last'' : ℕ} →
    Longer P level levels queue last levels' queue' last' → Longer Q level levels' queue' last' levels'' queue'' last'' →
    ((q : ℕ) → P q → R q) → ((q : ℕ) → Q q → R q) → ((q : ℕ) → R q → P q ⊎ Q q) →
    Longer R level levels queue last levels'' queue'' last''
longer-more {P} {Q} {R} {level} {levels} {queue} {levels'} {queue'} {levels''} {queue''} a b left right either =
    record {
      after = b.after;
      more = omega (arith, a.more, b.more);
      same_place = λ i low. b.same_place i (omega (arith, low, a.more)) ∙ a.same_place i low;
      same_level = λ q some. kept q (omega (arith, a.same_level q some, some)) ∙ a.same_level q some;
      all = λ q r.
          ⊎_elim (λ p. omega (arith, kept q (a.all q p), a.all q p)) (λ p. b.all q p) (either q r);
      only = λ q some. ⊎_elim (was q some) (λ new. inr (new.0, right q new.1)) (b.only q some);
    }
  where
    kept : (q : ℕ) → 0 < get_or levels' q 0 → get_or levels'' q 0 ≡ get_or levels' q 0
    kept = b.same_level

    was :
        (q : ℕ) → 0 < get_or levels'' q 0 → get_or levels'' q 0 ≡ get_or levels' q 0 →
        (get_or levels'' q 0 ≡ get_or levels q 0) ⊎ ((get_or levels'' q 0 ≡ level) × R q)
    was q some same =
        ⊎_elim (λ e. inl (same ∙ e)) (λ new. inr (same ∙ new.0, left q new.1)) (a.only q (omega (arith, same, some)))

-- the same said by another predicate
pub longer-same :
    {P R : ℕ → Type 0} {level : ℕ} {levels queue levels' queue' : List ℕ} {last last' : ℕ} →
    Longer P level levels queue last levels' queue' last' → ((q : ℕ) → P q → R q) → ((q : ℕ) → R q → P q) →
    Longer R level levels queue last levels' queue' last'
longer-same a there back =
    record {
      after = a.after;
      more = a.more;
      same_place = a.same_place;
      same_level = a.same_level;
      all = λ q r. a.all q (back q r);
      only = λ q some. ⊎_elim (λ e. inl e) (λ new. inr (new.0, there q new.1)) (a.only q some);
    }

-- ---- the sources in places

-- of no place
pub sources_none :
    (work : List ℕ) (from : ℕ) {level : ℕ} {levels queue : List ℕ} {last : ℕ} → MayEnter level levels queue last →
    Longer (SourceIn work from from) level levels queue last levels queue last
sources_none work from may = longer-none may (λ q at. let z : ⊥ = omega (arith, at.1, at.2) in absurd z)

-- of one place more
pub sources_more :
    (work : List ℕ) (from j : ℕ)
    {level : ℕ} {levels queue levels' queue' levels'' queue'' : List ℕ} {last last' last'' : ℕ} →
    from ≤ j →
    Longer (SourceIn work from j) level levels queue last levels' queue' last' →
    Longer (λ (p : ℕ). p ≡ source_at work j) level levels' queue' last' levels'' queue'' last'' →
    Longer (SourceIn work from (j + 1)) level levels queue last levels'' queue'' last''
sources_more work from j low before here =
    longer-more before here (λ q at. (at.0, at.1, omega (arith, at.2), at.3)) (λ q e. (j, low, omega arith, sym e)) (λ q at.
    ⊎_elim (λ (e : at.0 ≡ j). inr (sym at.3 ∙ ap (source_at work) e))
    (λ (apart : at.0 ≡ j → ⊥). inl (at.0, at.1, omega (arith, at.2, apart), at.3)) (eq_dec at.0 j))

-- of all
pub sources_all :
    (work : List ℕ) (from to j : ℕ) {level : ℕ} {levels queue levels' queue' : List ℕ} {last last' : ℕ} →
    j ≤ from + (to - from) → to ≤ j → Longer (SourceIn work from j) level levels queue last levels' queue' last' →
    Longer (SourceIn work from to) level levels queue last levels' queue' last'
sources_all work from to j high low before =
    longer-same before (λ q at. (at.0, at.1, omega (arith, at.1, at.2), at.3)) (λ q at. (at.0, at.1, omega (arith, at.2), at.3))

-- ---- the accepting states

-- where no state has a level, all are without
without_all : (n : ℕ) → without_level (replicate n 0) ≡ n
unfolding without_level total
without_all zero = refl
without_all (suc n) = omega (arith, without_all n)

-- none has one
pub no_level : (n q : ℕ) → get_or {A = ℕ} (replicate n 0) q 0 ≡ 0
no_level zero q = refl
no_level (suc n) zero = refl
no_level (suc n) (suc q) = no_level n q

-- none yet
pub accepting_none :
    (states : List State) (queue : List ℕ) → length queue ≡ state_limit →
    Longer (AcceptsBelow states 0) 1 (replicate state_limit 0) queue 0 (replicate state_limit 0) queue 0
accepting_none states queue size =
    longer-none
    (record {
      queued =
          record {
            levels_size = length-replicate {A = ℕ} state_limit 0;
            queue_size = size;
            room = omega (arith, without_all state_limit);
            has_level = λ i low. let z : ⊥ = omega (arith, low) in absurd z;
            stands = λ q some. let z : ⊥ = omega (arith, some, no_level state_limit q) in absurd z;
            ordered = λ i low. let z : ⊥ = omega (arith, low) in absurd z;
            near = λ i low. let z : ⊥ = omega (arith, low) in absurd z;
          };
      some_level = omega arith;
      next_level = omega arith;
      highest = λ q. omega (arith, no_level state_limit q);
    })
    (λ q below. let z : ⊥ = omega (arith, below.0) in absurd z)

-- one state more
pub accepting_more :
    (states : List State) (q : ℕ) {levels queue levels' queue' levels'' queue'' : List ℕ} {last last' last'' : ℕ} →
    Longer (AcceptsBelow states q) 1 levels queue last levels' queue' last' →
    Longer (λ (p : ℕ). (p ≡ q) × Accepts states q) 1 levels' queue' last' levels'' queue'' last'' →
    Longer (AcceptsBelow states (q + 1)) 1 levels queue last levels'' queue'' last''
accepting_more states q before here =
    longer-more before here (λ p at. (omega (arith, at.0), at.1))
    (λ p at. (omega (arith, at.0), subst (λ (k : ℕ). Accepts states k) (sym at.0) at.1)) (λ p at.
    ⊎_elim (λ (e : p ≡ q). inr (e, subst (λ (k : ℕ). Accepts states k) e at.1))
    (λ (apart : p ≡ q → ⊥). inl (omega (arith, at.0, apart), at.1)) (eq_dec p q))
