-- What reading comes to, in terms of run, tagsFrom and metAt: accepted, or refused at a byte with no fault before it. Assumes nothing.
use mathlib.Core.Path.{◌≡◌, refl, sym, ap, ◌∙◌, subst}
use mathlib.Core.Bool.{Bool, true, false}
use mathlib.Core.List.Memᴰ
use mathlib.Core.List.Memᴰ.{head as here}
use mathlib.Core.List.{List, [], ◌∷◌, ◌++◌, Memᴰ as In}
use mathlib.Core.List.{head-eq_of_cons-eq, tail-eq_of_cons-eq, nil≢cons, cons≢nil}
use Prim.Native.Nat.{ℕ, zero, suc, ◌+◌, ◌≤◌, ◌<◌}
use native.Mathlib.Nat.{add-zero}
use native.Mathlib.Omega.{arith}
use lib.Dec.{eqb}
use lib.ListN.{length, take}
use Rattle.base.specs.Limits.{bad_plan}
use Rattle.base.proofs.Tests.{tells_eqb, not_told}
use Rattle.written_plans.specs.Written.{Tag, tag}
use Rattle.written_plans.specs.Reading.{Place, before, inside, opened, naming, named, emptied, closing, after}
use Rattle.written_plans.specs.Reading.{Next, stop, go, step, met, Reading, refused_at, ended, with_tags, tags_fault, read_plan_from}
use Rattle.written_plans.proofs.Runs.{run, tags_from, met_at}
use Rattle.written_plans.proofs.Steps.{Stepped, stops, goes, stepped, go≢stop, go_eq, run-stops, run-goes, run-nil, tags-go}
use Rattle.written_plans.proofs.Steps.{met-here, met-later, met-nil}
use Rattle.written_plans.proofs.MetLaws.{Meets, none, one, meets}

-- nothing that begins with the bytes up to and including the one at i can be read to the end, but the bytes before can be read
pub record Blocked (q : Place) (s : List ℕ) (i : ℕ) : Type 0 where
  pub within : i ≤ length s
  pub leads : (r : Place) × (run q (take i s) ≡ go r)
  pub ends_not : (u : List ℕ) → take (suc i) u ≡ take (suc i) s → run q u ≡ go after → ⊥

-- a tag met at byte i is judged so
pub record Judged (judge : Tag → ℕ) (q : Place) (s : List ℕ) (i number : ℕ) : Type 0 where
  pub met_tag : Tag
  pub is_met : In met_tag (met_at q i s)
  pub judged : judge met_tag ≡ number
  pub refused : 0 < number

-- no tag met before byte i is refused
abbrev pub Clear : (Tag → ℕ) → Place → List ℕ → ℕ → Type 0
Clear judge q s i = (j : ℕ) (t : Tag) → j < i → In t (met_at q j s) → judge t ≡ 0

-- no tag met is refused
abbrev pub AllFine : (Tag → ℕ) → Place → List ℕ → Type 0
AllFine judge q s = (j : ℕ) (t : Tag) → In t (met_at q j s) → judge t ≡ 0

-- what reading comes to, the first byte being byte p
pub data Outcome (judge : Tag → ℕ) (q : Place) (p : ℕ) (s : List ℕ) (r : Reading) : Type 0 where
  accepted : r.number ≡ 0 → run q s ≡ go after → r.met_tags ≡ tags_from q s → AllFine judge q s → Outcome judge q p s r
  blocked : (i : ℕ) → r.place ≡ p + i → Clear judge q s i → r.number ≡ bad_plan → Blocked q s i → Outcome judge q p s r
  judged_at : (i : ℕ) → r.place ≡ p + i → Clear judge q s i → Judged judge q s i r.number → Outcome judge q p s r

-- ---- the end of the bytes

-- the end of the bytes is right after the outermost element, or too early
data Ended (q : Place) (p : ℕ) : Type 0 where
  whole : q ≡ after → ended q p ≡ refused_at 0 0 → Ended q p
  early : (q ≡ after → ⊥) → ended q p ≡ refused_at bad_plan p → Ended q p

-- reading is after the outermost element
abbrev IsAfter : Place → Type 0
IsAfter before = ⊥
IsAfter (inside n around) = ⊥
IsAfter (opened around) = ⊥
IsAfter (naming around n) = ⊥
IsAfter (named around n) = ⊥
IsAfter (emptied around) = ⊥
IsAfter (closing due around) = ⊥
IsAfter after = Unit {0}

-- a place equal to the one after the outermost element
is_after : {q : Place} → q ≡ after → IsAfter q
is_after e = subst IsAfter (sym e) tt

-- one of the two
how_ended : (q : Place) (p : ℕ) → Ended q p
unfolding ended
how_ended before p = early (λ e. is_after e) refl
how_ended (inside n around) p = early (λ e. is_after e) refl
how_ended (opened around) p = early (λ e. is_after e) refl
how_ended (naming around n) p = early (λ e. is_after e) refl
how_ended (named around n) p = early (λ e. is_after e) refl
how_ended (emptied around) p = early (λ e. is_after e) refl
how_ended (closing due around) p = early (λ e. is_after e) refl
how_ended after p = whole refl refl

-- at any other place the end of the bytes does not lead there
nothing_else : {q : Place} → (q ≡ after → ⊥) → (u : List ℕ) → take 1 u ≡ [] → run q u ≡ go after → ⊥
nothing_else {q} away [] d e = away (go_eq (sym (run-nil q) ∙ e))
nothing_else away (b ∷ u) d e = cons≢nil d

-- no tag stands before the first byte
clear_zero : (judge : Tag → ℕ) (q : Place) (s : List ℕ) → Clear judge q s 0
clear_zero judge q s j t m = let z : ⊥ = omega arith in absurd z

-- what reading comes to at the end of the bytes
outcome_nil : (judge : Tag → ℕ) (q : Place) (p : ℕ) → Ended q p → Outcome judge q p [] (ended q p)
unfolding tags_from
outcome_nil judge q p (whole e f) =
    accepted (ap (λ (r : Reading). r.number) f) (run-nil q ∙ ap go e) (ap (λ (r : Reading). r.met_tags) f)
    (λ j t m. absurd (Memᴰ.not-nil (subst (λ z. In t z) (met-nil q j) m)))
outcome_nil judge q p (early away f) =
    blocked 0 (ap (λ (r : Reading). r.place) f ∙ sym (add-zero p)) (clear_zero judge q []) (ap (λ (r : Reading). r.number) f)
    (record { within = omega arith; leads = (q, run-nil q); ends_not = nothing_else away })

-- ---- one byte more

module _ (judge : Tag → ℕ) (q : Place) (p b : ℕ) (s : List ℕ) where
  -- what the tags met at this byte are refused for
  abbrev fault_here : ℕ
  fault_here = tags_fault judge (met q b s)

  -- reading goes on at a place with what the byte's tags are refused for
  abbrev onward : Place → ℕ → Reading
  onward r fault =
      elim (eqb fault 0) [ true ↦ with_tags (met q b s) (read_plan_from judge r (suc p) s) | false ↦ refused_at fault p ]

  -- reading, where the byte stops it and where it leads to a place
  read_stops : step q b ≡ stop → read_plan_from judge q p (b ∷ s) ≡ refused_at bad_plan p
  unfolding read_plan_from
  read_stops e = ap (λ (x : Next). elim x [ stop ↦ refused_at bad_plan p | go r ↦ onward r fault_here ]) e

  read_goes : {r : Place} → step q b ≡ go r → read_plan_from judge q p (b ∷ s) ≡ onward r fault_here
  unfolding read_plan_from
  read_goes e = ap (λ (x : Next). elim x [ stop ↦ refused_at bad_plan p | go r ↦ onward r fault_here ]) e

  -- what is judged is the tag met
  fault-of : {t : Tag} → In t (met q b s) → fault_here ≡ judge t
  fault-of {t} m = look (meets q b)
    where
      look : Meets q b → fault_here ≡ judge t
      look (none f) = absurd (Memᴰ.not-nil (subst (λ z. In t z) (f s) m))
      look (one a n f) =
          ap (tags_fault judge) (f s) ∙ ap judge (sym (Memᴰ.eq_of_singleton (subst (λ z. In t z) (f s) m)))

  -- a byte that stops reading
  outcome_stop : step q b ≡ stop → Outcome judge q p (b ∷ s) (refused_at bad_plan p)
  outcome_stop e =
      blocked 0 (sym (add-zero p)) (clear_zero judge q (b ∷ s)) refl
      (record { within = omega arith; leads = (q, run-nil q); ends_not = ends_not })
    where
      ends_not : (u : List ℕ) → take 1 u ≡ b ∷ [] → run q u ≡ go after → ⊥
      ends_not [] d f = nil≢cons d
      ends_not (c ∷ u) d f = go≢stop (sym f ∙ run-stops q c u (ap (step q) (head-eq_of_cons-eq d) ∙ e))

  module _ {r : Place} (e : step q b ≡ go r) where
    -- a tag that is refused
    outcome-judged : (fault_here ≡ 0 → ⊥) → Outcome judge q p (b ∷ s) (refused_at fault_here p)
    outcome-judged some = look (meets q b)
      where
        look : Meets q b → Outcome judge q p (b ∷ s) (refused_at fault_here p)
        look (none f) = absurd (some (ap (tags_fault judge) (f s)))
        look (one a n f) =
            let t = tag a n (b ∷ s) in
            let m : In t (met q b s) = subst (λ z. In t z) (sym (f s)) (here refl) in
            let above : 0 < fault_here = omega arith in
            judged_at 0 (sym (add-zero p)) (clear_zero judge q (b ∷ s))
            (record { met_tag = t; is_met = subst (λ z. In t z) (sym (met-here q b s e)) m; judged = sym (fault-of m); refused = above })

    module _ (fine : fault_here ≡ 0) where
      -- no tag up to here is refused
      clear-on : (i : ℕ) → Clear judge r s i → Clear judge q (b ∷ s) (suc i)
      clear-on i c zero t h m = sym (fault-of (subst (λ z. In t z) (met-here q b s e) m)) ∙ fine
      clear-on i c (suc j) t h m = c j t (omega arith) (subst (λ z. In t z) (met-later q b s e j) m)

      -- no tag at all is refused
      all-fine : AllFine judge r s → AllFine judge q (b ∷ s)
      all-fine c j t m = clear-on (suc j) (λ k v h. c k v) j t (omega arith) m

      -- what is blocked later
      blocked-on : (i : ℕ) → Blocked r s i → Blocked q (b ∷ s) (suc i)
      blocked-on i h =
          let near : i ≤ length s = h.within in
          record { within = omega arith; leads = (h.leads.0, run-goes q b (take i s) e ∙ h.leads.1); ends_not = ends_not }
        where
          ends_not : (u : List ℕ) → take (suc (suc i)) u ≡ b ∷ take (suc i) s → run q u ≡ go after → ⊥
          ends_not [] d f = nil≢cons d
          ends_not (c ∷ u) d f =
              h.ends_not u (tail-eq_of_cons-eq d) (sym (run-goes q c u (ap (step q) (head-eq_of_cons-eq d) ∙ e)) ∙ f)

      -- what is judged later
      judged-on : (i number : ℕ) → Judged judge r s i number → Judged judge q (b ∷ s) (suc i) number
      judged-on i number h =
          record {
            met_tag = h.met_tag;
            is_met = subst (λ z. In h.met_tag z) (sym (met-later q b s e i)) h.is_met;
            judged = h.judged;
            refused = h.refused;
          }

      -- what reading on comes to
      outcome-on : (x : Reading) → Outcome judge r (suc p) s x → Outcome judge q p (b ∷ s) (with_tags (met q b s) x)
      outcome-on x (accepted n l ts c) =
          accepted n (run-goes q b s e ∙ l) (ap (λ (z : List Tag). met q b s ++ z) ts ∙ sym (tags-go q b s e)) (all-fine c)
      outcome-on x (blocked i at c n h) =
          let next : suc p + i ≡ p + suc i = omega arith in
          blocked (suc i) (at ∙ next) (clear-on i c) n (blocked-on i h)
      outcome-on x (judged_at i at c h) =
          let next : suc p + i ≡ p + suc i = omega arith in
          judged_at (suc i) (at ∙ next) (clear-on i c) (judged-on i x.number h)

    -- where the byte leads to a place
    outcome-goes : (x : Bool) → eqb fault_here 0 ≡ x → Outcome judge r (suc p) s (read_plan_from judge r (suc p) s)
        → Outcome judge q p (b ∷ s)
        (elim x [ true ↦ with_tags (met q b s) (read_plan_from judge r (suc p) s) | false ↦ refused_at fault_here p ])
    outcome-goes true f h = outcome-on ((tells_eqb fault_here 0).fact f) (read_plan_from judge r (suc p) s) h
    outcome-goes false f h = outcome-judged (not_told (tells_eqb fault_here 0) f)

-- what reading any bytes from any place comes to
pub outcome : (judge : Tag → ℕ) (q : Place) (p : ℕ) (s : List ℕ) → Outcome judge q p s (read_plan_from judge q p s)
unfolding read_plan_from
outcome judge q p [] = outcome_nil judge q p (how_ended q p)
outcome judge q p (b ∷ s) = look (stepped q b) (λ r. outcome judge r (suc p) s)
  where
    look : Stepped q b → ((r : Place) → Outcome judge r (suc p) s (read_plan_from judge r (suc p) s))
        → Outcome judge q p (b ∷ s) (read_plan_from judge q p (b ∷ s))
    look (stops e) again = subst (Outcome judge q p (b ∷ s)) (sym (read_stops judge q p b s e)) (outcome_stop judge q p b s e)
    look (goes r e) again =
        subst (Outcome judge q p (b ∷ s)) (sym (read_goes judge q p b s e))
        (outcome-goes judge q p b s e (eqb (fault_here judge q p b s) 0) refl (again r))
