-- The meeting of groups: one target and the targets of some arcs added to the groups met, then what holds when the first i of
-- the groups met have been looked at. Assumes nothing.
use mathlib.Core.Path.{◌≡◌, refl, sym, ap, ◌∙◌, subst}
use mathlib.Core.Logic.{◌⊎◌, inl, inr, ⊎_elim}
use mathlib.Core.Bool.{Bool, true, false, cond}
use mathlib.Core.List.Memᴰ.{head as here}
use mathlib.Core.List.{List, [], ◌∷◌, ◌++◌, append_assoc, append-nil, Memᴰ as In}
use mathlib.Core.List.Memᴰ
use mathlib.Core.List.Memᴰ.{tail as there}
use Prim.Native.Nat.{ℕ, zero, suc, ◌+◌, ◌≤◌, ◌<◌}
use native.Mathlib.Omega.{arith}
use lib.Dec.{ltb}
use lib.ListN.{length, get_or, get_or-append}
use borrow.Author.Tests.{ltb-true, ltb-false}
use Rattle.base.specs.Lists.{is_in, Distinct}
use Rattle.model.specs.Tables.{Arc}
use Rattle.model.specs.Joinings.{Transition, transition}
use Rattle.model.specs.Quotients.{arcs_out_of, met_with, met_from}
use Rattle.base.proofs.Tests.{tells_is_in, not_told, eq_dec}
use Rattle.base.proofs.Lists.{distinct_snoc}
use Rattle.model.proofs.Arcs.{arcs_out_of-in}

-- ---- more groups met

-- a list grown from another: the other is its beginning, nothing stands twice, and what is new has the property
pub record Grown (P : ℕ → Type 0) (met grown : List ℕ) : Type 0 where
  pub more : List ℕ
  pub begins : grown ≡ met ++ more
  pub distinct : Distinct met → Distinct grown
  pub whence : (g : ℕ) → In g grown → In g met ⊎ P g

-- what was there is there
pub grown_keeps : {P : ℕ → Type 0} {met grown : List ℕ} → Grown P met grown → (g : ℕ) → In g met → In g grown
grown_keeps {P} {met} {grown} r g m = subst (λ (xs : List ℕ). In g xs) (sym r.begins) (Memᴰ.append_left r.more m)

-- lists grow by nothing, in turn, and by weaker properties
grown_refl : (P : ℕ → Type 0) (met : List ℕ) → Grown P met met
grown_refl P met =
    record { more = []; begins = sym (append-nil met); distinct = λ d. d; whence = λ g m. inl m }

grown_trans :
    (P : ℕ → Type 0) (xs ys zs : List ℕ) → Grown P xs ys → Grown P ys zs → Grown P xs zs
grown_trans P xs ys zs r s =
    record {
      more = r.more ++ s.more;
      begins = s.begins ∙ ap (λ (l : List ℕ). l ++ s.more) r.begins ∙ append_assoc xs r.more s.more;
      distinct = λ d. s.distinct (r.distinct d);
      whence = λ g m. ⊎_elim (λ n. r.whence g n) (λ p. inr p) (s.whence g m);
    }

grown_by :
    (P Q : ℕ → Type 0) (xs ys : List ℕ) → ((g : ℕ) → P g → Q g) → Grown P xs ys → Grown Q xs ys
grown_by P Q xs ys f r =
    record {
      more = r.more;
      begins = r.begins;
      distinct = r.distinct;
      whence = λ g m. ⊎_elim (λ n. inl n) (λ p. inr (f g p)) (r.whence g m);
    }

-- one group more, if it is new
abbrev pub with_one : List ℕ → ℕ → List ℕ
with_one met y = cond (is_in y met) met (met ++ (y ∷ []))

-- it grows by that group, which is there then
with_one-grown : (met : List ℕ) (y : ℕ) → Grown (λ g. g ≡ y) met (with_one met y) × In y (with_one met y)
with_one-grown met y = go (is_in y met) refl
  where
    go :
        (b : Bool) → is_in y met ≡ b →
        Grown (λ g. g ≡ y) met (cond b met (met ++ (y ∷ []))) × In y (cond b met (met ++ (y ∷ [])))
    go true e = (grown_refl (λ g. g ≡ y) met, (tells_is_in y met).fact e)
    go false e = (
      record {
        more = y ∷ [];
        begins = refl;
        distinct = λ d. distinct_snoc met y d (not_told (tells_is_in y met) e);
        whence = λ g m. ⊎_elim (λ n. inl n) (λ n. inr (Memᴰ.eq_of_singleton n)) (Memᴰ.append_cases met m);
      },
      Memᴰ.append_right met (here refl),
    )

-- the group is the target of one of these arcs
abbrev pub TargetOf : List Arc → ℕ → Type 0
TargetOf arcs g = (a : Arc) × In a arcs × (g ≡ a.to)

-- the groups met grow by targets of the arcs
pub met_with-grown : (met : List ℕ) (arcs : List Arc) → Grown (TargetOf arcs) met (met_with met arcs)
unfolding met_with
met_with-grown met [] = grown_refl (TargetOf []) met
met_with-grown met (a ∷ arcs) =
    let one : List ℕ = with_one met a.to in
    grown_trans (TargetOf (a ∷ arcs)) met one (met_with one arcs)
    (grown_by (λ g. g ≡ a.to) (TargetOf (a ∷ arcs)) met one (λ g e. (a, here refl, e)) (with_one-grown met a.to).0)
    (grown_by (TargetOf arcs) (TargetOf (a ∷ arcs)) one (met_with one arcs)
    (λ g r. (r.0, there r.1, r.2)) (met_with-grown one arcs))

-- every target is met
pub in_met_with : (met : List ℕ) (arcs : List Arc) (a : Arc) → In a arcs → In a.to (met_with met arcs)
unfolding met_with
in_met_with met [] a m = absurd (Memᴰ.not-nil m)
in_met_with met (b ∷ arcs) a m =
    let one : List ℕ = with_one met b.to in
    ⊎_elim
    (λ e. grown_keeps (met_with-grown one arcs) a.to (Memᴰ.cast (ap (λ (z : Arc). z.to) e) (with_one-grown met b.to).1))
    (λ n. in_met_with one arcs a n)
    (Memᴰ.cases_cons m)

-- ---- the meeting

-- the groups met when the first i of them have been looked at: no one twice, `start` first, each other one the target of an
-- arc, and with each of the first i all its targets
pub record MetUpTo (ts : List Transition) (start i : ℕ) (met : List ℕ) : Type 0 where
  pub rest : List ℕ
  pub begins : met ≡ start ∷ rest
  pub distinct : Distinct met
  pub whence : (g : ℕ) → In g met → (g ≡ start) ⊎ ((x a : ℕ) × In (transition x a g) ts)
  pub closed : (j : ℕ) → j < i → j < length met → (a : Arc) → In a (arcs_out_of (get_or met j 0) ts) → In a.to met

module _ (ts : List Transition) (start : ℕ) where
  -- one look more: at the i-th group met, if there is one
  look :
      (i : ℕ) (met : List ℕ) → MetUpTo ts start i met →
      MetUpTo ts start (suc i) (cond (ltb i (length met)) (met_with met (arcs_out_of (get_or met i 0) ts)) met)
  look i met r = go (ltb i (length met)) refl
    where
      arcs : List Arc
      arcs = arcs_out_of (get_or met i 0) ts

      now : List ℕ
      now = met_with met arcs

      grown : Grown (TargetOf arcs) met now
      grown = met_with-grown met arcs

      kept : (j : ℕ) → j < length met → get_or now j 0 ≡ get_or met j 0
      kept j h = ap (λ (xs : List ℕ). get_or xs j 0) grown.begins ∙ get_or-append met grown.more 0 j h

      now-closed :
          i < length met → (j : ℕ) → j < suc i → (j ≡ i) ⊎ (j ≡ i → ⊥) →
          (a : Arc) → In a (arcs_out_of (get_or now j 0) ts) → In a.to now
      now-closed below j h (inl e) a m =
          let same : get_or now j 0 ≡ get_or met i 0 = kept j (omega arith) ∙ ap (λ (k : ℕ). get_or met k 0) e in
          in_met_with met arcs a (subst (λ (g : ℕ). In a (arcs_out_of g ts)) same m)
      now-closed below j h (inr d) a m =
          let lower : j < i = omega arith in
          let inside : j < length met = omega arith in
          grown_keeps grown a.to
          (r.closed j lower inside a (subst (λ (g : ℕ). In a (arcs_out_of g ts)) (kept j inside) m))

      target : (g : ℕ) → TargetOf arcs g → (x a : ℕ) × In (transition x a g) ts
      target g t = (
        get_or met i 0,
        t.0.name,
        subst (λ (y : ℕ). In (transition (get_or met i 0) t.0.name y) ts) (sym t.2)
            (arcs_out_of-in (get_or met i 0) t.0.name t.0.to ts t.1),
      )

      go : (b : Bool) → ltb i (length met) ≡ b → MetUpTo ts start (suc i) (cond b now met)
      go true e =
          let below : i < length met = ltb-true i (length met) e in
          record {
            rest = r.rest ++ grown.more;
            begins = grown.begins ∙ ap (λ (xs : List ℕ). xs ++ grown.more) r.begins;
            distinct = grown.distinct r.distinct;
            whence = λ g m. ⊎_elim (λ n. r.whence g n) (λ t. inr (target g t)) (grown.whence g m);
            closed = λ j h k. now-closed below j h (eq_dec j i);
          }
      go false e =
          let over : length met ≤ i = ltb-false i (length met) e in
          record {
            rest = r.rest;
            begins = r.begins;
            distinct = r.distinct;
            whence = r.whence;
            closed = λ j h k. r.closed j (omega arith) k;
          }

  -- n looks more, one after the other
  pub look_all : (n i : ℕ) (met : List ℕ) → MetUpTo ts start i met → MetUpTo ts start (n + i) (met_from n i ts met)
  unfolding met_from
  look_all zero i met r =
      let e : i ≡ 0 + i = omega arith in
      subst (λ (k : ℕ). MetUpTo ts start k met) e r
  look_all (suc n) i met r =
      let next : List ℕ = cond (ltb i (length met)) (met_with met (arcs_out_of (get_or met i 0) ts)) met in
      let e : n + suc i ≡ suc n + i = omega arith in
      subst (λ (k : ℕ). MetUpTo ts start k (met_from n (suc i) ts next)) e (look_all n (suc i) next (look i met r))
