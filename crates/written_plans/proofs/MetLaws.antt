-- At which byte a tag is met: each tag at one, each byte at most one, and which one depends on the bytes up to it only. Assumes nothing.
use mathlib.Core.Path.{◌≡◌, refl, sym, ap, ◌∙◌, subst}
use mathlib.Core.Logic.{⊎_elim}
use mathlib.Core.Bool.{Bool, true, false, cond}
use mathlib.Core.List.Memᴰ
use mathlib.Core.List.Memᴰ.{head as here}
use mathlib.Core.List.{List, [], ◌∷◌, ◌++◌, Memᴰ as In}
use mathlib.Core.List.{head-eq_of_cons-eq, tail-eq_of_cons-eq, nil≢cons}
use Prim.Native.Nat.{ℕ, zero, suc, ◌<◌}
use native.Mathlib.Omega.{arith}
use lib.ListN.{length, take, drop}
use Rattle.written_plans.specs.Written.{Tag, tag}
use Rattle.written_plans.specs.Reading.{Place, before, inside, opened, naming, named, emptied, closing, after}
use Rattle.written_plans.specs.Reading.{go, step, met, begins_name}
use Rattle.written_plans.proofs.Runs.{run, tags_from, met_at}
use Rattle.written_plans.proofs.Steps.{Stepped, stops, goes, stepped, run-nil, run-goes, tags-stop, tags-go}
use Rattle.written_plans.proofs.Steps.{met-nil, met-stops, met-here, met-later}

-- every tag is met at some byte
pub tag-met : (q : Place) (s : List ℕ) {t : Tag} → In t (tags_from q s) → (p : ℕ) × In t (met_at q p s)
unfolding tags_from
tag-met q [] m = absurd (Memᴰ.not-nil m)
tag-met q (b ∷ s) {t} m = look (stepped q b) (λ z. tag-met z s)
  where
    look : Stepped q b → ((z : Place) → In t (tags_from z s) → (p : ℕ) × In t (met_at z p s)) → (p : ℕ) × In t (met_at q p (b ∷ s))
    look (stops e) again = absurd (Memᴰ.not-nil (subst (λ z. In t z) (tags-stop q b s e) m))
    look (goes r e) again =
        ⊎_elim (λ n. (zero, subst (λ z. In t z) (sym (met-here q b s e)) n))
        (λ n. let h = again r n in (suc h.0, subst (λ z. In t z) (sym (met-later q b s e h.0)) h.1))
        (Memᴰ.append_cases (met q b s) (subst (λ z. In t z) (tags-go q b s e) m))

-- and what is met at a byte is one of the tags
pub met_tag : (q : Place) (p : ℕ) (s : List ℕ) {t : Tag} → In t (met_at q p s) → In t (tags_from q s)
met_tag q p [] {t} m = absurd (Memᴰ.not-nil (subst (λ z. In t z) (met-nil q p) m))
met_tag q zero (b ∷ s) {t} m = look (stepped q b)
  where
    look : Stepped q b → In t (tags_from q (b ∷ s))
    look (stops e) = absurd (Memᴰ.not-nil (subst (λ z. In t z) (met-stops q b s e zero) m))
    look (goes r e) =
        subst (λ z. In t z) (sym (tags-go q b s e)) (Memᴰ.append_left (tags_from r s) (subst (λ z. In t z) (met-here q b s e) m))
met_tag q (suc p) (b ∷ s) {t} m = look (stepped q b) (λ z. met_tag z p s)
  where
    look : Stepped q b → ((z : Place) → In t (met_at z p s) → In t (tags_from z s)) → In t (tags_from q (b ∷ s))
    look (stops e) again = absurd (Memᴰ.not-nil (subst (λ z. In t z) (met-stops q b s e (suc p)) m))
    look (goes r e) again =
        subst (λ z. In t z) (sym (tags-go q b s e)) (Memᴰ.append_right (met q b s) (again r (subst (λ z. In t z) (met-later q b s e p) m)))

-- a byte meets no tag, or one, whatever follows
pub data Meets (q : Place) (b : ℕ) : Type 0 where
  none : ((s : List ℕ) → met q b s ≡ []) → Meets q b
  one : (around : List (List ℕ)) (name : List ℕ) → ((s : List ℕ) → met q b s ≡ tag around name (b ∷ s) ∷ []) → Meets q b

-- one of the two
pub meets : (q : Place) (b : ℕ) → Meets q b
unfolding met
meets before b = none (λ s. refl)
meets (inside n around) b = none (λ s. refl)
meets (opened around) b = none (λ s. refl)
meets (naming around n) b = look (begins_name (n ++ (b ∷ []))) refl
  where
    look : (x : Bool) → begins_name (n ++ (b ∷ [])) ≡ x → Meets (naming around n) b
    look true e = none (λ s. ap (λ (x : Bool). cond {A = List Tag} x [] (tag around n (b ∷ s) ∷ [])) e)
    look false e = one around n (λ s. ap (λ (x : Bool). cond {A = List Tag} x [] (tag around n (b ∷ s) ∷ [])) e)
meets (named around n) b = none (λ s. refl)
meets (emptied around) b = none (λ s. refl)
meets (closing due around) b = none (λ s. refl)
meets after b = none (λ s. refl)

-- a tag met at byte p: the bytes up to that one lead somewhere, and any bytes that begin with the same have that tag there and no other
pub record MetHere (q : Place) (p : ℕ) (s : List ℕ) (t : Tag) : Type 0 where
  pub within : p < length s
  pub leads : (r : Place) × (run q (take (suc p) s) ≡ go r)
  pub only : (u : List ℕ) → take (suc p) u ≡ take (suc p) s → met_at q p u ≡ tag t.around t.name (drop p u) ∷ []

-- the tag at the first byte
met-first : (q : Place) (b : ℕ) (s : List ℕ) {t : Tag} → Stepped q b → In t (met_at q zero (b ∷ s)) → MetHere q zero (b ∷ s) t
met-first q b s {t} (stops e) m = absurd (Memᴰ.not-nil (subst (λ z. In t z) (met-stops q b s e zero) m))
met-first q b s {t} (goes r e) m = look (meets q b)
  where
    one_tag : (a : List (List ℕ)) (n : List ℕ) → ((v : List ℕ) → met q b v ≡ tag a n (b ∷ v) ∷ [])
        → (u : List ℕ) → take 1 u ≡ b ∷ [] → met_at q zero u ≡ tag a n u ∷ []
    one_tag a n f [] d = absurd (nil≢cons d)
    one_tag a n f (c ∷ u) d =
        let same : c ≡ b = head-eq_of_cons-eq d in
        subst (λ z. met_at q zero (z ∷ u) ≡ tag a n (z ∷ u) ∷ []) (sym same) (met-here q b u e ∙ f u)

    look : Meets q b → MetHere q zero (b ∷ s) t
    look (none f) = absurd (Memᴰ.not-nil (subst (λ z. In t z) (met-here q b s e ∙ f s) m))
    look (one a n f) =
        let same : t ≡ tag a n (b ∷ s) = Memᴰ.eq_of_singleton (subst (λ z. In t z) (met-here q b s e ∙ f s) m) in
        record {
          within = omega arith;
          leads = (r, run-goes q b [] e ∙ run-nil r);
          only = λ u d. one_tag a n f u d ∙ ap (λ (z : Tag). tag z.around z.name u ∷ []) (sym same);
        }

-- a tag at a later byte
met_next : (q : Place) (p : ℕ) (b : ℕ) (s : List ℕ) {t : Tag} {r : Place} → step q b ≡ go r → MetHere r p s t
    → MetHere q (suc p) (b ∷ s) t
met_next q p b s {t} {r} e h =
    let near : p < length s = h.within in
    record {
      within = omega arith;
      leads = (h.leads.0, run-goes q b (take (suc p) s) e ∙ h.leads.1);
      only = later;
    }
  where
    later : (u : List ℕ) → take (suc (suc p)) u ≡ b ∷ take (suc p) s
        → met_at q (suc p) u ≡ tag t.around t.name (drop (suc p) u) ∷ []
    later [] d = absurd (nil≢cons d)
    later (c ∷ u) d =
        let same : c ≡ b = head-eq_of_cons-eq d in
        met-later q c u (ap (λ (z : ℕ). step q z) same ∙ e) p ∙ h.only u (tail-eq_of_cons-eq d)

-- whatever is met at a byte
pub met-is_here : (q : Place) (p : ℕ) (s : List ℕ) {t : Tag} → In t (met_at q p s) → MetHere q p s t
met-is_here q p [] {t} m = absurd (Memᴰ.not-nil (subst (λ z. In t z) (met-nil q p) m))
met-is_here q zero (b ∷ s) m = met-first q b s (stepped q b) m
met-is_here q (suc p) (b ∷ s) {t} m = look (stepped q b) (λ z. met-is_here z p s)
  where
    look : Stepped q b → ((z : Place) → In t (met_at z p s) → MetHere z p s t) → MetHere q (suc p) (b ∷ s) t
    look (stops e) again = absurd (Memᴰ.not-nil (subst (λ z. In t z) (met-stops q b s e (suc p)) m))
    look (goes r e) again = met_next q p b s e (again r (subst (λ z. In t z) (met-later q b s e p) m))

module _ (q : Place) (p : ℕ) (s : List ℕ) {t : Tag} (m : In t (met_at q p s)) where
  -- a tag goes on with the bytes from where it is met
  pub met-onward : t.onward ≡ drop p s
  met-onward =
      let same : t ≡ tag t.around t.name (drop p s)
      = Memᴰ.eq_of_singleton (subst (λ z. In t z) ((met-is_here q p s m).only s refl) m) in
      ap (λ (z : Tag). z.onward) same

  -- at most one tag is met at a byte
  pub met-single : {u : Tag} → In u (met_at q p s) → u ≡ t
  met-single {u} n =
      let f = (met-is_here q p s m).only s refl in
      Memᴰ.eq_of_singleton (subst (λ z. In u z) f n) ∙ sym (Memᴰ.eq_of_singleton (subst (λ z. In t z) f m))

  -- bytes that begin with the same have that tag there, and go on with their own
  pub met-moves : (u : List ℕ) → take (suc p) u ≡ take (suc p) s → In (tag t.around t.name (drop p u)) (met_at q p u)
  met-moves u e = subst (λ z. In (tag t.around t.name (drop p u)) z) (sym ((met-is_here q p s m).only u e)) (here refl)
