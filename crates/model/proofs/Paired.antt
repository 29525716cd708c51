-- Lists paired element by element, by a relation of groups that is one to one: places, membership, first-met order and
-- renumbered arcs are the same on both sides. Ascending arcs with agreeing elements are paired. Assumes nothing.
use mathlib.Core.Path.{◌≡◌, refl, sym, ap, ap₂, subst}
use mathlib.Core.Logic.{◌⊎◌, inl, inr}
use mathlib.Core.Bool.{Bool, true, false, ◌||◌, cond, true≢false, false≢true}
use mathlib.Core.List.Memᴰ.{head as here}
use mathlib.Core.List.Memᴰ.{tail as there}
use mathlib.Core.List.{List, [], ◌∷◌, ◌++◌, map, Memᴰ as In}
use mathlib.Core.List.Memᴰ
use mathlib.Core.List.Forall₂.{cons as pair}
use mathlib.Core.List.Forall₂.{nil as none}
use mathlib.Core.List.{Forall₂ as Paired}
use Prim.Native.Nat.{ℕ, zero, suc, ◌≤◌, ◌<◌}
use native.Mathlib.Omega.{arith}
use lib.Dec.{eqb, ltb}
use lib.ListN.{length, get_or}
use borrow.Author.Tests.{ltb-true}
use Rattle.base.specs.Lists.{any, is_in, index_in}
use Rattle.model.specs.Tables.{Arc, arc, Ascending}
use Rattle.model.specs.Joinings.{Transition}
use Rattle.model.specs.Quotients.{arcs_out_of, met_with, met_from, renumbered}
use Rattle.model.proofs.Arcs.{ascending_low, after_first}

-- two arcs of one name with related targets
pub record ArcsAgree (R : ℕ → ℕ → Type 0) (a b : Arc) : Type 0 where
  pub names : a.name ≡ b.name
  pub targets : R a.to b.to

module _ {A B : Type 0} {R : A → B → Type 0} where
  -- pairs in lists of one length, appended, chosen, by place and mapped
  pub paired_length : {xs : List A} {ys : List B} → Paired R xs ys → length xs ≡ length ys
  paired_length none = refl
  paired_length (pair {l₁ = xs} {l₂ = ys} r rest) = ap suc (paired_length {xs = xs} {ys = ys} rest)

  pub paired_append : {xs us : List A} {ys vs : List B} → Paired R xs ys → Paired R us vs → Paired R (xs ++ us) (ys ++ vs)
  paired_append none q = q
  paired_append (pair r rest) q = pair r (paired_append rest q)

  pub paired_cond :
      {xs us : List A} {ys vs : List B} (b c : Bool) → b ≡ c → (b ≡ true → Paired R xs ys) → Paired R us vs →
      Paired R (cond b xs us) (cond c ys vs)
  paired_cond true true e p q = p refl
  paired_cond true false e p q = absurd (true≢false e)
  paired_cond false true e p q = absurd (false≢true e)
  paired_cond false false e p q = q

  pub paired_nth :
      {xs : List A} {ys : List B} → Paired R xs ys → (i : ℕ) (d : A) (e : B) → i < length xs → R (get_or xs i d) (get_or ys i e)
  paired_nth none i d e h = let z : ⊥ = omega arith in absurd z
  paired_nth (pair r rest) zero d e h = r
  paired_nth (pair {l₁ = xs} {l₂ = ys} r rest) (suc i) d e h =
      let low : i < length xs = omega arith in
      paired_nth {xs = xs} {ys = ys} rest i d e low

  pub paired_map :
      {C : Type 0} (f : A → C) (g : B → C) → ((x : A) (y : B) → R x y → f x ≡ g y) → {xs : List A} {ys : List B} →
      Paired R xs ys → map f xs ≡ map g ys
  paired_map f g h none = refl
  paired_map {C} f g h (pair {a = x} {b = y} r rest) = ap₂ (λ (c : C) (cs : List C). c ∷ cs) (h x y r) (paired_map f g h rest)

-- a relation of groups that is one to one, by its tests
module _ {R : ℕ → ℕ → Type 0} (one-to-one : (g g' h h' : ℕ) → R g g' → R h h' → eqb g h ≡ eqb g' h') where
  -- what is in the one list is in the other, at the same place
  is_in-paired : (x y : ℕ) {xs ys : List ℕ} → R x y → Paired R xs ys → is_in x xs ≡ is_in y ys
  unfolding is_in any
  is_in-paired x y r none = refl
  is_in-paired x y r (pair {a = u} {b = v} {l₁ = us} {l₂ = vs} s rest) =
      ap₂ (λ (b c : Bool). b || c) (one-to-one x y u v r s) (is_in-paired x y {xs = us} {ys = vs} r rest)

  index_in-paired : (x y : ℕ) {xs ys : List ℕ} → R x y → Paired R xs ys → index_in x xs ≡ index_in y ys
  unfolding index_in
  index_in-paired x y r none = refl
  index_in-paired x y r (pair {a = u} {b = v} {l₁ = us} {l₂ = vs} s rest) =
      ap₂ (λ (b : Bool) (n : ℕ). elim b as (λ c. ℕ) [ true ↦ 0 | false ↦ suc n ])
      (one-to-one x y u v r s) (index_in-paired x y {xs = us} {ys = vs} r rest)

  -- the groups met by agreeing arcs are paired
  met_with-paired :
      {met met' : List ℕ} {arcs arcs' : List Arc} → Paired R met met' → Paired (ArcsAgree R) arcs arcs' →
      Paired R (met_with met arcs) (met_with met' arcs')
  unfolding met_with
  met_with-paired {met} {met'} m none = m
  met_with-paired {met} {met'} m (pair {a = a} {b = b} s rest) =
      met_with-paired {met = cond (is_in a.to met) met (met ++ (a.to ∷ []))} {met' = cond (is_in b.to met') met' (met' ++ (b.to ∷ []))}
      (paired_cond (is_in a.to met) (is_in b.to met') (is_in-paired a.to b.to s.targets m) (λ e. m)
      (paired_append m (pair s.targets none)))
      rest

  -- and so are all groups met, where arcs out of related groups agree
  pub met_from-paired :
      (ts ts' : List Transition) →
      ((g g' : ℕ) → R g g' → Paired (ArcsAgree R) (arcs_out_of g ts) (arcs_out_of g' ts')) →
      (n i : ℕ) {met met' : List ℕ} → Paired R met met' → Paired R (met_from n i ts met) (met_from n i ts' met')
  unfolding met_from
  met_from-paired ts ts' outs zero i m = m
  met_from-paired ts ts' outs (suc n) i {met} {met'} m =
      met_from-paired ts ts' outs n (suc i)
      (paired_cond (ltb i (length met)) (ltb i (length met')) (ap (λ (k : ℕ). ltb i k) (paired_length m))
      (λ e. met_with-paired m (outs (get_or met i 0) (get_or met' i 0) (paired_nth m i 0 0 (ltb-true i (length met) e)))) m)

  -- and the renumbered arcs are the same
  pub renumbered-paired :
      {met met' : List ℕ} {arcs arcs' : List Arc} → Paired R met met' → Paired (ArcsAgree R) arcs arcs' →
      renumbered met arcs ≡ renumbered met' arcs'
  unfolding renumbered
  renumbered-paired {met} {met'} m p =
      paired_map (λ (a : Arc). arc a.name (index_in a.to met)) (λ (b : Arc). arc b.name (index_in b.to met'))
      (λ a b s. ap₂ arc s.names (index_in-paired a.to b.to s.targets m)) p

-- ascending arcs, each with an agreeing one on the other side, agree one by one
module _ {R : ℕ → ℕ → Type 0} where
  -- the first arcs agree
  head-agrees :
      (next : ℕ) (x y : Arc) (xs ys : List Arc) → Ascending next (x ∷ xs) → Ascending next (y ∷ ys) →
      ((b : Arc) × In b (y ∷ ys) × ArcsAgree R x b) → ((a : Arc) × In a (x ∷ xs) × ArcsAgree R a y) → ArcsAgree R x y
  head-agrees next x y xs ys p q there' back = go (Memᴰ.cases_cons there'.1)
    where
      go : (there'.0 ≡ y) ⊎ In there'.0 ys → ArcsAgree R x y
      go (inl e) = subst (λ (z : Arc). ArcsAgree R x z) e there'.2
      go (inr n) =
          let above : suc y.name ≤ there'.0.name = ascending_low (suc y.name) ys there'.0 q.1 n in
          let below : x.name ≤ back.0.name = ascending_low x.name (x ∷ xs) back.0 (omega arith, p.1) back.1 in
          let one : x.name ≡ there'.0.name = there'.2.names in
          let two : back.0.name ≡ y.name = back.2.names in
          let z : ⊥ = omega arith in
          absurd z

  pub ascending_paired :
      (next : ℕ) (xs ys : List Arc) → Ascending next xs → Ascending next ys →
      ((a : Arc) → In a xs → (b : Arc) × In b ys × ArcsAgree R a b) →
      ((b : Arc) → In b ys → (a : Arc) × In a xs × ArcsAgree R a b) → Paired (ArcsAgree R) xs ys
  ascending_paired next [] [] p q f g = none
  ascending_paired next [] (y ∷ ys) p q f g = absurd (Memᴰ.not-nil (g y (here refl)).1)
  ascending_paired next (x ∷ xs) [] p q f g = absurd (Memᴰ.not-nil (f x (here refl)).1)
  ascending_paired next (x ∷ xs) (y ∷ ys) p q f g =
      let agree : ArcsAgree R x y = head-agrees next x y xs ys p q (f x (here refl)) (g y (here refl)) in
      let same : x.name ≡ y.name = agree.names in
      let from : Ascending (suc x.name) ys = subst (λ (n : ℕ). Ascending (suc n) ys) (sym same) q.1 in
      pair agree
      (ascending_paired (suc x.name) xs ys p.1 from
      (λ a m.
      let found = f a (there m) in
      let above = ascending_low (suc x.name) xs a p.1 m in
      (found.0, after_first y ys found.0 (omega (arith, found.2.names)) found.1, found.2))
      (λ b m.
      let found = g b (there m) in
      let above = ascending_low (suc y.name) ys b q.1 m in
      (found.0, after_first x xs found.0 (omega (arith, found.2.names)) found.1, found.2)))
