-- Walks over any table, arc by arc: what `Reaches` and `admits` say of the arcs, walks put together and taken apart, and words
-- that reach one state. Assumes nothing.
use mathlib.Core.Path.{◌≡◌, refl, sym, ap, ◌∙◌, subst}
use mathlib.Core.Logic.{◌⊎◌, inl, inr, ◌↔◌}
use mathlib.Core.Bool.{true, false≢true}
use mathlib.Core.List.{List, [], ◌∷◌, ◌++◌}
use Prim.Native.Nat.{ℕ, zero, suc, ◌+◌, ◌≤◌, ◌<◌}
use native.Mathlib.Omega.{arith}
use lib.ListN.{length, get_or, get_or-eq_default}
use Rattle.model.specs.Classes.{Word, TailsEqual}
use Rattle.model.specs.Tables.{State, empty_state, target_in, Walk, walk_at, walk_from, walk, reached_state, admits}
use Rattle.model.specs.Sources.{AdmittedBy, Reaches, AdmittedFrom, SameTails}
use Rattle.base.proofs.Tests.{Tells, tells_and, tells_eqb, tells_itself, tells_ltb, decided}
use Rattle.model.proofs.Admits.{walk-stops, walk-goes}

-- the arcs by the names of the word lead from p to q
abbrev pub Steps : List State → ℕ → Word → ℕ → Type 0
Steps states p [] q = p ≡ q
Steps states p (a ∷ w) q = (r : ℕ) × (target_in a (get_or states p empty_state).arcs ≡ suc r) × Steps states r w q

module _ (states : List State) where
  -- then the walk takes them, whatever it has taken before
  steps_walk : (w : Word) (p q n : ℕ) → Steps states p w q → walk_from states p n w ≡ walk_at q (n + length w)
  unfolding walk_from
  steps_walk [] p q n e =
      let none : n ≡ n + 0 = omega arith in
      ap (λ (z : ℕ). walk_at z n) e ∙ ap (walk_at q) none
  steps_walk (a ∷ w) p q n s =
      let size : suc n + length w ≡ n + suc (length w) = omega arith in
      walk-goes states p n a w s.0 s.1 ∙ steps_walk w s.0 q (suc n) s.2 ∙ ap (walk_at q) size

  -- and a walk that takes all names goes by the arcs
  walk_steps : (w : Word) (p q n : ℕ) → walk_from states p n w ≡ walk_at q (n + length w) → Steps states p w q
  unfolding walk_from
  walk_steps [] p q n e = ap (λ (x : Walk). x.at_state) e
  walk_steps (a ∷ w) p q n e = go (target_in a (get_or states p empty_state).arcs) refl (λ r. walk_steps w r q (suc n))
    where
      go :
          (t : ℕ) → target_in a (get_or states p empty_state).arcs ≡ t →
          ((r : ℕ) → walk_from states r (suc n) w ≡ walk_at q (suc n + length w) → Steps states r w q) →
          Steps states p (a ∷ w) q
      go zero t again =
          let fewer : n ≡ n + suc (length w) = ap (λ (x : Walk). x.taken) (sym (walk-stops states p n a w t) ∙ e) in
          let z : ⊥ = omega arith in
          absurd z
      go (suc r) t again =
          let size : n + suc (length w) ≡ suc n + length w = omega arith in
          (r, t, again r (sym (walk-goes states p n a w r t) ∙ e ∙ ap (walk_at q) size))

  -- a state is reached exactly so
  pub reaches_steps : (p q : ℕ) (w : Word) → Reaches states p w q → Steps states p w q
  reaches_steps p q w h =
      let all : length w ≡ 0 + length w = omega arith in
      walk_steps w p q 0 (h.walked ∙ ap (walk_at q) all)

  pub steps_reaches : (p q : ℕ) (w : Word) → Steps states p w q → Reaches states p w q
  steps_reaches p q w s =
      let all : 0 + length w ≡ length w = omega arith in
      record { walked = steps_walk w p q 0 s ∙ ap (walk_at q) all }

  -- by one word a state reaches one state
  pub reaches_one : (p q r : ℕ) (w : Word) → Reaches states p w q → Reaches states p w r → q ≡ r
  reaches_one p q r w f g = ap (λ (x : Walk). x.at_state) (sym f.walked ∙ g.walked)

  -- walks in succession, and a walk taken apart
  pub reaches_append :
      (p z q : ℕ) (u v : Word) → Reaches states p u z → Reaches states z v q → Reaches states p (u ++ v) q
  reaches_append p z q u v f g =
      steps_reaches p q (u ++ v) (joined u p (reaches_steps p z u f) (reaches_steps z q v g))
    where
      joined : (u : Word) (p : ℕ) → Steps states p u z → Steps states z v q → Steps states p (u ++ v) q
      joined [] p s t = subst (λ (k : ℕ). Steps states k v q) (sym s) t
      joined (a ∷ u) p s t = (s.0, s.1, joined u s.0 s.2 t)

  pub reaches_split :
      (p q : ℕ) (u v : Word) → Reaches states p (u ++ v) q → (z : ℕ) × Reaches states p u z × Reaches states z v q
  reaches_split p q u v f =
      let r = apart u p (reaches_steps p q (u ++ v) f) in
      (r.0, steps_reaches p r.0 u r.1, steps_reaches r.0 q v r.2)
    where
      apart : (u : Word) (p : ℕ) → Steps states p (u ++ v) q → (z : ℕ) × Steps states p u z × Steps states z v q
      apart [] p s = (p, refl, s)
      apart (a ∷ u) p s = let r = apart u s.0 s.2 in (r.0, (s.0, s.1, r.1), r.2)

  -- ---- admitted words

  -- a word admitted from a state, taken apart where its beginning has led
  pub admitted-cut :
      (p : ℕ) (u v : Word) → AdmittedFrom states p (u ++ v) → (z : ℕ) × Reaches states p u z × AdmittedFrom states z v
  admitted-cut p u v h =
      let r = reaches_split p h.end u v h.way in
      (r.0, r.1, record { end = h.end; way = r.2; accepting = h.accepting })

  -- what is admitted after a word is what is admitted from the state that it reaches
  pub admitted-after :
      (p z : ℕ) (u v : Word) → Reaches states p u z → AdmittedFrom states p (u ++ v) ↔ AdmittedFrom states z v
  admitted-after p z u v f = (
    λ h.
        let r = admitted-cut p u v h in
        subst (λ (k : ℕ). AdmittedFrom states k v) (reaches_one p r.0 z u r.1 f) r.2,
    λ h. record { end = h.end; way = reaches_append p z h.end u v f h.way; accepting = h.accepting },
  )

  -- a state from which a word is admitted is one of the table's: past its end nothing accepts and there are no arcs
  pub admitted-in : (p : ℕ) (w : Word) → AdmittedFrom states p w → p < length states
  unfolding target_in
  admitted-in p w h = go (decided (tells_ltb p (length states)))
    where
      nothing : (w : Word) → length states ≤ p → Steps states p w h.end → ⊥
      nothing [] past s =
          let none : get_or states h.end empty_state ≡ empty_state =
          ap (λ (k : ℕ). get_or states k empty_state) (sym s) ∙ get_or-eq_default states empty_state past in
          false≢true (sym (ap (λ (x : State). x.accepts) none) ∙ h.accepting)
      nothing (a ∷ w) past s =
          let none : get_or states p empty_state ≡ empty_state = get_or-eq_default states empty_state past in
          let zero_is : 0 ≡ suc s.0 = sym (ap (λ (x : State). target_in a x.arcs) none) ∙ s.1 in
          omega arith

      go : (p < length states) ⊎ (p < length states → ⊥) → p < length states
      go (inl low) = low
      go (inr high) = absurd (nothing w (omega (arith, high)) (reaches_steps p h.end w h.way))

  -- a table admits what is admitted from its start
  pub tells_admitted : (r : Word) → Tells (admits states r) (AdmittedFrom states 0 r)
  unfolding admits reached_state walk
  tells_admitted r =
      let w : Walk = walk_from states 0 0 r in
      let both = tells_and (tells_eqb w.taken (length r)) (tells_itself (get_or states w.at_state empty_state).accepts) in
      record {
        fact = λ e.
            let f = both.fact e in
            record {
              end = w.at_state;
              way = record { walked = ap (walk_at w.at_state) f.0 };
              accepting = f.1;
            };
        test = λ h. both.test (
          ap (λ (x : Walk). x.taken) h.way.walked,
          subst (λ (x : Walk). (get_or states x.at_state empty_state).accepts ≡ true) (sym h.way.walked) h.accepting,
        );
      }

  -- the tails of a word are those of the state that it reaches
  pub word_tails :
      (u v : Word) (p : ℕ) → Reaches states 0 u p → AdmittedBy states (u ++ v) ↔ AdmittedFrom states p v
  word_tails u v p f = (
    λ e. (admitted-after 0 p u v f).0 ((tells_admitted (u ++ v)).fact e),
    λ h. (tells_admitted (u ++ v)).test ((admitted-after 0 p u v f).1 h),
  )

  -- so words have equal tails exactly where the states that they reach have
  pub equal_tails :
      (u w : Word) (p q : ℕ) → Reaches states 0 u p → Reaches states 0 w q →
      TailsEqual (AdmittedBy states) u w ↔ SameTails states p q
  equal_tails u w p q f g = (
    λ t. record {
      tails = λ v. (
        λ h. (word_tails w v q g).0 ((t.tails v).0 ((word_tails u v p f).1 h)),
        λ h. (word_tails u v p f).0 ((t.tails v).1 ((word_tails w v q g).1 h)),
      );
    },
    λ t. record {
      tails = λ v. (
        λ e. (word_tails w v q g).1 ((t.tails v).0 ((word_tails u v p f).0 e)),
        λ e. (word_tails u v p f).1 ((t.tails v).1 ((word_tails w v q g).0 e)),
      );
    },
  )
