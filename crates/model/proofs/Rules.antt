-- Open steps as facts: what the tests of Joinings tell of two groups. In order: forks, one name into one group, the rule of the
-- class, open steps, and that in a full joining groups that a rule joins are one. Assumes nothing.
use mathlib.Core.Path.{◌≡◌, refl, sym, ◌∙◌}
use mathlib.Core.Logic.{◌⊎◌, inl, inr, ⊎_elim}
use mathlib.Core.Bool.{Bool, true, false, ◌||◌, true≢false, false≢true}
use mathlib.Core.List.Memᴰ
use mathlib.Core.List.{List, [], ◌∷◌, map, Memᴰ as In}
use Prim.Native.Nat.{ℕ}
use native.Mathlib.Omega.{arith}
use lib.Dec.{eqb}
use lib.ListN.{length}
use Rattle.model.specs.Fields.{Class}
use Rattle.model.specs.Classes.{Word}
use Rattle.model.specs.Joinings.{Transition, transition, transitions_of, groups_in, forks, into_one, by_context, f_of_group}
use Rattle.model.specs.Joinings.{by_f, by_rule, group_accepts, step, is_open, steps_between, open_steps, is_full}
use Rattle.base.proofs.Tests.{Tells, tells_eqb, tells_same, tells_and, tells_or, tells_not, tells_by, tells_any_two}
use Rattle.base.proofs.Tests.{tells_is_in, tells_itself, eq_dec}
use Rattle.base.proofs.Lists.{in_flat_map, in_filter_by}
use Rattle.model.proofs.Groups.{in_groups_in, groups_in-in}
use Rattle.model.proofs.Contexts.{paths_from}
pub use Rattle.model.proofs.Contexts.{TwoPaths, tells_context}

-- why two groups are to be joined
pub data Ruled (c : Class) (rows nodes : List Word) (groups : List ℕ) (x y : ℕ) : Type 0 where
  forked :
      (g a : ℕ) → In (transition g a x) (transitions_of nodes groups) →
      In (transition g a y) (transitions_of nodes groups) → Ruled c rows nodes groups x y
  by_context_fact :
      eqb c.kind 0 ≡ true → TwoPaths c.first c.second (transitions_of nodes groups) groups x y →
      Ruled c rows nodes groups x y
  by_ends :
      eqb c.kind 0 ≡ false → f_of_group c nodes groups x ≡ f_of_group c nodes groups y →
      group_accepts rows nodes groups x ≡ true → group_accepts rows nodes groups y ≡ true → Ruled c rows nodes groups x y
  by_back :
      eqb c.kind 0 ≡ false → f_of_group c nodes groups x ≡ f_of_group c nodes groups y →
      (a g : ℕ) → In (transition x a g) (transitions_of nodes groups) →
      In (transition y a g) (transitions_of nodes groups) → Ruled c rows nodes groups x y

-- a step is open exactly when its two groups are different ones that a rule joins
pub record Open (c : Class) (rows nodes : List Word) (groups : List ℕ) (x y : ℕ) : Type 0 where
  pub left_in : In x groups
  pub right_in : In y groups
  pub different : x ≡ y → ⊥
  pub ruled : Ruled c rows nodes groups x y

-- one group has arcs of the same name to both
tells_forks :
    (ts : List Transition) (x y : ℕ) → Tells (forks ts x y) ((g a : ℕ) × In (transition g a x) ts × In (transition g a y) ts)
unfolding forks
tells_forks ts x y =
    tells_by
    (tells_any_two
    (λ s t.
    tells_and (tells_and (tells_eqb s.from t.from) (tells_eqb s.name t.name))
    (tells_and (tells_eqb s.to x) (tells_eqb t.to y)))
    ts)
    (λ f. arcs f.0 f.1 f.2 f.3 f.4.0.0 f.4.0.1 f.4.1.0 f.4.1.1)
    (λ f. (transition f.0 f.1 x, transition f.0 f.1 y, f.2, f.3, ((refl, refl), (refl, refl))))
  where
    arcs :
        (s t : Transition) → In s ts → In t ts → s.from ≡ t.from → s.name ≡ t.name → s.to ≡ x → t.to ≡ y →
        (g a : ℕ) × In (transition g a x) ts × In (transition g a y) ts
    arcs s t m n same_from same_name to_x to_y = (
      s.from,
      s.name,
      Memᴰ.cast (λ i. transition s.from s.name (sym to_x i)) m,
      Memᴰ.cast (λ i. transition (same_from i) (same_name i) (sym to_y i)) n,
    )

-- one name leads from both into the same group
tells_into_one :
    (ts : List Transition) (x y : ℕ) → Tells (into_one ts x y) ((a g : ℕ) × In (transition x a g) ts × In (transition y a g) ts)
unfolding into_one
tells_into_one ts x y =
    tells_by
    (tells_any_two
    (λ s t.
    tells_and (tells_and (tells_eqb s.name t.name) (tells_eqb s.to t.to))
    (tells_and (tells_eqb s.from x) (tells_eqb t.from y)))
    ts)
    (λ f. arcs f.0 f.1 f.2 f.3 f.4.0.0 f.4.0.1 f.4.1.0 f.4.1.1)
    (λ f. (transition x f.0 f.1, transition y f.0 f.1, f.2, f.3, ((refl, refl), (refl, refl))))
  where
    arcs :
        (s t : Transition) → In s ts → In t ts → s.name ≡ t.name → s.to ≡ t.to → s.from ≡ x → t.from ≡ y →
        (a g : ℕ) × In (transition x a g) ts × In (transition y a g) ts
    arcs s t m n same_name same-to from_x from_y = (
      s.name,
      s.to,
      Memᴰ.cast (λ i. transition (sym from_x i) s.name s.to) m,
      Memᴰ.cast (λ i. transition (sym from_y i) (same_name i) (same-to i)) n,
    )

module _ (c : Class) (rows nodes : List Word) (groups : List ℕ) (x y : ℕ) where
  -- equal f, and both accept or one name leads from both into the same group
  abbrev ByF : Type 0
  ByF =
      (f_of_group c nodes groups x ≡ f_of_group c nodes groups y)
      × (((group_accepts rows nodes groups x ≡ true) × (group_accepts rows nodes groups y ≡ true))
      ⊎ ((a g : ℕ) × In (transition x a g) (transitions_of nodes groups) × In (transition y a g) (transitions_of nodes groups)))

  tells_by_f : Tells (by_f c rows nodes groups x y) ByF
  unfolding by_f
  tells_by_f =
      tells_and (tells_same (f_of_group c nodes groups x) (f_of_group c nodes groups y))
      (tells_or (tells_and (tells_itself (group_accepts rows nodes groups x)) (tells_itself (group_accepts rows nodes groups y)))
      (tells_into_one (transitions_of nodes groups) x y))

  -- what the class's rule says, by its kind
  abbrev ByRule : Type 0
  ByRule =
      ((eqb c.kind 0 ≡ true) × TwoPaths c.first c.second (transitions_of nodes groups) groups x y)
      ⊎ ((eqb c.kind 0 ≡ false) × ByF)

  -- a rule of the class joins the two exactly then
  tells_by_rule : Tells (by_rule c rows nodes groups x y) ByRule
  unfolding by_rule
  tells_by_rule = go (eqb c.kind 0) refl
    where
      -- paths do not see how the groups are listed
      listed :
          (gs others : List ℕ) → ((g : ℕ) → In g gs → In g others) →
          TwoPaths c.first c.second (transitions_of nodes groups) gs x y →
          TwoPaths c.first c.second (transitions_of nodes groups) others x y
      listed gs others = paths_from c.first c.second (transitions_of nodes groups) gs others x y

      go :
          (b : Bool) → eqb c.kind 0 ≡ b →
          Tells (elim b as (λ z. Bool) [
            | true ↦ by_context c.first c.second (transitions_of nodes groups) (groups_in groups) x y
            | false ↦ by_f c rows nodes groups x y
          ]) ByRule
      go true e =
          tells_by (tells_context c.first c.second (transitions_of nodes groups) (groups_in groups) x y)
          (λ f. inl (e, listed (groups_in groups) groups (groups_in-in groups) f))
          (λ f. ⊎_elim (λ r. listed groups (groups_in groups) (in_groups_in groups) r.1)
          (λ r. absurd (true≢false (sym e ∙ r.0))) f)
      go false e = tells_by tells_by_f (λ f. inr (e, f)) (λ f. ⊎_elim (λ r. absurd (false≢true (sym e ∙ r.0))) (λ r. r.1) f)

  -- the rule of every class: one group has arcs of one name to both
  abbrev Forked : Type 0
  Forked = (g a : ℕ) × In (transition g a x) (transitions_of nodes groups) × In (transition g a y) (transitions_of nodes groups)

  -- the two make up the reasons to join
  to_ruled : Forked ⊎ ByRule → Ruled c rows nodes groups x y
  to_ruled (inl f) = forked f.0 f.1 f.2 f.3
  to_ruled (inr (inl f)) = by_context_fact f.0 f.1
  to_ruled (inr (inr f)) =
      ⊎_elim (λ r. by_ends f.0 f.1.0 r.0 r.1) (λ r. by_back f.0 f.1.0 r.0 r.1 r.2 r.3) f.1.1

  of_ruled : Ruled c rows nodes groups x y → Forked ⊎ ByRule
  of_ruled (forked g a m n) = inl (g, a, m, n)
  of_ruled (by_context_fact k f) = inr (inl (k, f))
  of_ruled (by_ends k e f g) = inr (inr (k, (e, inl (f, g))))
  of_ruled (by_back k e a g m n) = inr (inr (k, (e, inr (a, g, m, n))))

  -- a rule joins two groups exactly when there is a reason
  tells_ruled : Tells (forks (transitions_of nodes groups) x y || by_rule c rows nodes groups x y) (Ruled c rows nodes groups x y)
  tells_ruled = tells_by (tells_or (tells_forks (transitions_of nodes groups) x y) tells_by_rule) to_ruled of_ruled

-- and a step is open exactly when it is `Open`
pub tells_open :
    (c : Class) (rows nodes : List Word) (groups : List ℕ) (x y : ℕ) →
    Tells (is_open c rows nodes groups (step x y)) (Open c rows nodes groups x y)
unfolding is_open
tells_open c rows nodes groups x y =
    tells_by
    (tells_and (tells_and (tells_is_in x groups) (tells_is_in y groups))
    (tells_and (tells_not (tells_eqb x y)) (tells_ruled c rows nodes groups x y)))
    (λ f. record { left_in = f.0.0; right_in = f.0.1; different = f.1.0; ruled = f.1.1 })
    (λ o. ((o.left_in, o.right_in), (o.different, o.ruled)))

-- every step between two of the groups is tried
in_steps_between : (xs ys : List ℕ) (x y : ℕ) → In x xs → In y ys → In (step x y) (steps_between xs ys)
unfolding steps_between
in_steps_between xs ys x y m n = in_flat_map (λ (z : ℕ). map (step z) ys) xs m (Memᴰ.map (step x) n)

-- the open steps are those that are open, and no other
pub in_open_steps :
    (c : Class) (rows nodes : List Word) (groups : List ℕ) (x y : ℕ) → Open c rows nodes groups x y →
    In (step x y) (open_steps c rows nodes groups)
unfolding open_steps
in_open_steps c rows nodes groups x y o =
    in_filter_by (is_open c rows nodes groups) (steps_between (groups_in groups) (groups_in groups))
    (in_steps_between (groups_in groups) (groups_in groups) x y
    (in_groups_in groups x o.left_in) (in_groups_in groups y o.right_in))
    ((tells_open c rows nodes groups x y).test o)

-- a list of length 0 has no element
none_in : {A : Type 0} {x : A} (xs : List A) → In x xs → length xs ≡ 0 → ⊥
none_in [] m e = Memᴰ.not-nil m
none_in (y ∷ ys) m e = omega arith

-- nothing is open in a full joining: ruled groups are one
pub full_equal :
    (c : Class) (rows nodes : List Word) (groups : List ℕ) → is_full c rows nodes groups ≡ true →
    (x y : ℕ) → In x groups → In y groups → Ruled c rows nodes groups x y → x ≡ y
unfolding is_full
full_equal c rows nodes groups full x y m n r =
    ⊎_elim (λ e. e)
    (λ d. absurd (none_in (open_steps c rows nodes groups)
    (in_open_steps c rows nodes groups x y (record { left_in = m; right_in = n; different = d; ruled = r }))
    ((tells_eqb (length (open_steps c rows nodes groups)) 0).fact full)))
    (eq_dec x y)
