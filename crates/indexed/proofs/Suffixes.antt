-- Laws of last names and common ways by number: the test of same last names, fewer and more of them, ancestors, and what
-- climbing from states with the same last k names gives. Assumes nothing.
use mathlib.Core.Path.{◌≡◌, refl, sym, ap, ◌∙◌, subst}
use mathlib.Core.Bool.{Bool, true, ◌&&◌}
use mathlib.Core.List.{List}
use Prim.Native.Nat.{ℕ, zero, suc, ◌+◌, ◌-◌, ◌<◌, ◌≤◌}
use native.Mathlib.Nat.{not-suc-le-zero}
use native.Mathlib.Omega.{arith}
use lib.Dec.{eqb, ltb}
use lib.ListN.{get_or}
use Rattle.base.proofs.Tests.{Tells, tells_and, tells_by, tells_eqb, tells_ltb}
use Rattle.indexed.specs.Trees.{Arrays, SameSuffix, up}
use Rattle.indexed.specs.Partitions.{ForkClosed, Share, ContextClosed}

-- the parent of the i-th ancestor
pub up-parent : (parents : List ℕ) (i v : ℕ) → get_or parents (up parents i v) 0 ≡ up parents (suc i) v
unfolding up
up-parent parents zero v = refl
up-parent parents (suc i) v = up-parent parents i (get_or parents v 0)

-- the test of same last names
pub same_suffix : List ℕ → List ℕ → ℕ → ℕ → ℕ → Bool
same_suffix parents names zero v w = true
same_suffix parents names (suc i) v w =
    ltb 0 v && (ltb 0 w && (eqb (get_or names v 0) (get_or names w 0)
    && same_suffix parents names i (get_or parents v 0) (get_or parents w 0)))

pub tells_suffix : (parents names : List ℕ) (i v w : ℕ) → Tells (same_suffix parents names i v w) (SameSuffix parents names i v w)
unfolding same_suffix
tells_suffix parents names zero v w = record { fact = λ e. tt; test = λ s. refl }
tells_suffix parents names (suc i) v w =
    tells_by
    (tells_and (tells_ltb 0 v)
    (tells_and (tells_ltb 0 w)
    (tells_and (tells_eqb (get_or names v 0) (get_or names w 0))
    (tells_suffix parents names i (get_or parents v 0) (get_or parents w 0)))))
    (λ s. (s.0, s.1.0, s.1.1.0, s.1.1.1))
    (λ s. (s.0, (s.1, (s.2, s.3))))

-- ancestors of states are states, where parents are
pub up-below :
    (n : ℕ) (parents : List ℕ) → ((v : ℕ) → v < n → get_or parents v 0 < n) → (i v : ℕ) → v < n → up parents i v < n
unfolding up
up-below n parents below zero v h = h
up-below n parents below (suc i) v h = up-below n parents below i (get_or parents v 0) (below v h)

module _ (n : ℕ) (parents names : List ℕ) (arrays : Arrays n parents names) where
  pub parent_below : (v : ℕ) → v < n → get_or parents v 0 < n
  parent_below zero h = rw arrays.root_parent h
  parent_below (suc v) h = omega (arith, arrays.parent_before (suc v) (omega arith) h)

  pub suffix_refl : (i v w : ℕ) → SameSuffix parents names i v w → SameSuffix parents names i v v
  suffix_refl zero v w s = tt
  suffix_refl (suc i) v w s = (s.0, s.0, refl, suffix_refl i (get_or parents v 0) (get_or parents w 0) s.3)

  pub suffix_sym : (i v w : ℕ) → SameSuffix parents names i v w → SameSuffix parents names i w v
  suffix_sym zero v w s = tt
  suffix_sym (suc i) v w s = (s.1, s.0, sym s.2, suffix_sym i (get_or parents v 0) (get_or parents w 0) s.3)

  pub suffix_trans :
      (i u v w : ℕ) → SameSuffix parents names i u v → SameSuffix parents names i v w → SameSuffix parents names i u w
  suffix_trans zero u v w s t = tt
  suffix_trans (suc i) u v w s t =
      (s.0, t.1, s.2 ∙ t.2, suffix_trans i (get_or parents u 0) (get_or parents v 0) (get_or parents w 0) s.3 t.3)

  pub suffix_fewer : (i j v w : ℕ) → j ≤ i → SameSuffix parents names i v w → SameSuffix parents names j v w
  suffix_fewer i zero v w h s = tt
  suffix_fewer zero (suc j) v w h s = absurd (not-suc-le-zero h)
  suffix_fewer (suc i) (suc j) v w h s =
      (s.0, s.1, s.2, suffix_fewer i j (get_or parents v 0) (get_or parents w 0) (omega arith) s.3)

  -- the number of names written another way
  pub suffix_cast : (i j v w : ℕ) → i ≡ j → SameSuffix parents names i v w → SameSuffix parents names j v w
  suffix_cast i j v w e s = subst (λ (k : ℕ). SameSuffix parents names k v w) e s

  -- ancestors of states with the same last k names: fewer names in common before them, the rest after them
  pub suffix_up :
      (i j v w : ℕ) → SameSuffix parents names (i + j) v w → SameSuffix parents names j (up parents i v) (up parents i w)
  unfolding up
  suffix_up zero j v w s =
      let sum_is : 0 + j ≡ j = omega arith in
      suffix_cast (0 + j) j v w sum_is s
  suffix_up (suc i) j v w s =
      let sum_is : suc i + j ≡ suc (i + j) = omega arith in
      suffix_up i j (get_or parents v 0) (get_or parents w 0) (suffix_cast (suc i + j) (suc (i + j)) v w sum_is s).3

  -- and back: j names in common, and the one before them
  pub suffix_more :
      (j v w : ℕ) → SameSuffix parents names j v w → 0 < up parents j v → 0 < up parents j w →
      get_or names (up parents j v) 0 ≡ get_or names (up parents j w) 0 → SameSuffix parents names (suc j) v w
  unfolding up
  suffix_more zero v w s pv pw e = (pv, pw, e, tt)
  suffix_more (suc j) v w s pv pw e =
      (s.0, s.1, s.2, suffix_more j (get_or parents v 0) (get_or parents w 0) s.3 pv pw e)

  pub share_up :
      (groups : List ℕ) (i j v w : ℕ) → v < n → w < n → SameSuffix parents names (i + j) v w →
      Share n parents names groups i (up parents i v) (up parents i w)
  share_up groups zero j v w h k s = tt
  share_up groups (suc i) j v w h k s =
      let sum_is : suc i + j ≡ i + suc j = omega arith in
      let cut : SameSuffix parents names (i + suc j) v w = suffix_cast (suc i + j) (i + suc j) v w sum_is s in
      let here : SameSuffix parents names (suc j) (up parents i v) (up parents i w) = suffix_up i (suc j) v w cut in (
        up parents i v,
        up parents i w,
        here.0,
        here.1,
        up-below n parents parent_below i v h,
        up-below n parents parent_below i w k,
        here.2,
        ap (λ (x : ℕ). get_or groups x 0) (up-parent parents i v),
        ap (λ (x : ℕ). get_or groups x 0) (up-parent parents i w),
        share_up groups i (suc j) v w h k cut,
      )

  -- in a partition closed under the rule, the ancestors up to the m-th of states with the same last h + m names are joined
  pub climb_sound :
      (h m i v w : ℕ) (groups : List ℕ) → 0 < h → ForkClosed n parents names groups → ContextClosed n h m parents names groups →
      v < n → w < n → i ≤ m → SameSuffix parents names (h + m) v w →
      get_or groups (up parents i v) 0 ≡ get_or groups (up parents i w) 0
  climb_sound h m i v w groups pos fork context hv hw him s =
      let last : i + (m - i) ≡ m = omega arith in
      climb (m - i) i last
    where
      -- by forks, from the m-th ancestors downwards
      climb : (d i : ℕ) → i + d ≡ m → get_or groups (up parents i v) 0 ≡ get_or groups (up parents i w) 0
      climb zero i e =
          let sum_is : h + m ≡ i + h = omega arith in
          let at-m : m ≡ i = omega arith in
          let cut : SameSuffix parents names (i + h) v w = suffix_cast (h + m) (i + h) v w sum_is s in
          let shared : Share n parents names groups m (up parents i v) (up parents i w) =
          subst (λ (k : ℕ). Share n parents names groups k (up parents i v) (up parents i w)) (sym at-m)
          (share_up groups i h v w hv hw cut) in
          context (up parents i v) (up parents i w) (up-below n parents parent_below i v hv)
          (up-below n parents parent_below i w hw) (suffix_up i h v w cut) shared
      climb (suc d) i e =
          let sum_is : h + m ≡ i + suc (h + d) = omega arith in
          let here : SameSuffix parents names (suc (h + d)) (up parents i v) (up parents i w) =
          suffix_up i (suc (h + d)) v w (suffix_cast (h + m) (i + suc (h + d)) v w sum_is s) in
          let above : get_or groups (up parents (suc i) v) 0 ≡ get_or groups (up parents (suc i) w) 0 =
          climb d (suc i) (omega arith) in
          let one : get_or groups (get_or parents (up parents i v) 0) 0 ≡ get_or groups (get_or parents (up parents i w) 0) 0 =
          rw (up-parent parents i v, up-parent parents i w) above in
          fork (up parents i v) (up parents i w) here.0 here.1 (up-below n parents parent_below i v hv)
          (up-below n parents parent_below i w hw) here.2 one
