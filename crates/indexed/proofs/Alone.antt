-- States each by itself: no two are in one group, no fork is open, and where no two states have the same last k names the context
-- rule has nothing to join. Assumes nothing.
use mathlib.Core.Path.{◌≡◌, sym, ap, ◌∙◌, subst₂}
use mathlib.Core.Logic.{inr}
use mathlib.Core.List.{List}
use Prim.Native.Nat.{ℕ, zero, suc, ◌+◌, ◌<◌}
use native.Mathlib.Omega.{arith}
use lib.ListN.{get_or}
use Rattle.indexed.specs.Trees.{Arrays, SameSuffix}
use Rattle.indexed.specs.Partitions.{Alone, ForkClosed, Share}
use Rattle.indexed.specs.Passes.{BySuffix, ContextJoined}
use Rattle.indexed.proofs.Suffixes.{parent_below, suffix_cast}

-- states of one group are one state
pub alone_same :
    (n : ℕ) (groups : List ℕ) → Alone n groups → (v w : ℕ) → v < n → w < n → get_or groups v 0 ≡ get_or groups w 0 → v ≡ w
alone_same n groups alone v w hv hw one = sym (alone v hv) ∙ one ∙ alone w hw

module _ (n : ℕ) (parents names groups : List ℕ) (arrays : Arrays n parents names) (alone : Alone n groups) where
  same : (v w : ℕ) → v < n → w < n → get_or groups v 0 ≡ get_or groups w 0 → v ≡ w
  same = alone_same n groups alone

  -- a state has at most one child by a name
  pub alone_forks : ForkClosed n parents names groups
  alone_forks v w pv pw hv hw name one =
      let inside = parent_below n parents names arrays in
      ap (λ (x : ℕ). get_or groups x 0)
      (arrays.one_child v w pv pw hv hw (same (get_or parents v 0) (get_or parents w 0) (inside v hv) (inside w hw) one) name)

  module _ (k : ℕ) (by : BySuffix n k parents names groups) where
    -- paths of j arcs with the same names go on from states with the same last i names to states with the same last k names
    one-path :
        (j i v w : ℕ) → i + j ≡ k → v < n → w < n → SameSuffix parents names i v w → Share n parents names groups j v w → v ≡ w
    one-path zero i v w sum hv hw s shared =
        same v w hv hw ((by.alike v w hv hw).1 (inr (suffix_cast n parents names arrays i k v w (omega arith) s)))
    one-path (suc j) i v w sum hv hw s (x, y, px, py, hx, hy, name, from_v, from_w, shared) =
        let inside = parent_below n parents names arrays in
        let at-v : get_or parents x 0 ≡ v = same (get_or parents x 0) v (inside x hx) hv from_v in
        let at-w : get_or parents y 0 ≡ w = same (get_or parents y 0) w (inside y hy) hw from_w in
        let longer : SameSuffix parents names (suc i) x y =
        (px, py, name, subst₂ (SameSuffix parents names i) (sym at-v) (sym at-w) s) in
        let targets : x ≡ y = one-path j (suc i) x y (omega arith) hx hy longer shared in
        sym at-v ∙ ap (λ (z : ℕ). get_or parents z 0) targets ∙ at-w

    pub alone-joined : (h : ℕ) → ContextJoined n k h parents names groups
    alone-joined h =
        record {
          labelled = by.labelled;
          sound = λ m e others fork context v w hv hw one. ap (λ (x : ℕ). get_or others x 0) (same v w hv hw one);
          fork_closed = alone_forks;
          context_closed = λ m e v w hv hw s shared. ap (λ (x : ℕ). get_or groups x 0) (one-path m h v w e hv hw s shared);
        }
