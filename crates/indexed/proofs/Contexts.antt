-- The passes of the context rule: what the rule joins has the same last h names; no more than the partition by last names is
-- needed where k is h, and no more than that and the parents' joins where k is h + 1. The laws of last names that they rest on
-- are of Suffixes, and are passed on here. Assumes nothing.
use mathlib.Core.Path.{◌≡◌, refl, sym, ap, ◌∙◌, subst}
use mathlib.Core.Logic.{◌⊎◌, inl, inr, ◌↔◌}
use mathlib.Core.Bool.{Bool, ◌||◌}
use mathlib.Core.List.{List}
use Prim.Native.Nat.{ℕ, zero, suc, ◌+◌, ◌<◌}
use native.Mathlib.Omega.{arith}
use lib.Dec.{eqb}
use lib.ListN.{length, get_or}
use Rattle.base.proofs.Tests.{tells_or, tells_eqb}
use Rattle.indexed.specs.Trees.{Arrays, SameSuffix}
use Rattle.indexed.specs.Partitions.{Refines, Labelled, ForkClosed, ContextClosed, SuffixAgree}
use Rattle.indexed.specs.Passes.{SuffixAlike, BySuffix, ContextJoined}
use Rattle.indexed.proofs.Labels.{Equivalence, labels, labels_alike}
use Rattle.indexed.proofs.Suffixes.{same_suffix, tells_suffix, parent_below, suffix_refl, suffix_cast}
pub use Rattle.indexed.proofs.Suffixes.{suffix_sym, suffix_trans, suffix_fewer, suffix_up}
pub use Rattle.indexed.proofs.Suffixes.{share_up, climb_sound}

module _ (n : ℕ) (parents names : List ℕ) (arrays : Arrays n parents names) where
  -- one state, or the same last h names
  abbrev Alike : ℕ → ℕ → ℕ → Type 0
  Alike h v w = (v ≡ w) ⊎ SameSuffix parents names h v w

  alike_fork :
      (h v w : ℕ) → 0 < v → 0 < w → v < n → w < n → get_or names v 0 ≡ get_or names w 0 →
      Alike h (get_or parents v 0) (get_or parents w 0) → (v ≡ w) ⊎ SameSuffix parents names (suc h) v w
  alike_fork h v w pv pw hv hw same_name (inl e) = inl (arrays.one_child v w pv pw hv hw e same_name)
  alike_fork h v w pv pw hv hw same_name (inr s) = inr (pv, pw, same_name, s)

  alike_fewer : (h v w : ℕ) → (v ≡ w) ⊎ SameSuffix parents names (suc h) v w → Alike h v w
  alike_fewer h v w (inl e) = inl e
  alike_fewer h v w (inr s) = inr (suffix_fewer n parents names arrays (suc h) h v w (omega arith) s)

  alike_trans : (h u v w : ℕ) → Alike h u v → Alike h v w → Alike h u w
  alike_trans h u v w (inl e) (inl f) = inl (e ∙ f)
  alike_trans h u v w (inl e) (inr t) = inr (subst (λ (x : ℕ). SameSuffix parents names h x w) (sym e) t)
  alike_trans h u v w (inr s) (inl f) = inr (subst (λ (x : ℕ). SameSuffix parents names h u x) f s)
  alike_trans h u v w (inr s) (inr t) = inr (suffix_trans n parents names arrays h u v w s t)

  alike_sym : (h v w : ℕ) → Alike h v w → Alike h w v
  alike_sym h v w (inl e) = inl (sym e)
  alike_sym h v w (inr s) = inr (suffix_sym n parents names arrays h v w s)

  alike_test : ℕ → ℕ → ℕ → Bool
  alike_test h v w = eqb v w || same_suffix parents names h v w

  alike_equivalence : (h : ℕ) → Equivalence (alike_test h) (Alike h)
  unfolding alike_test
  alike_equivalence h =
      record {
        told = λ v w. tells_or (tells_eqb v w) (tells_suffix parents names h v w);
        reflexive = λ v. inl refl;
        symmetric = alike_sym h;
        transitive = alike_trans h;
      }

  -- a partition of which members are alike is closed under forks
  alike_forks :
      (h : ℕ) (groups : List ℕ) → ((v w : ℕ) → v < n → w < n → (get_or groups v 0 ≡ get_or groups w 0) ↔ Alike h v w) →
      ForkClosed n parents names groups
  alike_forks h groups alike v w pv pw hv hw same_name one =
      let pv-below : get_or parents v 0 < n = parent_below n parents names arrays v hv in
      let pw-below : get_or parents w 0 < n = parent_below n parents names arrays w hw in
      let above : Alike h (get_or parents v 0) (get_or parents w 0) =
      (alike (get_or parents v 0) (get_or parents w 0) pv-below pw-below).0 one in
      (alike v w hv hw).1 (alike_fewer h v w (alike_fork h v w pv pw hv hw same_name above))

  pub suffix_forks : (h : ℕ) (values : List ℕ) → SuffixAlike n h parents names values → ForkClosed n parents names values
  suffix_forks h values by = alike_forks h values by.alike

  -- what is joined by the rule has the same last h names
  pub joined_suffix_agree :
      (h m : ℕ) (groups : List ℕ) → 0 < h → length groups ≡ n →
      ((others : List ℕ) → ForkClosed n parents names others → ContextClosed n h m parents names others →
      Refines n groups others) →
      SuffixAgree n h parents names groups
  joined_suffix_agree h m groups pos size sound v w hv hw one =
      (alike v w hv hw).0
      (sound (labels (alike_test h) n) (alike_forks h (labels (alike_test h) n) alike)
      (λ x y hx hy s shared. (alike x y hx hy).1 (inr s)) v w hv hw one)
    where
      alike :
          (x y : ℕ) → x < n → y < n →
          (get_or (labels (alike_test h) n) x 0 ≡ get_or (labels (alike_test h) n) y 0) ↔ Alike h x y
      alike = labels_alike n (alike_test h) (Alike h) (alike_equivalence h)

  -- k = h: the partition by last names is closed
  pub suffix_closed :
      (h : ℕ) (groups : List ℕ) → 0 < h → BySuffix n h parents names groups → ContextJoined n h h parents names groups
  suffix_closed h groups pos by =
      record {
        labelled = by.labelled;
        sound = λ m e others fork context v w hv hw one. inside m e others context v w hv hw ((by.alike v w hv hw).0 one);
        fork_closed = alike_forks h groups by.alike;
        context_closed = λ m e v w hv hw s shared. (by.alike v w hv hw).1 (inr s);
      }
    where
      inside :
          (m : ℕ) → h + m ≡ h → (others : List ℕ) → ContextClosed n h m parents names others → (v w : ℕ) → v < n → w < n →
          Alike h v w → get_or others v 0 ≡ get_or others w 0
      inside m e others context v w hv hw (inl same) = ap (λ (x : ℕ). get_or others x 0) same
      inside zero e others context v w hv hw (inr s) = context v w hv hw s tt
      inside (suc m) e others context v w hv hw (inr s) = let z : ⊥ = omega arith in absurd z

  -- k = h + 1: so is the one in which, besides, parents of states with the same last k names are joined
  pub climbed_closed :
      (h : ℕ) (start groups : List ℕ) → 0 < h → BySuffix n (h + 1) parents names start → Labelled n groups →
      Refines n start groups →
      ((v w : ℕ) → v < n → w < n → SameSuffix parents names (h + 1) v w →
      get_or groups (get_or parents v 0) 0 ≡ get_or groups (get_or parents w 0) 0) →
      ((others : List ℕ) → ForkClosed n parents names others → ContextClosed n h 1 parents names others →
      Refines n groups others) →
      ContextJoined n (h + 1) h parents names groups
  climbed_closed h start groups pos by labelled coarser up-joined sound =
      record {
        labelled = labelled;
        sound = λ m e others fork context.
            sound others fork (subst (λ (k : ℕ). ContextClosed n h k parents names others) (is_one m e) context);
        fork_closed = forks;
        context_closed = λ m e. subst (λ (k : ℕ). ContextClosed n h k parents names groups) (sym (is_one m e)) contexts;
      }
    where
      is_one : (m : ℕ) → h + m ≡ h + 1 → m ≡ 1
      is_one m e = omega arith

      agree : SuffixAgree n h parents names groups
      agree = joined_suffix_agree h 1 groups pos labelled.size sound

      one_more : suc h ≡ h + 1
      one_more = omega arith

      forks : ForkClosed n parents names groups
      forks v w pv pw hv hw same_name one =
          let pv-below : get_or parents v 0 < n = parent_below n parents names arrays v hv in
          let pw-below : get_or parents w 0 < n = parent_below n parents names arrays w hw in
          let above : Alike h (get_or parents v 0) (get_or parents w 0) =
          agree (get_or parents v 0) (get_or parents w 0) pv-below pw-below one in
          coarser v w hv hw
          ((by.alike v w hv hw).1
          (subst (λ (k : ℕ). (v ≡ w) ⊎ SameSuffix parents names k v w) one_more
          (alike_fork h v w pv pw hv hw same_name above)))

      -- one state is like itself where it has h names at all
      like : (u v w : ℕ) → SameSuffix parents names h v w → Alike h u v → SameSuffix parents names h u v
      like u v w s (inl e) =
          subst (λ (x : ℕ). SameSuffix parents names h x v) (sym e) (suffix_refl n parents names arrays h v w s)
      like u v w s (inr t) = t

      contexts : ContextClosed n h 1 parents names groups
      contexts v w hv hw s shared =
          let x = shared.0 in
          let y = shared.1 in
          let hx : x < n = shared.4 in
          let hy : y < n = shared.5 in
          let px : get_or parents x 0 < n = parent_below n parents names arrays x hx in
          let py : get_or parents y 0 < n = parent_below n parents names arrays y hy in
          let to_v : SameSuffix parents names h (get_or parents x 0) v =
          like (get_or parents x 0) v w s (agree (get_or parents x 0) v px hv shared.7) in
          let to_w : SameSuffix parents names h (get_or parents y 0) w =
          like (get_or parents y 0) w v (suffix_sym n parents names arrays h v w s)
          (agree (get_or parents y 0) w py hw shared.8) in
          let parents-same : SameSuffix parents names h (get_or parents x 0) (get_or parents y 0) =
          suffix_trans n parents names arrays h (get_or parents x 0) v (get_or parents y 0) to_v
          (suffix_trans n parents names arrays h v w (get_or parents y 0) s
          (suffix_sym n parents names arrays h (get_or parents y 0) w to_w)) in
          let long : SameSuffix parents names (h + 1) x y =
          suffix_cast n parents names arrays (suc h) (h + 1) x y one_more (shared.2, shared.3, shared.6, parents-same) in
          sym shared.7 ∙ up-joined x y hx hy long ∙ shared.8
