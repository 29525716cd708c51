-- Words that are equal or have the same last h names: a relation that is closed under forks and under the context rule, so that
-- members of a joined group are so alike. Assumes nothing.
use mathlib.Core.Path.{◌≡◌, refl, sym, ap, ◌∙◌, subst}
use mathlib.Core.Logic.{◌⊎◌, inl, inr}
use mathlib.Core.Bool.{true, true≢false}
use mathlib.Core.List.{List, [], ◌∷◌, ◌++◌, append_assoc, append-nil}
use Prim.Native.Nat.{ℕ, ◌+◌, ◌-◌, ◌≤◌}
use native.Mathlib.Omega.{arith}
use lib.Dec.{eqb}
use lib.ListN.{length, length-append}
use Rattle.model.specs.Fields.{Class, class_of}
use Rattle.model.specs.Classes.{Word, last_names, f_of}
use Rattle.model.specs.Joinings.{tree_of, joined_groups}
use Rattle.model.proofs.Notions.{Ways, OneContext, Closed, Inside, ◌▸◌}
use Rattle.model.proofs.Functions.{f_snoc, last_append}
use Rattle.model.proofs.Joined.{joined_groups-joined}
use Rattle.indexed.proofs.Words.{SameLast, length-snoc}

-- equal, or both at least h names long, and the last h the same
pub record Alike (h : ℕ) (u w : Word) : Type 0 where
  pub alike : (u ≡ w) ⊎ SameLast h u w

-- the word is at least h names long, and its last h names are those of p
abbrev pub EndsIn : ℕ → Word → Word → Type 0
EndsIn h p w = (h ≤ length w) × (last_names h w ≡ last_names h p)

-- ---- last names of longer words

last_snoc_same : (h : ℕ) (u w : Word) (a : ℕ) → last_names h u ≡ last_names h w → last_names h (u ▸ a) ≡ last_names h (w ▸ a)
unfolding f_of
last_snoc_same h u w a e = f_snoc (class_of 2 h 0) u w a e

-- ---- the relation

module _ (h : ℕ) where
  alike_refl : (u : Word) → Alike h u u
  alike_refl u = record { alike = inl refl }

  alike_sym : (u w : Word) → Alike h u w → Alike h w u
  alike_sym u w r = record { alike = go r.alike }
    where
      go : (u ≡ w) ⊎ SameLast h u w → (w ≡ u) ⊎ SameLast h w u
      go (inl e) = inl (sym e)
      go (inr s) = inr (s.1, s.0, sym s.2)

  alike_trans : (u v w : Word) → Alike h u v → Alike h v w → Alike h u w
  alike_trans u v w r q = record { alike = go r.alike q.alike }
    where
      go : (u ≡ v) ⊎ SameLast h u v → (v ≡ w) ⊎ SameLast h v w → (u ≡ w) ⊎ SameLast h u w
      go (inl e) (inl f) = inl (e ∙ f)
      go (inl e) (inr t) = inr (subst (λ (x : Word). SameLast h x w) (sym e) t)
      go (inr s) (inl f) = inr (subst (λ (x : Word). SameLast h u x) f s)
      go (inr s) (inr t) = inr (s.0, t.1, s.2 ∙ t.2)

  alike_snoc : (u w : Word) (a : ℕ) → Alike h u w → Alike h (u ▸ a) (w ▸ a)
  alike_snoc u w a r = record { alike = go r.alike }
    where
      go : (u ≡ w) ⊎ SameLast h u w → (u ▸ a ≡ w ▸ a) ⊎ SameLast h (u ▸ a) (w ▸ a)
      go (inl e) = inl (ap (λ (x : Word). x ▸ a) e)
      go (inr s) = inr (
        omega (arith, s.0, length-snoc u a),
        omega (arith, s.1, length-snoc w a),
        last_snoc_same h u w a s.2,
      )

  alike_append : (p u w : Word) → Alike h u w → Alike h (u ++ p) (w ++ p)
  alike_append [] u w r =
      let nil-u : u ++ [] ≡ u = append-nil u in
      let nil-w : w ++ [] ≡ w = append-nil w in
      rw (nil-u, nil-w) r
  alike_append (a ∷ p) u w r =
      let cons-u : (u ▸ a) ++ p ≡ u ++ (a ∷ p) = append_assoc u (a ∷ []) p in
      let cons-w : (w ▸ a) ++ p ≡ w ++ (a ∷ p) = append_assoc w (a ∷ []) p in
      rw (← cons-u, ← cons-w) (alike_append p (u ▸ a) (w ▸ a) (alike_snoc u w a r))

  -- a way modulo the relation leads where the word itself leads
  ways_alike : (nodes : List Word) (p u w : Word) → Ways nodes (Alike h) u p w → Alike h (u ++ p) w
  ways_alike nodes [] u w f = subst (λ (v : Word). Alike h v w) (sym (append-nil u)) f
  ways_alike nodes (a ∷ p) u w f =
      let v = f.0 in
      let rest : Alike h ((v ▸ a) ++ p) w = ways_alike nodes p (v ▸ a) w f.4 in
      alike_trans (u ++ (a ∷ p)) (v ++ (a ∷ p)) w (alike_append (a ∷ p) u v f.2)
      (subst (λ (z : Word). Alike h z w) (append_assoc v (a ∷ []) p) rest)

  ends-in : (s p w : Word) → h ≤ length p → Alike h (s ++ p) w → EndsIn h p w
  ends-in s p w low r = go r.alike
    where
      go : (s ++ p ≡ w) ⊎ SameLast h (s ++ p) w → EndsIn h p w
      go (inl e) = subst (EndsIn h p) e (omega (arith, length-append s p), last_append h s p low)
      go (inr t) = (t.1, sym t.2 ∙ last_append h s p low)

  -- a way by at least h names ends in the last h of them
  pub ways_end_in : (nodes : List Word) (p u w : Word) → h ≤ length p → Ways nodes (Alike h) u p w → EndsIn h p w
  ways_end_in nodes p u w low f = ends-in u p w low (ways_alike nodes p u w f)

pub alike_closed : (c : Class) (rows nodes : List Word) → eqb c.kind 0 ≡ true → Closed c rows nodes (Alike c.second)
alike_closed c rows nodes kind =
    record {
      reflexive = λ u m. alike_refl c.second u;
      symmetric = alike_sym c.second;
      transitive = alike_trans c.second;
      fork = λ u w a r m n. alike_snoc c.second u w a r;
      context = λ k u w one. of-context u w one;
      ends = λ other u w r s e m n o q ur ws i j. absurd (true≢false (sym kind ∙ other));
      back = λ other u w r s a e m n o q ur ws i j after. absurd (true≢false (sym kind ∙ other));
    }
  where
    of-context : (u w : Word) → OneContext c nodes (Alike c.second) u w → Alike c.second u w
    of-context u w one =
        let in-u = ways_end_in c.second nodes one.p one.from_u u one.low one.into_u in
        let in-w = ways_end_in c.second nodes one.p one.from_w w one.low one.into_w in
        record { alike = inr (in-u.0, in-w.0, in-u.1 ∙ sym in-w.1) }

-- members of a joined group are alike
pub joined_alike :
    (c : Class) (rows : List Word) → eqb c.kind 0 ≡ true → Inside (tree_of rows) (joined_groups c rows) (Alike c.second)
joined_alike c rows kind = (joined_groups-joined c rows).inside (Alike c.second) (alike_closed c rows (tree_of rows) kind)
