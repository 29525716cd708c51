-- A state's arcs as they are read one after another: what a reader of bytes gives next, that it gives the arcs of a field that passed the
-- test, and what is known of the arcs still to be read. Assumes nothing.
use mathlib.Core.Path.{◌≡◌, refl, sym, ap, ◌∙◌, subst}
use mathlib.Core.Bool.{true, ◌&&◌, false≢true, and-eq-true_iff}
use mathlib.Core.List.{List, [], ◌∷◌}
use Prim.Native.Nat.{ℕ, zero, suc, ◌+◌, ◌*◌, ◌-◌, ◌≤◌, ◌<◌}
use native.Mathlib.Omega.{arith}
use borrow.Author.Tests.{eq-eqb, ne_eqb}
use lib.Dec.{eqb, leb, ltb}
use lib.ListN.{length, get_or, take, drop, length-drop}
use Rattle.std.proofs.lemmas.List.{take_all}
use Rattle.base.specs.Limits.{name_limit}
use Rattle.model.specs.Fields.{arcs_ok, state_ok}
use Rattle.model.specs.Tables.{Arc, arc, arcs_in, state_in, target_in, Ascending}
use Rattle.model.proofs.TableBodies.{state-ascends}
use Rattle.tables.specs.Arcs.{StateOk, arcs_of_bytes}

-- the part from an offset on
part : (s : List ℕ) (n : ℕ) → n ≤ length s → take (length s - n) (drop n s) ≡ drop n s
part s n h = take_all (length s - n) (drop n s) (omega (arith, length-drop n s))

-- a state field has a first byte
pub state-some : (s : List ℕ) → StateOk s → 0 < length s
unfolding state_ok
state-some [] ok = absurd (false≢true ok)
state-some (b ∷ s) ok = omega arith

-- which says whether it accepts
pub state-accepts : (s : List ℕ) → StateOk s → eqb (get_or s 0 0) 1 ≡ (state_in s).accepts
unfolding state_ok state_in
state-accepts [] ok = absurd (false≢true ok)
state-accepts (b ∷ s) ok = refl

-- fewer than three bytes are no arc
pub reads_none : (s : List ℕ) → length s < 3 → arcs_of_bytes s ≡ []
unfolding arcs_of_bytes
reads_none [] h = refl
reads_none (a ∷ []) h = refl
reads_none (a ∷ (b ∷ [])) h = refl
reads_none (a ∷ (b ∷ (c ∷ s))) h = let z : ⊥ = omega arith in absurd z

-- the first three bytes are one
pub reads_one :
    (s : List ℕ) (to : ℕ) → 3 ≤ length s → to ≡ get_or s 1 0 * 256 + get_or s 2 0 →
    arcs_of_bytes s ≡ arc (get_or s 0 0) to ∷ arcs_of_bytes (take (length s - 3) (drop 3 s))
unfolding arcs_of_bytes
reads_one [] to h e = let z : ⊥ = omega arith in absurd z
reads_one (a ∷ []) to h e = let z : ⊥ = omega arith in absurd z
reads_one (a ∷ (b ∷ [])) to h e = let z : ⊥ = omega arith in absurd z
reads_one (a ∷ (b ∷ (c ∷ s))) to h e =
    let same : 256 * b + c ≡ to = omega arith in
    ap (λ (t : ℕ). arc a t ∷ arcs_of_bytes s) same
    ∙ ap (λ (more : List ℕ). arc a to ∷ arcs_of_bytes more) (sym (part (a ∷ (b ∷ (c ∷ s))) 3 h))

-- over bytes that passed the test they are the arcs of the field
arcs_tested : (f next : ℕ) (t : List ℕ) → arcs_ok f name_limit next t ≡ true → length t ≤ f → arcs_of_bytes t ≡ arcs_in f t
unfolding arcs_ok arcs_in arcs_of_bytes
arcs_tested zero next [] ok h = refl
arcs_tested zero next (a ∷ t) ok h = let z : ⊥ = omega arith in absurd z
arcs_tested (suc f) next [] ok h = refl
arcs_tested (suc f) next (a ∷ []) ok h = absurd (false≢true ok)
arcs_tested (suc f) next (a ∷ (b ∷ [])) ok h = absurd (false≢true ok)
arcs_tested (suc f) next (a ∷ (b ∷ (c ∷ t))) ok h =
    let p = (and-eq-true_iff (leb 2 (suc (suc (length t)))) ((ltb a name_limit && leb next a) && arcs_ok f name_limit (suc a) t)).0 ok in
    let q = (and-eq-true_iff (ltb a name_limit && leb next a) (arcs_ok f name_limit (suc a) t)).0 p.1 in
    ap (λ (more : List Arc). arc a (256 * b + c) ∷ more) (arcs_tested f (suc a) t q.1 (omega arith))

pub arcs_of_field : (s : List ℕ) → StateOk s → arcs_of_bytes (take (length s - 1) (drop 1 s)) ≡ (state_in s).arcs
unfolding state_ok state_in
arcs_of_field [] ok = absurd (false≢true ok)
arcs_of_field (b ∷ s) ok =
    ap arcs_of_bytes (part (b ∷ s) 1 (omega arith))
    ∙ arcs_tested (length s) 0 s ((and-eq-true_iff (leb b 1) (arcs_ok (length s) name_limit 0 s)).0 ok).1 (omega arith)

-- ---- the search for a name, over the arcs still to be read

target_low : (name next : ℕ) (arcs : List Arc) → name < next → Ascending next arcs → target_in name arcs ≡ 0
unfolding target_in
target_low name next [] h up = refl
target_low name next (a ∷ arcs) h up =
    rw (ne_eqb name a.name (λ (e : name ≡ a.name). omega (arith, up.0)), target_in)
    (target_low name (suc a.name) arcs (omega (arith, up.0)) up.1)

-- the arcs still to be read decide, and their names ascend
pub record Searching (name : ℕ) (all left : List Arc) : Type 0 where
  pub next : ℕ
  pub up : Ascending next left
  pub decide : target_in name left ≡ target_in name all

pub search_begins : {left : List Arc} (s : List ℕ) (name : ℕ) → StateOk s → left ≡ (state_in s).arcs → Searching name (state_in s).arcs left
search_begins s name ok e = rw e (record { next = 0; up = (state-ascends s ok).0; decide = refl })

module _ {all left more : List Arc} {a : Arc} {name : ℕ} (now : Searching name all left) (turn : left ≡ a ∷ more) where
  pub search_found : a.name ≡ name → target_in name all ≡ suc a.to
  unfolding target_in
  search_found e = sym now.decide ∙ rw (turn, target_in, eq-eqb name a.name (sym e)) refl

  ascends : Ascending now.next (a ∷ more)
  ascends = subst (Ascending now.next) turn now.up

  pub search_passed : name < a.name → target_in name all ≡ 0
  search_passed low =
      sym now.decide ∙ ap (target_in name) turn ∙ target_low name a.name (a ∷ more) low (omega arith, ascends.1)

  pub search_goes : (a.name ≡ name → ⊥) → Searching name all more
  unfolding target_in
  search_goes n =
      record {
        next = suc a.name;
        up = ascends.1;
        decide = sym (rw (turn, target_in, ne_eqb name a.name (λ (e : name ≡ a.name). n (sym e))) refl) ∙ now.decide;
      }

pub search_ends : {all left : List Arc} {name : ℕ} → Searching name all left → left ≡ [] → target_in name all ≡ 0
unfolding target_in
search_ends {name = name} now e = sym now.decide ∙ ap (target_in name) e
