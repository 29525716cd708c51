-- One turn of reading: the input's end, a refusal, or a field and what is left; and the law by which what each field keeps
-- holds of an accepted file. Assumes nothing.
use mathlib.Core.Path.{◌≡◌, refl, sym, ap, ap₂, ◌∙◌, subst}
use mathlib.Core.Bool.{Bool, true, false, cond}
use mathlib.Core.List.{List, [], ◌∷◌, ◌++◌}
use Prim.Native.Nat.{ℕ, zero, suc, ◌+◌, ◌*◌, ◌≤◌}
use native.Mathlib.Omega.{arith}
use lib.Dec.{eqb, ltb, eqb-suc-zero}
use lib.ListN.{length, get_or, take, drop, length-append, take-append-drop}
use lib.Seq.{length-take-le, take_at, drop_at}
use borrow.Author.Tests.{ltb-false, le-ltb, eqb-true, eq-eqb, ne_eqb}
use Rattle.base.specs.Limits.{cut_off, unfinished}
use Rattle.model.specs.Fields.{File, FileKind, field_fault, with_field, Read, refused, accepted_file, last_stage, at_end}
use Rattle.model.specs.Fields.{stated_length, runs_past, body_of, after_field, read_from}
use Rattle.base.proofs.Tests.{or_false, false_or}

module _ (l : ℕ) (kind : FileKind) (f : File) (s : List ℕ) where
  -- the four cases of a turn: the end, a field cut off, a fault, a field
  at_stop : eqb (length s) 0 ≡ true → read_from (suc l) kind f s ≡ at_end kind f
  unfolding read_from
  at_stop e = rw (e, read_from)

  at_cut : eqb (length s) 0 ≡ false → runs_past s ≡ true → read_from (suc l) kind f s ≡ refused cut_off
  unfolding read_from
  at_cut e p = rw (e, p, read_from)

  at_fault :
      eqb (length s) 0 ≡ false → runs_past s ≡ false → eqb (field_fault kind f (get_or s 0 0) (body_of s)) 0 ≡ false →
      read_from (suc l) kind f s ≡ refused (field_fault kind f (get_or s 0 0) (body_of s))
  unfolding read_from
  at_fault e p q = rw (e, p, q, read_from)

  at_field :
      eqb (length s) 0 ≡ false → runs_past s ≡ false → eqb (field_fault kind f (get_or s 0 0) (body_of s)) 0 ≡ true →
      read_from (suc l) kind f s ≡ read_from l kind (with_field f (get_or s 0 0) (body_of s)) (after_field s)
  unfolding read_from
  at_field e p q = rw (e, p, q, read_from)

three_more : (n : ℕ) → 3 + n ≡ suc (suc (suc n))
three_more n = omega arith

-- the field at the front is read, and what comes after it is left
pub one_field :
    (l : ℕ) (kind : FileKind) (f : File) (mark a b : ℕ) (body rest : List ℕ) → length body ≡ 256 * a + b →
    field_fault kind f mark body ≡ 0 →
    read_from (suc l) kind f (mark ∷ (a ∷ (b ∷ (body ++ rest)))) ≡ read_from l kind (with_field f mark body) rest
one_field l kind f mark a b body rest size ok =
    let n = 256 * a + b in
    let s = mark ∷ (a ∷ (b ∷ (body ++ rest))) in
    let total : length s ≡ 3 + (length body + length rest) = omega (arith, length-append body rest) in
    let here-body : take n (body ++ rest) ≡ body = take_at body rest n size in
    let here-rest : drop (3 + n) s ≡ rest = ap (λ (k : ℕ). drop k s) (three_more n) ∙ drop_at body rest n size in
    let fault = field_fault kind f mark (take n (body ++ rest)) in
    let no_fault : fault ≡ 0 = ap (λ (x : List ℕ). field_fault kind f mark x) here-body ∙ ok in
    let whole : runs_past s ≡ false = or_false (le-ltb (length s) 3 (omega arith)) (le-ltb (length s) (3 + n) (omega arith)) in
    at_field l kind f s (eqb-suc-zero (length (a ∷ (b ∷ (body ++ rest))))) whole (eq-eqb fault 0 no_fault)
    ∙ ap₂ (λ (x y : List ℕ). read_from l kind (with_field f mark x) y) here-body here-rest

-- a turn ends the reading, refuses, or reads a field
pub data Turn (l : ℕ) (kind : FileKind) (f : File) (s : List ℕ) : Type 0 where
  ended : s ≡ [] → read_from (suc l) kind f s ≡ at_end kind f → Turn l kind f s
  failed : (n : ℕ) → (read_from (suc l) kind f s).number ≡ suc n → Turn l kind f s
  went :
      (mark a b : ℕ) (body rest : List ℕ) → s ≡ mark ∷ (a ∷ (b ∷ (body ++ rest))) → length body ≡ 256 * a + b →
      field_fault kind f mark body ≡ 0 → read_from (suc l) kind f s ≡ read_from l kind (with_field f mark body) rest →
      Turn l kind f s

-- a field that does not run past the end
turn_whole :
    (l : ℕ) (kind : FileKind) (f : File) (s : List ℕ) → eqb (length s) 0 ≡ false → runs_past s ≡ false → 3 ≤ length s →
    3 + stated_length s ≤ length s → Turn l kind f s
turn_whole l kind f [] e p short fits = let z : ⊥ = omega arith in absurd z
turn_whole l kind f (x ∷ []) e p short fits = let z : ⊥ = omega arith in absurd z
turn_whole l kind f (x ∷ (y ∷ [])) e p short fits = let z : ⊥ = omega arith in absurd z
turn_whole l kind f (x ∷ (a ∷ (b ∷ t))) e p short fits =
    go (field_fault kind f x body) refl
  where
    n : ℕ
    n = 256 * a + b

    body : List ℕ
    body = take n t

    size : length body ≡ n
    size = length-take-le n t (omega arith)

    whole : t ≡ body ++ drop n t
    whole = sym (take-append-drop n t)

    go : (k : ℕ) → field_fault kind f x body ≡ k → Turn l kind f (x ∷ (a ∷ (b ∷ t)))
    go zero q =
        went x a b body (drop n t) (ap (λ (y : List ℕ). x ∷ (a ∷ (b ∷ y))) whole) size q
        (ap (λ (y : List ℕ). read_from (suc l) kind f (x ∷ (a ∷ (b ∷ y)))) whole ∙ one_field l kind f x a b body (drop n t) size q)
    go (suc k) q =
        let fault : eqb (field_fault kind f x body) 0 ≡ false = ne_eqb (field_fault kind f x body) 0 (λ z. omega arith) in
        failed k (ap (λ (r : Read). r.number) (at_fault l kind f (x ∷ (a ∷ (b ∷ t))) e p fault) ∙ q)

nil_of_length : (s : List ℕ) → length s ≡ 0 → s ≡ []
nil_of_length [] e = refl
nil_of_length (x ∷ s) e = let z : ⊥ = omega arith in absurd z

-- each turn is one of the three
pub turn : (l : ℕ) (kind : FileKind) (f : File) (s : List ℕ) → Turn l kind f s
turn l kind f s = go (eqb (length s) 0) refl (runs_past s) refl
  where
    go : (t : Bool) → eqb (length s) 0 ≡ t → (u : Bool) → runs_past s ≡ u → Turn l kind f s
    go true e u p = ended (nil_of_length s (eqb-true (length s) 0 e)) (at_stop l kind f s e)
    go false e true p = failed 1 (ap (λ (r : Read). r.number) (at_cut l kind f s e p))
    go false e false p =
        let q = false_or (ltb (length s) 3) (ltb (length s) (3 + stated_length s)) p in
        turn_whole l kind f s e p (ltb-false (length s) 3 q.0) (ltb-false (length s) (3 + stated_length s) q.1)

-- what holds of a file and of what is left to read, and is kept by each field without a fault, holds at an accepted end
module _ (kind : FileKind) (P : File → List ℕ → Type 0)
    (step :
    (f : File) (mark a b : ℕ) (body rest : List ℕ) → length body ≡ 256 * a + b → field_fault kind f mark body ≡ 0 →
    P f (mark ∷ (a ∷ (b ∷ (body ++ rest)))) → P (with_field f mark body) rest) where
  -- an accepted end is at the kind's last stage
  end-keeps :
      (f : File) → P f [] → (at_end kind f).number ≡ 0 →
      ((at_end kind f).file_is.stage ≡ last_stage kind) × P (at_end kind f).file_is []
  end-keeps f h ok = go (eqb f.stage (last_stage kind)) refl ok
    where
      at_end_fact : Bool → Read
      at_end_fact t = cond t (accepted_file f) (refused unfinished)

      go :
          (t : Bool) → eqb f.stage (last_stage kind) ≡ t → (at_end_fact t).number ≡ 0 →
          ((at_end_fact t).file_is.stage ≡ last_stage kind) × P (at_end_fact t).file_is []
      go true e q = (eqb-true f.stage (last_stage kind) e, h)
      go false e q = let z : ⊥ = omega arith in absurd z

  -- from any file on, whatever the fuel
  pub read_keeps :
      (l : ℕ) (f : File) (s : List ℕ) → P f s → (read_from l kind f s).number ≡ 0 →
      ((read_from l kind f s).file_is.stage ≡ last_stage kind) × P (read_from l kind f s).file_is []
  unfolding read_from
  read_keeps zero f s h ok = let z : ⊥ = omega arith in absurd z
  read_keeps (suc l) f s h ok = go (turn l kind f s) (λ g t. read_keeps l g t)
    where
      Kept : Read → Type 0
      Kept r = (r.file_is.stage ≡ last_stage kind) × P r.file_is []

      go :
          Turn l kind f s → ((g : File) (t : List ℕ) → P g t → (read_from l kind g t).number ≡ 0 → Kept (read_from l kind g t)) →
          Kept (read_from (suc l) kind f s)
      go (ended e q) again =
          subst Kept (sym q) (end-keeps f (subst (P f) e h) (subst (λ (r : Read). r.number ≡ 0) q ok))
      go (failed n q) again = let z : ⊥ = omega arith in absurd z
      go (went mark a b body rest e size fit q) again =
          let kept = step f mark a b body rest size fit (subst (P f) e h) in
          subst Kept (sym q) (again (with_field f mark body) rest kept (subst (λ (r : Read). r.number ≡ 0) q ok))
