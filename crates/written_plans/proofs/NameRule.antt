-- The rule of names, in the laws that the theory of plans uses, and in those of a name read byte by byte: no other file of this crate or of
-- plan_reading opens nameOk or beginsName. Assumes nothing.
use mathlib.Core.Path.{◌≡◌, refl, sym, ◌∙◌, subst}
use mathlib.Core.Logic.{⊎_elim}
use mathlib.Core.Bool.{true, false, false≢true}
use mathlib.Core.List.Memᴰ.{head as here}
use mathlib.Core.List.{List, [], ◌∷◌, ◌++◌, append-nil, Memᴰ as In}
use mathlib.Core.List.Memᴰ
use Prim.Native.Nat.{ℕ, ◌≤◌, ◌<◌}
use native.Mathlib.Omega.{arith}
use lib.Dec.{eqb}
use lib.ListN.{length, length-append}
use Rattle.base.specs.Lists.{all}
use Rattle.base.specs.Limits.{name_bytes}
use Rattle.base.proofs.Tests.{Tells, tells_eqb, tells_leb, tells_and, tells_itself, tells_all, told-false, or_false}
use Rattle.model.specs.Fields.{name_ok, starts_name, continues_name}
use Rattle.written_plans.specs.Written.{is_white, slash, greater}
use Rattle.written_plans.specs.Reading.{begins_name}

-- what the test of a name tells
abbrev NameIs : ℕ → List ℕ → Type 0
NameIs b n = (length (b ∷ n) ≤ name_bytes) × ((starts_name b ≡ true) × ((x : ℕ) → In x n → continues_name x ≡ true))

tells_name : (b : ℕ) (n : List ℕ) → Tells (name_ok (b ∷ n)) (NameIs b n)
unfolding name_ok
tells_name b n =
    tells_and (tells_leb (length (b ∷ n)) name_bytes)
    (tells_and (tells_itself (starts_name b)) (tells_all (λ x. tells_itself (continues_name x)) n))

-- each byte of a name is one that goes on with a name
continues : (n m : List ℕ) (b : ℕ) → name_ok (n ++ (b ∷ m)) ≡ true → continues_name b ≡ true
continues [] m b ok = let starts : starts_name b ≡ true = ((tells_name b m).fact ok).1.0 in rw (starts)
continues (a ∷ n) m b ok = ((tells_name a (n ++ (b ∷ m))).fact ok).1.1 b (Memᴰ.append_right n (here refl))

-- a byte that does not go on with a name is none of its bytes
other : (n m : List ℕ) (b x : ℕ) → name_ok (n ++ (b ∷ m)) ≡ true → continues_name x ≡ false → eqb b x ≡ false
other n m b x ok e =
    told-false (tells_eqb b x) (λ p. false≢true (sym e ∙ subst (λ z. continues_name z ≡ true) p (continues n m b ok)))

-- ---- the laws

-- a name has a byte
pub name_not_empty : name_ok [] ≡ false
unfolding name_ok
name_not_empty = refl

-- `a` is a name
pub a_name : name_ok (97 ∷ []) ≡ true
unfolding name_ok all
a_name = refl

-- every beginning of a name that has a byte begins a name
pub name_begins : (n m : List ℕ) → name_ok (n ++ m) ≡ true → 0 < length n → begins_name n ≡ true
unfolding begins_name
name_begins [] m ok some = let z : ⊥ = omega arith in absurd z
name_begins (b ∷ n) m ok some =
    let whole = (tells_name b (n ++ m)).fact ok in
    let limit : length (b ∷ (n ++ m)) ≤ name_bytes = whole.0 in
    (tells_name b n).test
    (omega (arith, length-append n m), (whole.1.0, λ x among. whole.1.1 x (Memᴰ.append_left m among)))

-- bytes that make a name of what begins one
unfoldable pub name_rest : List ℕ → List ℕ
name_rest n = []

-- what begins a name is one with these bytes after it
pub name_rest_lem : (n : List ℕ) → begins_name n ≡ true → name_ok (n ++ name_rest n) ≡ true
unfolding begins_name name_rest
name_rest_lem n begins = subst (λ z. name_ok z ≡ true) (sym (append-nil n)) begins

-- white space stands in no name
pub name_white : (n m : List ℕ) (b : ℕ) → name_ok (n ++ (b ∷ m)) ≡ true → is_white b ≡ false
name_white n m b ok =
    or_false (or_false (other n m b 32 ok refl) (other n m b 9 ok refl)) (or_false (other n m b 13 ok refl) (other n m b 10 ok refl))

-- nor does `/`
pub name_slash : (n m : List ℕ) (b : ℕ) → name_ok (n ++ (b ∷ m)) ≡ true → eqb b slash ≡ false
name_slash n m b ok = other n m b slash ok refl

-- nor does `>`
pub name_greater : (n m : List ℕ) (b : ℕ) → name_ok (n ++ (b ∷ m)) ≡ true → eqb b greater ≡ false
name_greater n m b ok = other n m b greater ok refl

-- ---- names byte by byte: what the first byte and each further one make of a name

-- what is a name begins one
pub name_begun : (n : List ℕ) → name_ok n ≡ true → begins_name n ≡ true
unfolding begins_name
name_begun n ok = ok

-- a byte that may start a name is one
pub name_first : (b : ℕ) → starts_name b ≡ true → name_ok (b ∷ []) ≡ true
name_first b starts = (tells_name b []).test (omega arith, (starts, λ x among. absurd (Memᴰ.not-nil among)))

-- no name begins with a byte that may not
pub name_not_first : (b : ℕ) → starts_name b ≡ false → begins_name (b ∷ []) ≡ false
unfolding begins_name
name_not_first b e = told-false (tells_name b []) (λ is. false≢true (sym e ∙ is.1.0))

-- a name that is not of the greatest length goes on with a byte that may stand in a name after its first
pub name_more : (n : List ℕ) (b : ℕ) → name_ok n ≡ true → length n < name_bytes → continues_name b ≡ true → name_ok (n ++ (b ∷ [])) ≡ true
name_more [] b ok short goes_on = absurd (false≢true (sym name_not_empty ∙ ok))
name_more (a ∷ n) b ok short goes_on =
    let is = (tells_name a n).fact ok in
    let all-go-on : (x : ℕ) → In x (n ++ (b ∷ [])) → continues_name x ≡ true =
    λ x among. ⊎_elim (λ (m : In x n). is.1.1 x m)
    (λ (m : In x (b ∷ [])). subst (λ z. continues_name z ≡ true) (sym (Memᴰ.eq_of_singleton m)) goes_on)
    (Memᴰ.append_cases n among) in
    (tells_name a (n ++ (b ∷ []))).test (omega (arith, length-append n (b ∷ [])), (is.1.0, all-go-on))

-- no name goes on with another byte
pub name_not_more : (n : List ℕ) (b : ℕ) → continues_name b ≡ false → begins_name (n ++ (b ∷ [])) ≡ false
unfolding begins_name
name_not_more n b e = told-false (tells_itself (name_ok (n ++ (b ∷ [])))) (λ ok. false≢true (sym e ∙ continues n [] b ok))

-- nor does a name of the greatest length go on at all
pub name_full : (n : List ℕ) (b : ℕ) → name_bytes ≤ length n → begins_name (n ++ (b ∷ [])) ≡ false
unfolding begins_name
name_full [] b full = let z : ⊥ = omega arith in absurd z
name_full (a ∷ n) b full =
    told-false (tells_name a (n ++ (b ∷ [])))
    (λ (is : NameIs a (n ++ (b ∷ []))). let z : ⊥ = omega (arith, length-append n (b ∷ []), is.0) in z)
