-- Names: the test of their bytes; their order; and what refuses a name. Assumes nothing.
use mathlib.Core.Path.{◌≡◌, refl, sym, ◌∙◌}
use mathlib.Core.Logic.{◌⊎◌, ⊎_elim}
use mathlib.Core.Bool.{Bool, true, false, and-false, or-false}
use mathlib.Core.List.{List, [], ◌∷◌}
use Prim.Native.Nat.{ℕ, zero, suc, ◌+◌, ◌-◌, ◌≤◌, ◌<◌}
use native.Mathlib.Numerals.{add-one}
use native.Mathlib.Omega.{arith}
use borrow.Author.Tests.{lt-ltb, le-ltb, le-leb, lt-leb, eq-eqb, ne_eqb}
use lib.Dec.{ltb, leb-suc-suc}
use lib.ListN.{length, get_or, take, drop, drop_of_length-le}
use lib.Seq.{take-length, drop-cons}
use Rattle.base.proofs.Tests.{le_or_lt}
use Rattle.std.specs.List.{list_all}
use Rattle.base.specs.Lists.{all, before, last_or}
use Rattle.model.specs.Fields.{starts_name, continues_name, name_ok, above, name_fault}
use Rattle.judging.specs.Judged.{NameJudged}
use Rattle.base.specs.Limits.{name_limit, name_bytes, bad_name, name_order, too_many}

pub all_is : (p : ℕ → Bool) (s : List ℕ) → list_all p s ≡ all p s
unfolding all
all_is p [] = refl
all_is p (x ∷ s) = rw (all_is p s)

pub name_empty : (s : List ℕ) → length s ≡ 0 → name_ok s ≡ false
unfolding name_ok
name_empty [] h = refl
name_empty (b ∷ s) h = let z : ⊥ = omega arith in absurd z

pub name_long : (s : List ℕ) → name_bytes < length s → name_ok s ≡ false
unfolding name_ok
name_long [] h = refl
name_long (b ∷ s) h = rw (lt-leb (length (b ∷ s)) name_bytes h)

pub name_start : (s : List ℕ) → starts_name (get_or s 0 0) ≡ false → name_ok s ≡ false
unfolding name_ok
name_start [] h = refl
name_start (b ∷ s) h = rw (h, and-false)

pub name_rest : (s : List ℕ) → 0 < length s → length s ≤ name_bytes → starts_name (get_or s 0 0) ≡ true
    → all continues_name (take (length s - 1) (drop 1 s)) ≡ name_ok s
unfolding name_ok
name_rest [] g h e = let z : ⊥ = omega arith in absurd z
name_rest (b ∷ s) g h e =
    let q : length (b ∷ s) - 1 ≡ length s = omega arith in
    rw (q, take-length s, le-leb (length (b ∷ s)) name_bytes h, e)

-- what is known of a name by each test
pub ruleset tested = (name_empty, name_long, name_start, name_rest)

-- ---- the order of names, over what is left from an offset on

-- the first difference decides
pub before_differs : (a b : List ℕ) (i : ℕ) → i < length a → i < length b → (get_or a i 0 ≡ get_or b i 0 → ⊥) →
    ltb (get_or a i 0) (get_or b i 0) ≡ before (drop i a) (drop i b)
unfolding before
before_differs a b i h g d =
    rw (drop-cons a i 0 h, drop-cons b i 0 g, before, ne_eqb (get_or a i 0) (get_or b i 0) d, or-false (ltb (get_or a i 0) (get_or b i 0)))

pub before_goes : (a b : List ℕ) (i : ℕ) → i < length a → i < length b → get_or a i 0 ≡ get_or b i 0 →
    before (drop (i + 1) a) (drop (i + 1) b) ≡ before (drop i a) (drop i b)
unfolding before
before_goes a b i h g e =
    rw (add-one, drop-cons a i 0 h, drop-cons b i 0 g, le-ltb (get_or a i 0) (get_or b i 0) (omega arith), eq-eqb (get_or a i 0) (get_or b i 0) e)

-- with no difference a proper beginning comes first
pub before_ends : (a b : List ℕ) (i : ℕ) → i ≤ length a → i ≤ length b → (length a ≤ i) ⊎ (length b ≤ i) →
    ltb (length a) (length b) ≡ before (drop i a) (drop i b)
unfolding before
before_ends a b i h g = ⊎_elim first second
  where
    none : (b : List ℕ) (i : ℕ) → ltb i (length b) ≡ before [] (drop i b)
    none [] zero = refl
    none [] (suc i) = le-ltb (suc i) 0 (omega arith)
    none (y ∷ b) zero = lt-ltb 0 (suc (length b)) (omega arith)
    none (y ∷ b) (suc i) = leb-suc-suc (suc i) (length b) ∙ none b i

    first : length a ≤ i → ltb (length a) (length b) ≡ before (drop i a) (drop i b)
    first s =
        let all : length a ≡ i = omega arith in
        rw (all, drop_of_length-le a s, none b i)

    second : length b ≤ i → ltb (length a) (length b) ≡ before (drop i a) (drop i b)
    second s =
        ⊎_elim (λ (l : length a ≤ i). first l)
        (λ (l : i < length a). rw (drop-cons a i 0 l, drop_of_length-le b s, le-ltb (length a) (length b) (omega arith)))
        (le_or_lt (length a) i)

-- the last name so far, empty where there is none, decides whether an allowed name stands above
pub above-last : (names : List (List ℕ)) (b : List ℕ) → name_ok b ≡ true → above names b ≡ before (last_or [] names) b
unfolding above name_ok before last_or
above-last [] [] e = sym e
above-last [] (y ∷ b) e = refl
above-last (n ∷ names) b e = refl

pub name_bad : (last : List ℕ) (count : ℕ) (name : List ℕ) → name_ok name ≡ false → NameJudged last count name bad_name
unfolding name_fault
name_bad last count name b =
    record { is = λ (names : List (List ℕ)) (e : last_or [] names ≡ last) (g : length names ≡ count). rw b }

pub name_unordered : (last : List ℕ) (count : ℕ) (name : List ℕ) → name_ok name ≡ true → before last name ≡ false
    → NameJudged last count name name_order
unfolding name_fault
name_unordered last count name b o =
    record {
      is = λ (names : List (List ℕ)) (e : last_or [] names ≡ last) (g : length names ≡ count). rw (b, above-last names name b, e, o);
    }

pub name_too_many : (last : List ℕ) (count : ℕ) (name : List ℕ) → name_ok name ≡ true → before last name ≡ true → name_limit ≤ count
    → NameJudged last count name too_many
unfolding name_fault
name_too_many last count name b o h =
    record {
      is = λ (names : List (List ℕ)) (e : last_or [] names ≡ last) (g : length names ≡ count).
          rw (b, above-last names name b, e, o, g, le-leb name_limit count h);
    }

pub name_good : (last : List ℕ) (count : ℕ) (name : List ℕ) → name_ok name ≡ true → before last name ≡ true → count < name_limit
    → NameJudged last count name 0
unfolding name_fault
name_good last count name b o h =
    record {
      is = λ (names : List (List ℕ)) (e : last_or [] names ≡ last) (g : length names ≡ count).
          rw (b, above-last names name b, e, o, g, lt-leb name_limit count h);
    }

-- what is said of a name by each test
pub ruleset judged = (name_bad, name_unordered, name_too_many, name_good)
