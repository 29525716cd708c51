-- Parts of a list of bytes, one byte longer each time; and runs as far as they are read, each with its start, one byte more, and its end.
-- Assumes nothing.
use mathlib.Core.Path.{◌≡◌, sym, ap, ◌∙◌, subst}
use mathlib.Core.Logic.{⊎_elim}
use mathlib.Core.Bool.{Bool, true, false}
use mathlib.Core.List.{List, [], ◌∷◌, ◌++◌}
use Prim.Native.Nat.{ℕ, suc, ◌+◌, ◌-◌, ◌≤◌, ◌<◌, min}
use native.Mathlib.Omega.{arith}
use lib.ListN.{length, get_or, take, drop, length-drop}
use lib.Seq.{length-take-le, take-suc, get_or-drop}
use Rattle.base.specs.Limits.{name_bytes}
use Rattle.base.proofs.Tests.{eq_dec}
use Rattle.model.specs.Fields.{name_ok, starts_name, continues_name}
use Rattle.written_plans.specs.Reading.{begins_name}
use Rattle.written_plans.proofs.NameRule.{name_begun, name_first, name_not_first, name_more, name_not_more, name_full}
use Rattle.plan_reading.specs.Scanning.{part, NameEnds, Agrees}

-- ---- parts

-- a part of no bytes
pub part_none : (s : List ℕ) (a : ℕ) → part s a a ≡ []
part_none s a = let none : a - a ≡ 0 = omega arith in ap (λ (n : ℕ). take n (drop a s)) none

-- a part and the byte after it
pub part-more : (s : List ℕ) (a e : ℕ) → a ≤ e → e < length s → part s a (e + 1) ≡ part s a e ++ (get_or s e 0 ∷ [])
part-more s a e h g =
    let longer : e + 1 - a ≡ suc (e - a) = omega arith in
    let within : e - a < length (drop a s) = omega (arith, length-drop a s) in
    let there : a + (e - a) ≡ e = omega arith in
    ap (λ (n : ℕ). take n (drop a s)) longer
    ∙ take-suc (drop a s) (e - a) 0 within
    ∙ ap (λ (b : ℕ). part s a e ++ (b ∷ [])) (get_or-drop a s (e - a) 0 ∙ ap (λ (n : ℕ). get_or s n 0) there)

-- how many bytes a part has
pub length_part : (s : List ℕ) (a e : ℕ) → e ≤ length s → length (part s a e) ≡ e - a
length_part s a e h = length-take-le (e - a) (drop a s) (omega (arith, length-drop a s))

-- ---- bytes that pass a test

-- all bytes from `at` to `i` pass the test
pub record Passing (test : ℕ → Bool) (s : List ℕ) (at i : ℕ) : Type 0 where
  pub onward : at ≤ i
  pub within : i ≤ length s
  pub passed : (k : ℕ) → at ≤ k → k < i → test (get_or s k 0) ≡ true

-- ---- a name

-- the bytes from `at` to `i` are a name
pub record Naming (s : List ℕ) (at i : ℕ) : Type 0 where
  pub some : at < i
  pub within : i ≤ length s
  pub begun : (k : ℕ) → at < k → k ≤ i → begins_name (part s at k) ≡ true
  pub whole : name_ok (part s at i) ≡ true

module _ (s : List ℕ) (at : ℕ) where
  -- the first byte starts a name
  pub naming_start : at < length s → starts_name (get_or s at 0) ≡ true → Naming s at (at + 1)
  naming_start h e =
      let first : part s at (at + 1) ≡ get_or s at 0 ∷ [] =
      part-more s at at (omega arith) h ∙ ap (λ (n : List ℕ). n ++ (get_or s at 0 ∷ [])) (part_none s at) in
      let name : name_ok (part s at (at + 1)) ≡ true =
      subst (λ (n : List ℕ). name_ok n ≡ true) (sym first) (name_first (get_or s at 0) e) in
      record {
        some = omega arith;
        within = omega arith;
        begun = λ (k : ℕ) (g : at < k) (l : k ≤ at + 1).
            let one : at + 1 ≡ k = omega arith in
            subst (λ (n : ℕ). begins_name (part s at n) ≡ true) one (name_begun (part s at (at + 1)) name);
        whole = name;
      }

  -- one byte more goes on with it
  pub naming_more :
      (i : ℕ) → Naming s at i → i < length s → i - at < name_bytes → continues_name (get_or s i 0) ≡ true → Naming s at (i + 1)
  naming_more i run h short e =
      let before : at < i = run.some in
      let few : length (part s at i) < name_bytes = omega (arith, length_part s at i run.within) in
      let name : name_ok (part s at (i + 1)) ≡ true =
      subst (λ (n : List ℕ). name_ok n ≡ true) (sym (part-more s at i (omega arith) h))
      (name_more (part s at i) (get_or s i 0) run.whole few e) in
      record {
        some = omega arith;
        within = omega arith;
        begun = λ (k : ℕ) (g : at < k) (l : k ≤ i + 1).
            ⊎_elim (λ (p : k ≡ i + 1). subst (λ (n : ℕ). begins_name (part s at n) ≡ true) (sym p) (name_begun (part s at (i + 1)) name))
            (λ (p : k ≡ i + 1 → ⊥). run.begun k g (omega arith))
            (eq_dec k (i + 1));
        whole = name;
      }

  -- no name begins with these bytes and the one at `i`, if there is one
  naming_end :
      (i : ℕ) → Naming s at i → (i < length s → begins_name (part s at i ++ (get_or s i 0 ∷ [])) ≡ false) → NameEnds s at i
  naming_end i run stops =
      let before : at < i = run.some in
      record {
        onward = omega arith;
        within = run.within;
        begun = run.begun;
        whole = λ (g : at < i). run.whole;
        stopped = stops;
      }

  -- no byte follows, or the name has the greatest length
  pub naming_longest : (i : ℕ) → Naming s at i → i ≡ at + min name_bytes (length s - at) → NameEnds s at i
  naming_longest i run all =
      naming_end i run
      (λ (g : i < length s).
      name_full (part s at i) (get_or s i 0) (omega (arith, length_part s at i run.within)))

  -- the byte that follows stands in no name
  pub naming_stop : (i : ℕ) → Naming s at i → continues_name (get_or s i 0) ≡ false → NameEnds s at i
  naming_stop i run e = naming_end i run (λ (g : i < length s). name_not_more (part s at i) (get_or s i 0) e)

  -- no name begins here
  pub naming_none : at ≤ length s → (at < length s → starts_name (get_or s at 0) ≡ false) → NameEnds s at at
  naming_none h stops =
      record {
        onward = omega arith;
        within = h;
        begun = λ (k : ℕ) (g : at < k) (l : k ≤ at). let z : ⊥ = omega arith in absurd z;
        whole = λ (g : at < at). let z : ⊥ = omega arith in absurd z;
        stopped = λ (g : at < length s).
            subst (λ (n : List ℕ). begins_name (n ++ (get_or s at 0 ∷ [])) ≡ false) (sym (part_none s at))
            (name_not_first (get_or s at 0) (stops g));
      }

-- ---- bytes that agree

-- so many bytes agree; they are all of these, or the next, if there is one, does not agree
pub agrees_for :
    (s : List ℕ) (from end at n : ℕ) → at + n ≤ length s → from + n ≤ end
    → ((k : ℕ) → k < n → get_or s (at + k) 0 ≡ get_or s (from + k) 0)
    → (from + n < end → at + n < length s → get_or s (at + n) 0 ≡ get_or s (from + n) 0 → ⊥) → Agrees s from end at (at + n)
agrees_for s from end at n within not_beyond passed stops =
    let same : at + n - at ≡ n = omega arith in
    record {
      onward = omega arith;
      within = within;
      not_beyond = omega arith;
      passed = λ (k : ℕ) (h : k < at + n - at). passed k (omega arith);
      stopped = λ (h : from + (at + n - at) < end) (g : at + n < length s)
          (e : get_or s (at + n) 0 ≡ get_or s (from + (at + n - at)) 0).
          stops (omega arith) g (e ∙ ap (λ (i : ℕ). get_or s (from + i) 0) same);
    }

-- a name byte by byte
pub ruleset namings = (naming_none, naming_start, naming_more, naming_longest, naming_stop)
