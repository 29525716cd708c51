-- Reading over runs of bytes: where it stays in its place, over a name, and over as much of an end tag's name as is right. Assumes nothing.
use mathlib.Core.Path.{◌≡◌, refl, sym, ap, ◌∙◌, subst}
use mathlib.Core.Bool.{Bool, true}
use mathlib.Core.List.{List, [], ◌∷◌, ◌++◌}
use Prim.Native.Nat.{ℕ, zero, suc, ◌+◌, ◌-◌, ◌≤◌, ◌<◌}
use native.Mathlib.Omega.{arith}
use lib.ListN.{length, get_or, take, drop}
use lib.Seq.{drop-cons}
use lib.Dec.{eqb}
use borrow.Author.Tests.{eq-eqb}
use Rattle.written_plans.specs.Written.{Tag}
use Rattle.written_plans.specs.Reading.{Place, opened, naming, closing, go, begins_name, step, met}
use Rattle.plan_reading.specs.Scanning.{part, Skipped, NameEnds, Agrees}
use Rattle.plan_reading.specs.Pieces.{reads, ReadsOn}
use Rattle.plan_reading.proofs.ScanLaws.{part_none, part-more}
use Rattle.plan_reading.proofs.StepLaws.{reads_go}

-- ---- parts

-- a part by its first byte
pub part-cons : (s : List ℕ) (a e : ℕ) → a < e → e ≤ length s → part s a e ≡ get_or s a 0 ∷ part s (suc a) e
part-cons s a e h within =
    let more : e - a ≡ suc (e - suc a) = omega arith in
    ap (λ (n : ℕ). take n (drop a s)) more ∙ ap (take (suc (e - suc a))) (drop-cons s a 0 (omega arith))

-- ---- bytes at which reading stays in its place

module _ (test : ℕ → Bool) (s : List ℕ) (q : Place) (stays : (b : ℕ) → test b ≡ true → step q b ≡ go q)
    (none : (b : ℕ) (rest : List ℕ) → met q b rest ≡ []) where
  -- from each of them on
  stays-from : (judge : Tag → ℕ) (e k i : ℕ) → i + k ≡ e → e ≤ length s → ((j : ℕ) → i ≤ j → j < e → test (get_or s j 0) ≡ true)
      → reads judge s q i ≡ reads judge s q e
  stays-from judge e zero i h within passed = let there : i ≡ e = omega arith in ap (reads judge s q) there
  stays-from judge e (suc k) i h within passed =
      reads_go judge s q i (omega arith) q (stays (get_or s i 0) (passed i (omega arith) (omega arith)))
      (none (get_or s i 0) (drop (suc i) s))
      ∙ stays-from judge e k (suc i) (omega arith) within (λ (j : ℕ) (a : suc i ≤ j) (b : j < e). passed j (omega arith) b)

  -- past all of them
  pub skipped_reads : (at e : ℕ) → Skipped test s at e → ReadsOn s q at q e
  skipped_reads at e run judge =
      let before : at ≤ e = run.onward in
      stays-from judge e (e - at) at (omega arith) run.within run.passed

-- ---- a name

module _ (s : List ℕ) (at e : ℕ) (around : List (List ℕ)) (name : NameEnds s at e) where
  -- one byte more, after those that the place has
  name-byte : (i : ℕ) → at < i → i < e → ReadsOn s (naming around (part s at i)) i (naming around (part s at (suc i))) (suc i)
  unfolding step met
  name-byte i h g judge =
      let within : e ≤ length s = name.within in
      let next : suc i ≡ i + 1 = omega arith in
      let longer : part s at (suc i) ≡ part s at i ++ (get_or s i 0 ∷ []) =
      ap (part s at) next ∙ part-more s at i (omega arith) (omega arith) in
      let begins : begins_name (part s at i ++ (get_or s i 0 ∷ [])) ≡ true =
      subst (λ z. begins_name z ≡ true) longer (name.begun (suc i) (omega arith) (omega arith)) in
      reads_go judge s (naming around (part s at i)) i (omega arith) _ (rw (begins)) (rw (begins))
      ∙ ap (λ (n : List ℕ). reads judge s (naming around n) (suc i)) (sym longer)

  -- the rest of it
  name-from : (judge : Tag → ℕ) (k i : ℕ) → at < i → i + k ≡ e
      → reads judge s (naming around (part s at i)) i ≡ reads judge s (naming around (part s at e)) e
  name-from judge zero i h there =
      let same : i ≡ e = omega arith in ap (λ (j : ℕ). reads judge s (naming around (part s at j)) j) same
  name-from judge (suc k) i h there =
      name-byte i h (omega arith) judge ∙ name-from judge k (suc i) (omega arith) (omega arith)

  -- all of it, after `<`
  pub name-read : at < e → ReadsOn s (opened around) at (naming around (part s at e)) e
  unfolding step met
  name-read some judge =
      let within : e ≤ length s = name.within in
      let first : part s at (suc at) ≡ get_or s at 0 ∷ [] =
      part-cons s at (suc at) (omega arith) (omega arith) ∙ ap (λ (n : List ℕ). get_or s at 0 ∷ n) (part_none s (suc at)) in
      let begins : begins_name (get_or s at 0 ∷ []) ≡ true =
      subst (λ z. begins_name z ≡ true) first (name.begun (suc at) (omega arith) (omega arith)) in
      reads_go judge s (opened around) at (omega arith) _ (rw (begins)) refl
      ∙ ap (λ (n : List ℕ). reads judge s (naming around n) (suc at)) (sym first)
      ∙ name-from judge (e - suc at) (suc at) (omega arith) (omega arith)

-- ---- an end tag's name

module _ (s : List ℕ) (from end at stop : ℕ) (around : List (List ℕ)) (within : end ≤ length s) (run : Agrees s from end at stop) where
  -- the place where this many bytes are read
  abbrev due : ℕ → Place
  due i = closing (part s (from + i) end) around

  -- one byte more
  agrees_byte : (i : ℕ) → i < stop - at → ReadsOn s (due i) (at + i) (due (suc i)) (suc (at + i))
  unfolding step met
  agrees_byte i h judge =
      let onward : at ≤ stop = run.onward in
      let inside : stop ≤ length s = run.within in
      let limit : from + (stop - at) ≤ end = run.not_beyond in
      let front : part s (from + i) end ≡ get_or s (from + i) 0 ∷ part s (suc (from + i)) end =
      part-cons s (from + i) end (omega arith) within in
      let alike : eqb (get_or s (at + i) 0) (get_or s (from + i) 0) ≡ true = eq-eqb _ _ (run.passed i h) in
      let next : suc (from + i) ≡ from + suc i = omega arith in
      ap (λ (n : List ℕ). reads judge s (closing n around) (at + i)) front
      ∙ reads_go judge s (closing (get_or s (from + i) 0 ∷ part s (suc (from + i)) end) around) (at + i) (omega arith) _ (rw (alike)) refl
      ∙ ap (λ (n : ℕ). reads judge s (closing (part s n end) around) (suc (at + i))) next

  -- the rest of them
  agrees_from : (judge : Tag → ℕ) (k i : ℕ) → i + k ≡ stop - at → reads judge s (due i) (at + i) ≡ reads judge s (due (stop - at)) stop
  agrees_from judge zero i there =
      let onward : at ≤ stop = run.onward in
      let same : i ≡ stop - at = omega arith in
      let last : at + i ≡ stop = omega arith in
      ap (λ (j : ℕ). reads judge s (due j) (at + i)) same ∙ ap (reads judge s (due (stop - at))) last
  agrees_from judge (suc k) i there =
      let next : suc (at + i) ≡ at + suc i = omega arith in
      agrees_byte i (omega arith) judge ∙ ap (reads judge s (due (suc i))) next ∙ agrees_from judge k (suc i) (omega arith)

  -- past all of them
  pub agrees_reads : ReadsOn s (closing (part s from end) around) at (due (stop - at)) stop
  agrees_reads judge =
      let start : from ≡ from + 0 = omega arith in
      let first : at ≡ at + 0 = omega arith in
      ap (λ (n : ℕ). reads judge s (closing (part s n end) around) at) start
      ∙ ap (reads judge s (due 0)) first
      ∙ agrees_from judge (stop - at) 0 (omega arith)
