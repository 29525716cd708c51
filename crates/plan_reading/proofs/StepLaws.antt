-- Reading at one offset of a plan: the end, a byte that no plan can have there, a byte that is read, and the byte after the name of a tag
-- that begins an element. Assumes nothing.
use mathlib.Core.Path.{◌≡◌, refl, sym, ap, ◌∙◌, subst}
use mathlib.Core.Logic.{⊎_elim}
use mathlib.Core.Bool.{Bool, true, false, ◌||◌, cond, false≢true}
use mathlib.Core.List.{List, [], ◌∷◌}
use Prim.Native.Nat.{ℕ, suc, ◌≤◌, ◌<◌}
use native.Mathlib.Omega.{arith}
use lib.Dec.{eqb}
use lib.ListN.{length, get_or, drop, drop_of_length-le}
use lib.Seq.{drop-cons}
use borrow.Author.Tests.{ne_eqb}
use Rattle.base.specs.Limits.{bad_plan}
use Rattle.base.proofs.Tests.{le_or_lt}
use Rattle.written_plans.specs.Written.{Tag, tag, is_white, slash, greater}
use Rattle.written_plans.specs.Reading.{Place, inside, naming, named, emptied, Next, stop, go, after_name, step, met}
use Rattle.written_plans.specs.Reading.{Reading, refused_at, ended, with_tags, tags_fault, read_plan_from}
use Rattle.plan_reading.specs.Scanning.{part}
use Rattle.plan_reading.specs.Pieces.{reads, follows_name, NameHere}

-- ---- one turn of reading

-- the tags met at a byte have this fault, and without one reading comes to r
abbrev judged : ℕ → ℕ → Reading → Reading
judged fault p r = elim (eqb fault 0) [ true ↦ r | false ↦ refused_at fault p ]

-- what reading comes to at a byte with these tags met and this next place
abbrev onward : (Tag → ℕ) → ℕ → List ℕ → List Tag → Next → Reading
onward judge p s ts next =
    elim next [ stop ↦ refused_at bad_plan p | go t ↦ judged (tags_fault judge ts) p (with_tags ts (read_plan_from judge t (suc p) s)) ]

-- ---- the byte at an offset

module _ (judge : Tag → ℕ) (s : List ℕ) (q : Place) (i : ℕ) where
  -- the end
  pub reads_end : length s ≤ i → reads judge s q i ≡ ended q i
  unfolding read_plan_from
  reads_end h = ap (read_plan_from judge q i) (drop_of_length-le s h)

  -- one turn of reading
  reads-turn : i < length s
      → reads judge s q i ≡ onward judge i (drop (suc i) s) (met q (get_or s i 0) (drop (suc i) s)) (step q (get_or s i 0))
  unfolding read_plan_from
  reads-turn h = ap (read_plan_from judge q i) (drop-cons s i 0 h)

  module _ (h : i < length s) where
    -- no plan goes on with the byte
    pub reads-stop : step q (get_or s i 0) ≡ stop → reads judge s q i ≡ refused_at bad_plan i
    reads-stop e = reads-turn h ∙ ap (onward judge i (drop (suc i) s) (met q (get_or s i 0) (drop (suc i) s))) e

    module _ (t : Place) (ts : List Tag) (e : step q (get_or s i 0) ≡ go t) (m : met q (get_or s i 0) (drop (suc i) s) ≡ ts) where
      -- the byte is read, with these tags met
      reads-judged : (k : ℕ) → tags_fault judge ts ≡ k → reads judge s q i ≡ judged k i (with_tags ts (reads judge s t (suc i)))
      reads-judged k f =
          reads-turn h
          ∙ ap (onward judge i (drop (suc i) s) (met q (get_or s i 0) (drop (suc i) s))) e
          ∙ ap (λ (z : List Tag). onward judge i (drop (suc i) s) z (go t)) m
          ∙ ap (λ (z : ℕ). judged z i (with_tags ts (reads judge s t (suc i)))) f

    -- the byte is read, and no tag is met
    pub reads_go : (t : Place) → step q (get_or s i 0) ≡ go t → met q (get_or s i 0) (drop (suc i) s) ≡ []
        → reads judge s q i ≡ reads judge s t (suc i)
    reads_go t e m = reads-judged t [] e m 0 refl

    -- a tag is met, and not refused
    pub reads-tag : (t : Place) (tg : Tag) → step q (get_or s i 0) ≡ go t → met q (get_or s i 0) (drop (suc i) s) ≡ tg ∷ [] → judge tg ≡ 0
        → reads judge s q i ≡ with_tags (tg ∷ []) (reads judge s t (suc i))
    reads-tag t tg e m f = reads-judged t (tg ∷ []) e m 0 f

    -- a tag is met, and refused
    pub reads-refused : (t : Place) (tg : Tag) (k : ℕ) → step q (get_or s i 0) ≡ go t → met q (get_or s i 0) (drop (suc i) s) ≡ tg ∷ []
        → judge tg ≡ k → 0 < k → reads judge s q i ≡ refused_at k i
    reads-refused t tg k e m f some =
        let apart : eqb k 0 ≡ false = ne_eqb k 0 (λ z. let w : ⊥ = omega arith in w) in
        reads-judged t (tg ∷ []) e m k f ∙ rw (apart, judged)

  -- no plan ends there, or goes on with the byte
  pub reads-bad : ended q i ≡ refused_at bad_plan i → (i < length s → step q (get_or s i 0) ≡ stop)
      → reads judge s q i ≡ refused_at bad_plan i
  reads-bad ends stops =
      ⊎_elim (λ (h : length s ≤ i). reads_end h ∙ ends) (λ (h : i < length s). reads-stop h (stops h)) (le_or_lt (length s) i)

-- ---- the byte after the name of a tag that begins an element

-- it is read
follows_goes : (around : List (List ℕ)) (n : List ℕ) (b : ℕ) → follows_name b ≡ true → (t : Place) × (after_name around n b ≡ go t)
unfolding after_name
follows_goes around n b e = go_on (is_white b) (eqb b slash) (eqb b greater) e
  where
    go_on : (x y z : Bool) → (x || (y || z)) ≡ true
        → (t : Place) × (cond x (go (named around n)) (cond y (go (emptied around)) (cond z (go (inside n around)) stop)) ≡ go t)
    go_on true y z e = (named around n, refl)
    go_on false true z e = (emptied around, refl)
    go_on false false true e = (inside n around, refl)
    go_on false false false e = absurd (false≢true e)

module _ (judge : Tag → ℕ) (s : List ℕ) (from end : ℕ) (around : List (List ℕ)) (here : NameHere s from end) where
  -- the name
  abbrev name : List ℕ
  name = part s from end

  -- the byte after it
  abbrev byte : ℕ
  byte = get_or s end 0

  -- it ends the name
  ends-name : step (naming around name) byte ≡ after_name around name byte
  unfolding step
  ends-name = rw (here.ends, here.allowed)

  -- and the tag is met at it
  meets : met (naming around name) byte (drop (suc end) s) ≡ tag around name (drop end s) ∷ []
  unfolding met
  meets =
      let front : byte ∷ drop (suc end) s ≡ drop end s = sym (drop-cons s end 0 here.within) in
      subst (λ z. met (naming around name) byte (drop (suc end) s) ≡ tag around name z ∷ []) front (rw (here.ends, met))

  -- the tag is not refused: reading goes on as after a name
  pub name-reads : judge (tag around name (drop end s)) ≡ 0
      → reads judge s (naming around name) end ≡ with_tags (tag around name (drop end s) ∷ []) (reads judge s (named around name) end)
  unfolding step met
  name-reads fine =
      let next = follows_goes around name byte here.follows in
      reads-tag judge s (naming around name) end here.within next.0 _ (ends-name ∙ next.1) meets fine
      ∙ ap (with_tags (tag around name (drop end s) ∷ []))
      (sym (reads_go judge s (named around name) end here.within next.0 next.1 refl))

  -- the tag is refused
  pub name-refused : (k : ℕ) → judge (tag around name (drop end s)) ≡ k → 0 < k
      → reads judge s (naming around name) end ≡ refused_at k end
  name-refused k fault some =
      let next = follows_goes around name byte here.follows in
      reads-refused judge s (naming around name) end here.within next.0 _ k (ends-name ∙ next.1) meets fault some
