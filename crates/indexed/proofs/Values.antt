-- The classes of f by number: values that tell the last j names, and the seen sets kept as numbers, whose bits are the names on
-- the way to a state. Assumes nothing.
use mathlib.Core.Path.{◌≡◌, refl, sym, ap, ◌∙◌, subst}
use mathlib.Core.Logic.{◌⊎◌, inl, inr, ⊎_elim, ◌↔◌}
use mathlib.Core.Bool.{Bool, true, false}
use mathlib.Core.List.Memᴰ.{head as here}
use mathlib.Core.List.{List, [], ◌∷◌, ◌++◌, Memᴰ as In}
use mathlib.Core.List.Memᴰ
use Prim.Native.Nat.{ℕ, zero, suc, ◌-◌, ◌^◌, ◌<◌, ◌≤◌}
use native.Mathlib.Nat.{not-suc-le-zero}
use native.Mathlib.Omega.{arith}
use lib.Bits.{bit_or}
use lib.Dec.{eqb, ltb}
use lib.ListN.{length, get_or, drop, length-drop}
use borrow.Author.Tests.{ltb-true, ltb-false}
use Rattle.model.specs.Fields.{Class}
use Rattle.model.specs.Classes.{Word, f_of, seen_set, last_names}
use Rattle.model.specs.Joinings.{tree_of}
use Rattle.indexed.specs.Trees.{word_at, TreeArrays, SameSuffix}
use Rattle.indexed.specs.Passes.{SuffixAlike, SeenSets}
use Rattle.indexed.proofs.Words.{root_word, word_at-one, suffix_words}
use Rattle.indexed.proofs.Joined.{ClassesOfF}
use Rattle.base.specs.Bits.{bit}
use Rattle.base.proofs.Bits.{bit-zero, bit-of_set, bits_told}
use Rattle.indexed.proofs.Sets.{seen_in, seen_same}

-- ---- last j names

-- words with the same last j names are one, or have j names both
last_told : (j : ℕ) (u w : Word) → last_names j u ≡ last_names j w → (u ≡ w) ⊎ ((j ≤ length u) × (j ≤ length w))
unfolding last_names
last_told j u w e = go (ltb (length u) j) refl
  where
    sizes : length u - (length u - j) ≡ length w - (length w - j)
    sizes = sym (length-drop (length u - j) u) ∙ ap (length {A = ℕ}) e ∙ length-drop (length w - j) w

    whole : (x : Word) → length x < j → drop (length x - j) x ≡ x
    whole x h =
        let none : length x - j ≡ 0 = omega arith in
        ap (λ (i : ℕ). drop i x) none

    go : (b : Bool) → ltb (length u) j ≡ b → (u ≡ w) ⊎ ((j ≤ length u) × (j ≤ length w))
    go true t =
        let short : length u < j = ltb-true (length u) j t in
        let short-w : length w < j = omega (arith, sizes) in
        inl (sym (whole u short) ∙ e ∙ whole w short-w)
    go false t =
        let long : j ≤ length u = ltb-false (length u) j t in
        inr (long, omega (arith, sizes))

-- kinds 2 and 1 of f
f_last : (c : Class) (u : Word) → eqb c.kind 1 ≡ false → f_of c u ≡ last_names c.first u
unfolding f_of
f_last c u kind = rw kind

f_seen : (c : Class) (u : Word) → eqb c.kind 1 ≡ true → f_of c u ≡ seen_set u
unfolding f_of
f_seen c u kind = rw kind

-- last j names: states have one value of f where they have one such value
pub last_classes :
    (c : Class) (rows : List Word) (parents names values : List ℕ) → TreeArrays rows parents names →
    eqb c.kind 1 ≡ false → SuffixAlike (length (tree_of rows)) c.first parents names values → ClassesOfF c rows values
last_classes c rows parents names values tree kind by =
    record { told = λ v w hv hw. (λ e. same_f v w hv hw ((by.alike v w hv hw).0 e), λ e. same-value v w hv hw e) }
  where
    same_f :
        (v w : ℕ) → v < length (tree_of rows) → w < length (tree_of rows) →
        (v ≡ w) ⊎ SameSuffix parents names c.first v w → f_of c (word_at rows v) ≡ f_of c (word_at rows w)
    same_f v w hv hw (inl e) = ap (λ (x : ℕ). f_of c (word_at rows x)) e
    same_f v w hv hw (inr s) =
        f_last c (word_at rows v) kind ∙ ((suffix_words rows parents names tree c.first v w hv hw).0 s).2
        ∙ sym (f_last c (word_at rows w) kind)

    same-value :
        (v w : ℕ) → v < length (tree_of rows) → w < length (tree_of rows) → f_of c (word_at rows v) ≡ f_of c (word_at rows w) →
        get_or values v 0 ≡ get_or values w 0
    same-value v w hv hw e =
        let last-same : last_names c.first (word_at rows v) ≡ last_names c.first (word_at rows w) =
        sym (f_last c (word_at rows v) kind) ∙ e ∙ f_last c (word_at rows w) kind in
        (by.alike v w hv hw).1
        (⊎_elim (λ q. inl (word_at-one rows v w hv hw q))
        (λ q. inr ((suffix_words rows parents names tree c.first v w hv hw).1 (q.0, q.1, last-same)))
        (last_told c.first (word_at rows v) (word_at rows w) last-same))

-- ---- seen sets

-- the bits of a state's set are the names on the way to it; by induction on a number above the state
seen_bits :
    (rows : List Word) (parents names seen : List ℕ) → TreeArrays rows parents names →
    SeenSets (length (tree_of rows)) parents names seen → (k v a : ℕ) → v < k → v < length (tree_of rows) →
    (bit a (get_or seen v 0) ≡ 1) ↔ In a (word_at rows v)
seen_bits rows parents names seen tree sets zero v a low h = absurd (not-suc-le-zero low)
seen_bits rows parents names seen tree sets (suc k) zero a low h = (
  λ e. let z : ⊥ = omega (arith, empty) in absurd z,
  λ m. absurd (Memᴰ.not-nil (subst (λ (w : Word). In a w) (root_word rows) m)),
)
  where
    empty : (bit a (get_or seen 0 0) ≡ 0)
    empty = ap (bit a) sets.root_seen ∙ bit-zero a
seen_bits rows parents names seen tree sets (suc k) (suc v) a low h =
    go (seen_bits rows parents names seen tree sets k (get_or parents (suc v) 0) a
    (omega (arith, tree.parent_before (suc v) (omega arith) h))
    (omega (arith, tree.parent_before (suc v) (omega arith) h)))
  where
    word-is : word_at rows (suc v) ≡ word_at rows (get_or parents (suc v) 0) ++ (get_or names (suc v) 0 ∷ [])
    word-is = tree.word (suc v) (omega arith) h

    set_is : get_or seen (suc v) 0 ≡ bit_or (get_or seen (get_or parents (suc v) 0) 0) (2 ^ get_or names (suc v) 0)
    set_is = sets.arc_seen (suc v) (omega arith) h

    go :
        (bit a (get_or seen (get_or parents (suc v) 0) 0) ≡ 1) ↔ In a (word_at rows (get_or parents (suc v) 0)) →
        (bit a (get_or seen (suc v) 0) ≡ 1) ↔ In a (word_at rows (suc v))
    go rest =
        let p = get_or parents (suc v) 0 in
        let b = get_or names (suc v) 0 in (
          λ e. subst (λ (w : Word). In a w) (sym word-is)
              (⊎_elim (λ one. Memᴰ.append_left (b ∷ []) (rest.0 one)) (λ q. Memᴰ.append_right (word_at rows p) (here q))
              ((bit-of_set a (get_or seen p 0) b).0 (sym (ap (bit a) set_is) ∙ e))),
          λ m. ap (bit a) set_is
              ∙ (bit-of_set a (get_or seen p 0) b).1
              (⊎_elim (λ n. inl (rest.1 n)) (λ n. inr (Memᴰ.eq_of_singleton n))
              (Memᴰ.append_cases (word_at rows p) (subst (λ (w : Word). In a w) word-is m))),
        )

-- seen set: the classes of f are those of the sets as numbers
pub seen_classes :
    (c : Class) (rows : List Word) (parents names seen : List ℕ) → TreeArrays rows parents names →
    eqb c.kind 1 ≡ true → SeenSets (length (tree_of rows)) parents names seen → ClassesOfF c rows seen
seen_classes c rows parents names seen tree kind sets =
    record { told = λ v w hv hw. (same_f v w hv hw, same_set v w hv hw) }
  where
    bits : (v a : ℕ) → v < length (tree_of rows) → (bit a (get_or seen v 0) ≡ 1) ↔ In a (word_at rows v)
    bits v a h = seen_bits rows parents names seen tree sets (suc v) v a (omega arith) h

    same_f :
        (v w : ℕ) → v < length (tree_of rows) → w < length (tree_of rows) → get_or seen v 0 ≡ get_or seen w 0 →
        f_of c (word_at rows v) ≡ f_of c (word_at rows w)
    same_f v w hv hw e =
        f_seen c (word_at rows v) kind
        ∙ seen_same (word_at rows v) (word_at rows w)
        (λ a. (
          λ m. (bits w a hw).0 (sym (ap (bit a) e) ∙ (bits v a hv).1 m),
          λ m. (bits v a hv).0 (ap (bit a) e ∙ (bits w a hw).1 m),
        ))
        ∙ sym (f_seen c (word_at rows w) kind)

    same_set :
        (v w : ℕ) → v < length (tree_of rows) → w < length (tree_of rows) → f_of c (word_at rows v) ≡ f_of c (word_at rows w) →
        get_or seen v 0 ≡ get_or seen w 0
    same_set v w hv hw e =
        let sets_same : seen_set (word_at rows v) ≡ seen_set (word_at rows w) =
        sym (f_seen c (word_at rows v) kind) ∙ e ∙ f_seen c (word_at rows w) kind in
        bits_told (get_or seen v 0) (get_or seen w 0)
        (λ a. (
          λ one. (bits w a hw).1 ((seen_in a (word_at rows w)).0
              (subst (λ (s : List ℕ). In a s) sets_same ((seen_in a (word_at rows v)).1 ((bits v a hv).0 one)))),
          λ one. (bits v a hv).1 ((seen_in a (word_at rows v)).0
              (subst (λ (s : List ℕ). In a s) (sym sets_same) ((seen_in a (word_at rows w)).1 ((bits w a hw).0 one)))),
        ))
