-- A contextual set of words over finitely many names is told by its short words. In order: of many numbers with few different
-- words three have the same one; the words of n names; a word that holds the same k names at three places is in every contextual
-- set that holds the shorter words of its set, and so, by induction over the length, is every word. Assumes nothing.
use mathlib.Core.Path.{◌≡◌, refl, sym, ap, ◌∙◌, subst}
use mathlib.Core.Logic.{◌⊎◌, inl, inr, ⊎_elim}
use mathlib.Core.Bool.{Bool, true, false, not, cond}
use mathlib.Core.List.Memᴰ.{head as here}
use mathlib.Core.List.{List, [], ◌∷◌, ◌++◌, map, flat_map, append_assoc, Memᴰ as In}
use mathlib.Core.List.Memᴰ
use mathlib.Core.List.Memᴰ.{tail as there}
use Prim.Native.Nat.{ℕ, zero, suc, ◌+◌, ◌*◌, ◌≤◌, ◌<◌}
use native.Mathlib.Omega.{arith}
use lib.ListN.{length, take, drop, length-append, length-drop, take-append-drop}
use lib.Seq.{length-take-le, take_all}
use Rattle.base.specs.Lists.{filter_by, numbers_from, same}
use Rattle.model.specs.Classes.{Word, TailsEqual, Contextual}
use Rattle.model.specs.Sources.{ContextualAfter}
use Rattle.base.proofs.Tests.{tells_same, tells_not, tells_leb, decided}
use Rattle.base.proofs.Lists.{in_flat_map, filter_by-in}
use Rattle.base.proofs.Places.{in_numbers_from, numbers_from-in, length-numbers_from}

-- ---- three numbers with one word

-- the numbers ascend
abbrev Up : List ℕ → Type 0
Up [] = Unit {0}
Up (x ∷ xs) = ((y : ℕ) → In y xs → x < y) × Up xs

-- numbers in succession do
up-numbers_from : (n i : ℕ) → Up (numbers_from n i)
unfolding numbers_from
up-numbers_from zero i = tt
up-numbers_from (suc n) i = (λ y m. let r = numbers_from-in n (suc i) y m in omega (arith, r.0), up-numbers_from n (suc i))

-- and those of them that pass a test
up-filter_by : (test : ℕ → Bool) (xs : List ℕ) → Up xs → Up (filter_by test xs)
unfolding filter_by
up-filter_by test [] up = tt
up-filter_by test (x ∷ xs) up = go (test x) (up-filter_by test xs up.1)
  where
    go : (b : Bool) → Up (filter_by test xs) → Up (cond b (x ∷ filter_by test xs) (filter_by test xs))
    go true again = (λ y m. up.0 y (filter_by-in test xs m).0, again)
    go false again = again

-- each number passes the test or does not
filter_by-count :
    (test : ℕ → Bool) (xs : List ℕ) →
    length (filter_by test xs) + length (filter_by (λ (x : ℕ). not (test x)) xs) ≡ length xs
unfolding filter_by
filter_by-count test [] = refl
filter_by-count test (x ∷ xs) = go (test x) (filter_by-count test xs)
  where
    passed : List ℕ
    passed = filter_by test xs

    others : List ℕ
    others = filter_by (λ (y : ℕ). not (test y)) xs

    go :
        (b : Bool) → length passed + length others ≡ length xs →
        length (cond b (x ∷ passed) passed) + length (cond (not b) (x ∷ others) others) ≡ suc (length xs)
    go true again = omega arith
    go false again = omega arith

-- three numbers below n, in ascending order, have one word
record Thrice (f : ℕ → Word) (n : ℕ) : Type 0 where
  p : ℕ
  q : ℕ
  s : ℕ
  first : p < q
  second : q < s
  third : s < n
  one : f p ≡ f q
  two : f p ≡ f s

module _ (f : ℕ → Word) (n : ℕ) where
  -- more than twice as many ascending numbers as words: one word has three of them
  thrice :
      (words : List Word) (ps : List ℕ) → Up ps → ((p : ℕ) → In p ps → (p < n) × In (f p) words) →
      2 * length words < length ps → Thrice f n
  thrice [] [] up among many = let z : ⊥ = omega arith in absurd z
  thrice [] (p ∷ ps) up among many = absurd (Memᴰ.not-nil (among p (here refl)).1)
  thrice (c ∷ words) ps up among many =
      ⊎_elim
      (λ few.
      let all : length (filter_by at_c ps) + length (filter_by (λ (p : ℕ). not (at_c p)) ps) ≡ length ps =
      filter_by-count at_c ps in
      thrice words (filter_by (λ (p : ℕ). not (at_c p)) ps) (up-filter_by (λ (p : ℕ). not (at_c p)) ps up)
      (λ p m. ((among p (filter_by-in (λ (z : ℕ). not (at_c z)) ps m).0).0, other p m)) (omega (arith, few)))
      (λ found. found)
      (pick (filter_by at_c ps) (up-filter_by at_c ps up) (λ p m. of_c p m))
    where
      at_c : ℕ → Bool
      at_c p = same (f p) c

      of_c : (p : ℕ) → In p (filter_by at_c ps) → (p < n) × (f p ≡ c)
      of_c p m = let r = filter_by-in at_c ps m in ((among p r.0).0, (tells_same (f p) c).fact r.1)

      other : (p : ℕ) → In p (filter_by (λ (z : ℕ). not (at_c z)) ps) → In (f p) words
      other p m =
          let r = filter_by-in (λ (z : ℕ). not (at_c z)) ps m in
          ⊎_elim (λ e. absurd ((tells_not (tells_same (f p) c)).fact r.1 e)) (λ k. k)
          (Memᴰ.cases_cons (among p r.0).1)

      pick : (xs : List ℕ) → Up xs → ((p : ℕ) → In p xs → (p < n) × (f p ≡ c)) → (length xs ≤ 2) ⊎ Thrice f n
      pick [] rising is = inl (omega arith)
      pick (p ∷ []) rising is = inl (omega arith)
      pick (p ∷ (q ∷ [])) rising is = inl (omega arith)
      pick (p ∷ (q ∷ (s ∷ xs))) rising is =
          inr (record {
            p = p;
            q = q;
            s = s;
            first = rising.0 q (here refl);
            second = rising.1.0 s (here refl);
            third = (is s (there (there (here refl)))).0;
            one = (is p (here refl)).1 ∙ sym (is q (there (here refl))).1;
            two = (is p (here refl)).1 ∙ sym (is s (there (there (here refl)))).1;
          })

-- ---- finitely many words

-- the words of n names below m
unfoldable words_over : ℕ → ℕ → List Word
words_over m zero = [] ∷ []
words_over m (suc n) = flat_map (λ (x : ℕ). map (λ (w : Word). x ∷ w) (words_over m n)) (numbers_from m 0)

-- those of at most n names
unfoldable pub short_words : ℕ → ℕ → List Word
unfolding words_over
short_words m n = flat_map (words_over m) (numbers_from (suc n) 0)

in_words_over : (m : ℕ) (w : Word) → ((x : ℕ) → In x w → x < m) → In w (words_over m (length w))
unfolding words_over
in_words_over m [] below = here refl
in_words_over m (x ∷ w) below =
    in_flat_map (λ (y : ℕ). map (λ (v : Word). y ∷ v) (words_over m (length w))) (numbers_from m 0)
    (in_numbers_from m 0 x (omega arith) (omega (arith, below x (here refl))))
    (Memᴰ.map (λ (v : Word). x ∷ v) (in_words_over m w (λ y k. below y (there k))))

pub in_short_words : (m n : ℕ) (w : Word) → ((x : ℕ) → In x w → x < m) → length w ≤ n → In w (short_words m n)
unfolding short_words
in_short_words m n w below few =
    in_flat_map (words_over m) (numbers_from (suc n) 0) (in_numbers_from (suc n) 0 (length w) (omega arith) (omega arith))
    (in_words_over m w below)

-- how many names it takes: more than these hold the same k names at three places
unfoldable pub enough : ℕ → ℕ → ℕ
unfolding words_over
enough m k = k + 2 * length (words_over m k)

-- ---- the short words tell the set

-- after all k names the tails are equal, from any h up to k on
pub after-all : (k h : ℕ) (l : Word → Type 0) → h ≤ k → Contextual k h l → ContextualAfter k l
after-all k h l low in-l =
    record {
      equal_tails = λ u1 u2 v w1 w2 size e1 e2.
          subst (λ (a : Word). TailsEqual l (u1 ++ a) (u2 ++ a)) (take_all k v (omega arith))
          (in-l.equal_tails u1 u2 v w1 w2 k size low (omega arith) e1 e2);
    }

-- a word taken apart at place p: what stands before it, k names, what follows
cut_at : (k p : ℕ) (r : Word) → take p r ++ (take k (drop p r) ++ drop k (drop p r)) ≡ r
cut_at k p r = ap (λ (z : Word). take p r ++ z) (take-append-drop k (drop p r)) ∙ take-append-drop p r

module _ (k : ℕ) (l l' : Word → Type 0) (in-l : ContextualAfter k l) (in-l' : ContextualAfter k l') where
  -- r holds the k names a after x, after y and after z, which are longer one by one. The shorter words x a v and y a w, with what
  -- follows at the next place, are in l, so in l'; there they make the tails after x a and y a equal
  three_places :
      (r a x y z u v w : Word) → length a ≡ k → x ++ (a ++ u) ≡ r → y ++ (a ++ v) ≡ r → z ++ (a ++ w) ≡ r →
      length x < length y → length y < length z → l r → ((s : Word) → length s < length r → l s → l' s) → l' r
  three_places r a x y z u v w size at_x at_y at-z xy yz in-r shorter =
      let here-x : l (x ++ (a ++ u)) = subst l (sym at_x) in-r in
      let here-y : l (y ++ (a ++ v)) = subst l (sym at_y) in-r in
      let here-z : l (z ++ (a ++ w)) = subst l (sym at-z) in-r in
      let whole-y : length r ≡ length y + (length a + length v) = sizes r y a v at_y in
      let whole-z : length r ≡ length z + (length a + length w) = sizes r z a w at-z in
      let size-xv : length (x ++ (a ++ v)) ≡ length x + (length a + length v) = sizes (x ++ (a ++ v)) x a v refl in
      let size-yw : length (y ++ (a ++ w)) ≡ length y + (length a + length w) = sizes (y ++ (a ++ w)) y a w refl in
      let in-xv : l' (x ++ (a ++ v)) =
      shorter (x ++ (a ++ v)) (omega arith) (moved l y x a v (in-l.equal_tails y x a v u size here-y here-x) here-y) in
      let in-yw : l' (y ++ (a ++ w)) =
      shorter (y ++ (a ++ w)) (omega arith) (moved l z y a w (in-l.equal_tails z y a w v size here-z here-y) here-z) in
      subst l' at_y (moved l' x y a v (in-l'.equal_tails x y a v w size in-xv in-yw) in-xv)
    where
      sizes : (s b c d : Word) → b ++ (c ++ d) ≡ s → length s ≡ length b + (length c + length d)
      sizes s b c d e =
          ap length (sym e) ∙ length-append b (c ++ d) ∙ ap (λ (n : ℕ). length b + n) (length-append c d)

      -- a tail goes from one to the other
      moved :
          (m : Word → Type 0) (b c d t : Word) → TailsEqual m (b ++ d) (c ++ d) → m (b ++ (d ++ t)) → m (c ++ (d ++ t))
      moved m b c d t same e =
          subst m (append_assoc c d t) ((same.tails t).0 (subst m (sym (append_assoc b d t)) e))

  -- so l' has all words of l over names below m if it has the short ones
  module _
      (m : ℕ) (below : (r : Word) → l r → (x : ℕ) → In x r → x < m)
      (short : (r : Word) → l r → length r ≤ enough m k → l' r) where
    -- a long word, if the shorter ones are there
    long-word : (r : Word) → l r → enough m k < length r → ((s : Word) → length s < length r → l s → l' s) → l' r
    unfolding enough
    long-word r in-r long shorter =
        go (thrice key places (words_over m k) (numbers_from places 0) (up-numbers_from places 0) among many)
      where
        key : ℕ → Word
        key p = take k (drop p r)

        places : ℕ
        places = suc (2 * length (words_over m k))

        key-size : (p : ℕ) → p < places → length (key p) ≡ k
        key-size p h = length-take-le k (drop p r) (omega (arith, length-drop p r))

        among : (p : ℕ) → In p (numbers_from places 0) → (p < places) × In (key p) (words_over m k)
        among p n =
            let low : p < places = omega (arith, (numbers_from-in places 0 p n).1) in (
              low,
              subst (λ (z : ℕ). In (key p) (words_over m z)) (key-size p low)
                  (in_words_over m (key p) (λ x j.
                  below r in-r x
                  (subst (λ (z : Word). In x z) (cut_at k p r)
                  (Memᴰ.append_right (take p r) (Memᴰ.append_left (drop k (drop p r)) j))))),
            )

        many : 2 * length (words_over m k) < length (numbers_from places 0)
        many = omega (arith, length-numbers_from places 0)

        front-size : (p : ℕ) → p < places → length (take p r) ≡ p
        front-size p h = length-take-le p r (omega arith)

        go : Thrice key places → l' r
        go t =
            let q-low : t.q < places = omega arith in
            let p-low : t.p < places = omega arith in
            three_places r (key t.p) (take t.p r) (take t.q r) (take t.s r)
            (drop k (drop t.p r)) (drop k (drop t.q r)) (drop k (drop t.s r))
            (key-size t.p p-low)
            (cut_at k t.p r)
            (ap (λ (b : Word). take t.q r ++ (b ++ drop k (drop t.q r))) t.one ∙ cut_at k t.q r)
            (ap (λ (b : Word). take t.s r ++ (b ++ drop k (drop t.s r))) t.two ∙ cut_at k t.s r)
            (omega (arith, front-size t.p p-low, front-size t.q q-low))
            (omega (arith, front-size t.q q-low, front-size t.s t.third))
            in-r shorter

    -- by induction over the length
    pub told-by-short : (n : ℕ) (r : Word) → length r ≤ n → l r → l' r
    told-by-short zero r h in-r = short r in-r (omega arith)
    told-by-short (suc n) r h in-r =
        ⊎_elim (λ few. short r in-r few)
        (λ many. long-word r in-r (omega (arith, many)) (λ s less in-s. told-by-short n s (omega arith) in-s))
        (decided (tells_leb (length r) (enough m k)))
