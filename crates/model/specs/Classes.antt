-- The classes (docs/SCOPE.md, section 6): (k,h)-contextual sets of words, after Ahonen, and f-distinguishable ones, after Fernau.
-- A word is a row of any length. A set of words is any predicate, finite or not, whether or not an automaton carries it.
-- Assumes nothing.
use Rattle.std.specs.Prelude.{◌≡◌, ◌↔◌, true, false, cond, List, [], ◌∷◌, ◌++◌, ℕ, ◌-◌, ◌≤◌, eqb, ltb, length, take, drop}
use Rattle.base.specs.Limits.{context_kind, seen_set_kind}
use Rattle.model.specs.Fields.{Class}

-- a word: a row of any length, as the numbers of its names
abbrev pub Word : Type 0
Word = List ℕ

-- a set of words (a formal language)
abbrev pub Words : Type 1
Words = Word → Type 0

-- the tails of u in l are those of w: all v with u v in l (equal residuals, the Nerode relation)
pub record TailsEqual (l : Word → Type 0) (u w : Word) : Type 0 where
  pub tails : (v : Word) → l (u ++ v) ↔ l (w ++ v)

-- (k,h)-contextual: for any two words of l, or one word at two places, that hold the same k names in succession, the tails
-- after the i-th of these names are equal, for each i from h to k
pub record Contextual (k h : ℕ) (l : Word → Type 0) : Type 0 where
  pub equal_tails :
      (u1 u2 a w1 w2 : Word) (i : ℕ) → length a ≡ k → h ≤ i → i ≤ k →
      l (u1 ++ (a ++ w1)) → l (u2 ++ (a ++ w2)) →
      TailsEqual l (u1 ++ take i a) (u2 ++ take i a)

-- the name put into a set of names, which is kept as an ascending list
unfoldable pub put_name : ℕ → List ℕ → List ℕ
put_name x [] = x ∷ []
put_name x (y ∷ ys) =
    elim (eqb x y) [
      | true ↦ y ∷ ys
      | false ↦ elim (ltb x y) [ true ↦ x ∷ (y ∷ ys) | false ↦ y ∷ put_name x ys ]
    ]

-- the set of names in a word (Fernau's Ter)
unfoldable pub seen_set : Word → List ℕ
seen_set [] = []
seen_set (x ∷ xs) = put_name x (seen_set xs)

-- the last j names of a word, all of it if it is shorter
unfoldable pub last_names : ℕ → Word → List ℕ
last_names j w = drop (length w - j) w

-- f (Fernau's distinguishing function): the seen set or the last names
unfoldable pub f_of : Class → Word → List ℕ
f_of c w = cond (eqb c.kind seen_set_kind) (seen_set w) (last_names c.first w)

-- f-distinguishable: equal f and a common tail make all tails equal
pub record Distinguishable (c : Class) (l : Word → Type 0) : Type 0 where
  pub equal_tails : (w z v : Word) → f_of c w ≡ f_of c z → l (w ++ v) → l (z ++ v) → TailsEqual l w z

-- l is of the class
abbrev pub InClass : Class → (Word → Type 0) → Type 0
InClass c l = cond (eqb c.kind context_kind) (Contextual c.first c.second l) (Distinguishable c l)
