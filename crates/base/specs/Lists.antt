-- Tests, choices and sums over lists that the definitions share, and what it is for no element to stand twice. What lib.ListN and mathlib
-- have (length, getD, take, drop, map, flatMap, dropLast, cond) is taken from there. Assumes nothing.
use Rattle.std.specs.Prelude.{Bool, true, false, ◌&&◌, ◌||◌, cond, ℕ, zero, suc, ◌+◌, eqb, ltb}
use mathlib.Core.List.{List, [], ◌∷◌, Memᴰ as In}
use Rattle.base.specs.Limits.{when}

-- some element passes the test
unfoldable pub any : {A : Type 0} → (A → Bool) → List A → Bool
any test [] = false
any test (x ∷ xs) = test x || any test xs

-- some two elements pass the test, in this order, or one of them taken twice
unfoldable pub any_two : {A : Type 0} → (A → A → Bool) → List A → Bool
any_two {A} test xs = any (λ (x : A). any (test x) xs) xs

-- every element passes the test
unfoldable pub all : {A : Type 0} → (A → Bool) → List A → Bool
all test [] = true
all test (x ∷ xs) = test x && all test xs

-- the elements that pass the test, in their order
unfoldable pub filter_by : {A : Type 0} → (A → Bool) → List A → List A
filter_by test [] = []
filter_by test (x ∷ xs) = let rest = filter_by test xs in cond (test x) (x ∷ rest) rest

-- n numbers in succession, the first of them i
unfoldable pub numbers_from : ℕ → ℕ → List ℕ
numbers_from zero i = []
numbers_from (suc n) i = i ∷ numbers_from n (suc i)

-- the number is in the list
unfoldable pub is_in : ℕ → List ℕ → Bool
is_in x ys = any (λ (y : ℕ). eqb x y) ys

-- the place of the first such number, the list's length where there is none
unfoldable pub index_in : ℕ → List ℕ → ℕ
index_in x [] = 0
index_in x (y ∷ ys) = elim (eqb x y) [ true ↦ 0 | false ↦ suc (index_in x ys) ]

-- two lists of numbers are equal
unfoldable pub same : List ℕ → List ℕ → Bool
same [] [] = true
same [] (y ∷ ys) = false
same (x ∷ xs) [] = false
same (x ∷ xs) (y ∷ ys) = eqb x y && same xs ys

-- the row is in the list of rows
unfoldable pub has_row : List ℕ → List (List ℕ) → Bool
has_row x ys = any (λ (y : List ℕ). same x y) ys

-- no element stands twice
abbrev pub Distinct : {A : Type 0} → List A → Type 0
Distinct [] = Unit {0}
Distinct (x ∷ xs) = (In x xs → ⊥) × Distinct xs

-- ascending byte order: the first difference decides, and a proper beginning comes first
unfoldable pub before : List ℕ → List ℕ → Bool
before [] [] = false
before [] (y ∷ ys) = true
before (x ∷ xs) [] = false
before (x ∷ xs) (y ∷ ys) = ltb x y || (eqb x y && before xs ys)

-- the last element, or what is given where there is none
unfoldable pub last_or : {A : Type 0} → A → List A → A
last_or d [] = d
last_or d (x ∷ xs) = last_or x xs

-- the sum of a number for each element
unfoldable pub total : {A : Type 0} → (A → ℕ) → List A → ℕ
total number [] = 0
total number (x ∷ xs) = number x + total number xs

-- how many elements pass the test, one that stands twice counted twice
abbrev pub how_many : {A : Type 0} → (A → Bool) → List A → ℕ
how_many {A} test xs = total (λ (x : A). when (test x) 1) xs

-- how often the row is in the list of rows
abbrev pub copies : List ℕ → List (List ℕ) → ℕ
copies x ys = how_many (same x) ys

-- the sum of a number for each place below n
unfoldable pub sum_below : ℕ → (ℕ → ℕ) → ℕ
sum_below zero number = 0
sum_below (suc n) number = sum_below n number + number n
