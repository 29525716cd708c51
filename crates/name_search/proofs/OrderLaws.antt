-- The order of slices is the order of names. Assumes nothing.
use Rattle.std.proofs.Common.{ℕ, List, [], ◌∷◌, refl, arith}
use Rattle.std.proofs.lemmas.Bool.Decides.{nat_tests}
use Rattle.std.specs.Ordering.{nat_cmp}
use Rattle.std.specs.Cmp.Lexicographic.{slice_cmp}
use Rattle.base.specs.Lists.{before}
use Rattle.name_search.specs.Search.{Ordered}

pub ordered_cmp : (a b : List ℕ) → Ordered a b (slice_cmp nat_cmp a b)
unfolding before
ordered_cmp [] [] = refl
ordered_cmp [] (y ∷ ys) = refl
ordered_cmp (x ∷ xs) [] = refl
ordered_cmp (x ∷ xs) (y ∷ ys) = grind (arith, nat_tests, ordered_cmp xs ys)
