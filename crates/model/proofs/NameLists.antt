-- What an accepted list of names satisfies: its names may come one after the other, they are 1 to 64, and they ascend strictly.
-- Assumes nothing.
use mathlib.Core.Path.{◌≡◌, refl, subst}
use mathlib.Core.Bool.{true}
use mathlib.Core.List.{List, [], ◌∷◌, ◌++◌}
use Prim.Native.Nat.{ℕ, zero, suc, ◌≤◌, ◌<◌}
use native.Mathlib.Omega.{arith}
use lib.ListN.{length, get_or}
use Rattle.base.specs.Limits.{name_limit}
use Rattle.base.specs.Lists.{before, last_or}
use Rattle.model.specs.Fields.{standard, unread, name_list, Ascends, above, read_names, read_with}
use Rattle.model.specs.Calls.{names_of}
use Rattle.base.proofs.Lists.{last_or-snoc}
use Rattle.base.proofs.Tests.{before-trans}
use Rattle.model.proofs.FieldLaws.{fitting}
use Rattle.model.proofs.Turns.{read_keeps}
use Rattle.model.proofs.Books.{NamesOk, BookOk, nothing_read, book_step}
use Rattle.model.proofs.WrittenLengths.{names_few}

-- each name stands above the one before it, the first above d
abbrev AscendFrom : List ℕ → List (List ℕ) → Type 0
AscendFrom d [] = Unit {0}
AscendFrom d (n ∷ names) = (before d n ≡ true) × AscendFrom n names

-- names that may come after others ascend from the last of these on
ascend_from : (d : List ℕ) (names more : List (List ℕ)) → NamesOk (d ∷ names) more → AscendFrom (last_or d names) more
unfolding above
ascend_from d names [] ok = tt
ascend_from d names (n ∷ more) ok = (
  ok.0.in_order,
  subst (λ (z : List ℕ). AscendFrom z more) (last_or-snoc d names n) (ascend_from d (names ++ (n ∷ [])) more ok.1),
)

-- so all of them stand above d
above-all :
    (d : List ℕ) (names : List (List ℕ)) → AscendFrom d names → (j : ℕ) → j < length names → before d (get_or names j []) ≡ true
above-all d [] up j h = let z : ⊥ = omega arith in absurd z
above-all d (n ∷ names) up zero h = up.0
above-all d (n ∷ names) up (suc j) h =
    before-trans d n (get_or names j []) up.0 (above-all n names up.1 j (omega arith))

-- and each above all before it
ascend_all :
    (n : List ℕ) (names : List (List ℕ)) → AscendFrom n names → (i j : ℕ) → i < j → j < length (n ∷ names) →
    before (get_or (n ∷ names) i []) (get_or (n ∷ names) j []) ≡ true
ascend_all n names up i zero h g = let z : ⊥ = omega arith in absurd z
ascend_all n names up zero (suc j) h g = above-all n names up j (omega arith)
ascend_all n [] up (suc i) (suc j) h g = let z : ⊥ = omega arith in absurd z
ascend_all n (m ∷ names) up (suc i) (suc j) h g = ascend_all m names up.1 i j (omega arith) (omega arith)

-- names that may come one by one ascend
pub names_ascend : (names : List (List ℕ)) → NamesOk [] names → Ascends names
unfolding last_or
names_ascend [] ok = record { in_order = λ i j h g. let z : ⊥ = omega arith in absurd z }
names_ascend (n ∷ names) ok = record { in_order = ascend_all n names (ascend_from n [] names ok.1) }

-- the names of an accepted list
pub record NamesRead (names : List (List ℕ)) : Type 0 where
  pub names_ok : NamesOk [] names
  pub some : 1 ≤ length names
  pub few : length names ≤ name_limit
  pub ascending : Ascends names

pub accepted_names : (s : List ℕ) → (read_names s).number ≡ 0 → NamesRead (names_of s)
unfolding read_with
accepted_names s ok =
    let kept =
    read_keeps name_list (λ f rest. BookOk f)
    (λ f mark a b body rest size fit h. book_step name_list refl f mark body (fitting name_list f mark body fit) h)
    (suc (length s)) (unread standard.default_class) s (nothing_read standard.default_class refl) ok in
    let fine = kept.1.names_ok in
    record {
      names_ok = fine;
      some = kept.1.named (omega (arith, kept.0));
      few = omega (arith, names_few [] (names_of s) fine (omega arith));
      ascending = names_ascend (names_of s) fine;
    }
