-- What the functions that judge one field say of their result: it is the fault that the definitions find, for all names so far that
-- are as many and end in the name that the function was told, and for every file with as many names and items. Assumes nothing.
use Rattle.std.specs.Prelude.{◌≡◌, List, [], ℕ, length}
use Rattle.base.specs.Lists.{last_or}
use Rattle.model.specs.Fields.{File, name_fault}

-- `fault` is what refuses one more name after `count` names that end in the name `last`, empty where there is none
pub record NameJudged (last : List ℕ) (count : ℕ) (name : List ℕ) (fault : ℕ) : Type 0 where
  pub is : (names : List (List ℕ)) → last_or [] names ≡ last → length names ≡ count → name_fault names name ≡ fault

-- `fault` is what refuses one more item, a row by rowFault or a state by stateFault, in a file of so many names and `count` items
pub record ItemJudged (judge : File → List ℕ → ℕ) (names count : ℕ) (item : List ℕ) (fault : ℕ) : Type 0 where
  pub is : (f : File) → length f.names ≡ names → length f.items ≡ count → judge f item ≡ fault
