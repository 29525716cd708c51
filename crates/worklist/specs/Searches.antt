-- A search on lists of arcs: how a list is followed, and what two arcs are asked. Assumes nothing.
use Rattle.std.specs.Prelude.{◌≡◌, List, ℕ, suc, ◌<◌, ◌≤◌, get_or}
use Rattle.indexed.specs.Partitions.{Share}

-- where a list goes on from arc u, plus one: after it where its name is no higher than another, else at it
pub record Past (names links : List ℕ) (u name at : ℕ) : Type 0 where
  pub passed : get_or names u 0 ≤ name → at ≡ get_or links u 0
  pub stays : name < get_or names u 0 → at ≡ suc u

-- two arcs have one name, and j names in succession can be walked after both
pub record ShareAfter (n : ℕ) (parents names groups : List ℕ) (j u w : ℕ) : Type 0 where
  pub alike : get_or names u 0 ≡ get_or names w 0
  pub share : Share n parents names groups j u w
