-- What a walk shall tell, by words alone (docs/SCOPE.md, section 13): which rows begin an admitted row, how a walk ends, which beginning it
-- gives back and which names may come next. No notion of a state is needed to hold it against the request. Assumes nothing.
use Rattle.std.specs.Prelude.{◌≡◌, ◌⊎◌, ◌↔◌, true, false, List, [], ◌∷◌, ◌++◌, ℕ, ◌≤◌, length}
use Rattle.std.specs.Int.Count.{ones}
use Rattle.base.specs.Limits.{admitted, on_the_way, stops}
use Rattle.base.specs.Bits.{bit}
use Rattle.model.specs.Tables.{State, Told, admits}
use Rattle.model.specs.Classes.{Word}

-- a row begins an admitted row: some word after it, of any length, makes it admitted
pub record BeginsAdmitted (states : List State) (row : Word) : Type 0 where
  pub rest : Word
  pub is_admitted : admits states (row ++ rest) ≡ true

-- what is told of a row is what shall be told of it
pub record TellsByWords (states : List State) (row : Word) (tells : Told) : Type 0 where
  -- one of three outcomes: admitted; on the way, not admitted but the row begins an admitted one; stops, which is everything else
  pub one_of_three : (tells.outcome ≡ admitted) ⊎ ((tells.outcome ≡ on_the_way) ⊎ (tells.outcome ≡ stops))
  pub admitted_where : (tells.outcome ≡ admitted) ↔ (admits states row ≡ true)
  pub on_the_way_where : (tells.outcome ≡ on_the_way) ↔ ((admits states row ≡ false) × BeginsAdmitted states row)
  pub stops_where : (tells.outcome ≡ stops) ↔ (BeginsAdmitted states row → ⊥)
  -- the beginning is one of the row's
  pub of_row : (rest : Word) × (tells.beginning ++ rest ≡ row)
  -- if one of the row's beginnings begins an admitted row, it does, and none that does is longer
  pub longest :
      (u rest : Word) → u ++ rest ≡ row → BeginsAdmitted states u →
      BeginsAdmitted states tells.beginning × (length u ≤ length tells.beginning)
  -- empty if no row is admitted
  pub empty_where : ((w : Word) → admits states w ≡ false) → tells.beginning ≡ []
  -- the next names, bit x for name x: exactly those after which the beginning still begins an admitted row
  pub next_where : (x : ℕ) → (bit x tells.next_names ≡ 1) ↔ BeginsAdmitted states (tells.beginning ++ (x ∷ []))
  -- and how many they are
  pub how_many_fact : tells.next_count ≡ ones tells.next_names
