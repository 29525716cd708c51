-- One state's field by its bytes: that it passed the reader's test, its arcs as they are read one after another, and the arcs
-- to marked states. Assumes nothing.
use Rattle.std.specs.Prelude.{◌≡◌, Bool, true, not, ℕ, ◌+◌, ◌*◌, ◌<◌, eqb, get_or}
use mathlib.Core.List.{List, [], ◌∷◌, Memᴰ as In}
use Rattle.base.specs.Limits.{name_limit}
use Rattle.base.specs.Lists.{filter_by}
use Rattle.model.specs.Fields.{state_ok}
use Rattle.model.specs.Tables.{Arc, arc}
use Rattle.tables.specs.declared.arcs.Arc as read
use Rattle.tables.specs.declared.arcs.Arcs as reader

-- the bytes are a state field over at most 64 names: its arcs are whole, and their names ascend
abbrev pub StateOk : List ℕ → Type 0
StateOk body = state_ok name_limit body ≡ true

-- an arc as it is read
abbrev pub arc_of : read.Arc → Arc
arc_of a = arc a.name a.to

-- the arcs that stand in bytes, three for each
unfoldable pub arcs_of_bytes : List ℕ → List Arc
arcs_of_bytes [] = []
arcs_of_bytes (name ∷ []) = []
arcs_of_bytes (name ∷ (high ∷ [])) = []
arcs_of_bytes (name ∷ (high ∷ (low ∷ rest))) = arc name (256 * high + low) ∷ arcs_of_bytes rest

-- the arcs that are still to be read
abbrev pub arcs_left : reader.Arcs → List Arc
arcs_left a = arcs_of_bytes a.bytes.now

-- every arc leads to a state with a number below n
pub record TargetsBelow (n : ℕ) (arcs : List Arc) : Type 0 where
  pub below : (a : Arc) → In a arcs → a.to < n

-- a state's mark is set: it is not 0
abbrev pub is_marked : ℕ → Bool
is_marked mark = not (eqb mark 0)

-- the arcs that lead to marked states
unfoldable pub marked_arcs : List ℕ → List Arc → List Arc
marked_arcs marks arcs = filter_by (λ (a : Arc). is_marked (get_or marks a.to 0)) arcs
