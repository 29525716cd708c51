-- The names and states that a listing is made of, by their place in the table. Assumes nothing.
use Rattle.std.specs.Prelude.{List, ℕ}
use Rattle.model.specs.Tables.{State, state_in}
use Rattle.judging.specs.Offsets.{body_at, fields_at}
use Rattle.fields.specs.declared.Place.{Place}
use Rattle.listings.specs.declared.table.Table.{Table}

-- the names of the file at a place
abbrev pub names_at : List ℕ → Place → List (List ℕ)
names_at s p = fields_at s 0 p.names

-- the names of a table as read
abbrev pub names_of : Table → List (List ℕ)
names_of table = names_at table.bytes.now table.place

-- the state whose field stands at an offset
abbrev pub state_at : List ℕ → ℕ → State
state_at s from = state_in (body_at s from)
