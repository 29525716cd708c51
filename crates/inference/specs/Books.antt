-- The place of an accepted book, and what is made of its rows on the way to its table: the prefix tree in arrays, and a partition of its
-- states whose automaton is that of the full joining. Assumes nothing.
use Rattle.std.specs.Prelude.{◌≡◌, List, ℕ, ◌+◌, ◌≤◌, length, Ok}
use Rattle.base.specs.Limits.{state_limit}
use Rattle.model.specs.Fields.{Class, Settings, Allowed, book}
use Rattle.model.specs.Tables.{State}
use Rattle.model.specs.Classes.{Word}
use Rattle.model.specs.Joinings.{tree_of, joined_groups}
use Rattle.model.specs.Quotients.{states_of}
use Rattle.judging.specs.Offsets.{fields_at}
use Rattle.fields.specs.Places.{ReadAs}
use Rattle.fields.specs.declared.Place.{Place}
use Rattle.judging.specs.Classes.{class_in}
use Rattle.indexed.specs.Trees.{TreeArrays, EndsArray}
use Rattle.indexed.specs.Partitions.{Labelled, ForkClosed, Joined}
use Rattle.counting.specs.PassCells.{RowsShort}

-- the place of a book that was read without a fault, with whichever allowed settings
pub record BookAt (s : List ℕ) (p : Place) : Type 0 where
  pub settings : Settings
  pub allowed : Allowed settings
  pub read : ReadAs settings book s (Ok p)

-- the rows of the book, and its class
abbrev pub rows_at : List ℕ → Place → List Word
rows_at s p = fields_at s p.start p.items

abbrev pub class_at : Place → Class
class_at p = class_in p.class

-- how many bytes the names' fields take
abbrev pub names_end : Place → ℕ
names_end p = p.last + p.width

-- the prefix tree of the rows in arrays, of at most 512 states, with how many rows end in each
pub record TreeIn (rows : List Word) (parents names ends : List ℕ) : Type 0 where
  pub few : length (tree_of rows) ≤ state_limit
  pub tree : TreeArrays rows parents names
  pub ends_are : EndsArray rows ends

-- a partition of the tree's states that no fork is open in, and whose automaton is that of the full joining
pub record JoinedBy (c : Class) (rows : List Word) (parents names groups : List ℕ) : Type 0 where
  pub labels : Labelled (length (tree_of rows)) groups
  pub forks : ForkClosed (length (tree_of rows)) parents names groups
  pub states : states_of rows (tree_of rows) groups ≡ states_of rows (tree_of rows) (joined_groups c rows)

-- the states of a partition's automaton
abbrev pub made_of : List Word → List ℕ → List State
made_of rows groups = states_of rows (tree_of rows) groups

-- the tree in arrays with a partition that no fork is open in, of rows that are no longer than a book's
pub record JoinedTree (rows : List Word) (parents names ends groups : List ℕ) : Type 0 where
  pub joined : Joined rows parents names groups
  pub ends_are : EndsArray rows ends
  pub short : RowsShort rows
