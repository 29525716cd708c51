-- Walks worked out by hand over two legal tables, to the byte: one with a state that leads to no end, one that admits nothing. Of each row
-- what the walk alone tells, and what a walk tells. `worked_walks_hold` of proofs/Worked.antt proves them. Byte values of names are
-- hexadecimal, sets of names binary (dinner breakfast from the left). Assumes nothing.
use Rattle.std.specs.Prelude.{◌≡◌, true, false, List, [], ◌∷◌, ◌++◌, map, ℕ}
use Rattle.base.specs.Limits.{admitted, on_the_way, stops}
use Rattle.model.specs.Fields.{read_table}
use Rattle.model.specs.Tables.{State, state, arc, is_first_met, told, plain_walk}
use Rattle.model.specs.Classes.{Word}
use Rattle.model.specs.Calls.{table_states}
use Rattle.endings.specs.Live.{level_of, live_walk}

-- the fields of the names breakfast and dinner, 0 and 1, and of the class, context (2,1), with which both tables begin
abbrev pub names_and_class : List ℕ
names_and_class =
    (0x01 ∷ 0x00 ∷ 0x09 ∷ 0x62 ∷ 0x72 ∷ 0x65 ∷ 0x61 ∷ 0x6B ∷ 0x66 ∷ 0x61 ∷ 0x73 ∷ 0x74 ∷ [])
    ++ (0x01 ∷ 0x00 ∷ 0x06 ∷ 0x64 ∷ 0x69 ∷ 0x6E ∷ 0x6E ∷ 0x65 ∷ 0x72 ∷ [])
    ++ (2 ∷ 0 ∷ 3 ∷ 0 ∷ 2 ∷ 1 ∷ [])

-- breakfast leads from the start to state 1, which accepts; dinner to state 2, from which breakfast leads back to it and nothing further
abbrev pub supplier_table : List ℕ
supplier_table =
    names_and_class
    ++ (4 ∷ 0 ∷ 7 ∷ 0 ∷ 0 ∷ 0 ∷ 1 ∷ 1 ∷ 0 ∷ 2 ∷ [])
    ++ (4 ∷ 0 ∷ 1 ∷ 1 ∷ [])
    ++ (4 ∷ 0 ∷ 4 ∷ 0 ∷ 0 ∷ 0 ∷ 2 ∷ [])

-- one state, which does not accept, with breakfast back to it
abbrev pub empty_table : List ℕ
empty_table =
    names_and_class
    ++ (4 ∷ 0 ∷ 4 ∷ 0 ∷ 0 ∷ 0 ∷ 0 ∷ [])

-- the states of the first and of the second
abbrev pub supplier_states : List State
supplier_states = state false (arc 0 1 ∷ arc 1 2 ∷ []) ∷ state true [] ∷ state false (arc 0 2 ∷ []) ∷ []

abbrev pub empty_states : List State
empty_states = state false (arc 0 0 ∷ []) ∷ []

-- the rows that are walked
abbrev pub walked_rows : List Word
walked_rows =
    []
    ∷ (0 ∷ [])
    ∷ (1 ∷ [])
    ∷ (1 ∷ 0 ∷ [])
    ∷ (0 ∷ 0 ∷ [])
    ∷ []

pub record WorkedWalks : Type 0 where
  -- both tables are legal, and read as said
  pub supplier_reads : (read_table supplier_table).number ≡ 0
  pub supplier_first_met : is_first_met supplier_states ≡ true
  pub supplier_is : table_states supplier_table ≡ supplier_states
  pub empty_reads : (read_table empty_table).number ≡ 0
  pub empty_first_met : is_first_met empty_states ≡ true
  pub empty_is : table_states empty_table ≡ empty_states
  -- from the start of the first there is one name to an end, in state 1 none, from state 2 there is no way; nor is there in the second
  pub supplier_levels : map (level_of supplier_states) (0 ∷ 1 ∷ 2 ∷ []) ≡ 2 ∷ 1 ∷ 0 ∷ []
  pub empty_levels : map (level_of empty_states) (0 ∷ []) ≡ 0 ∷ []
  -- the first table: the walk alone takes dinner for a beginning
  pub supplier_alone :
      map (plain_walk (table_states supplier_table)) walked_rows
      ≡ told on_the_way [] 0b11 2
      ∷ told admitted (0 ∷ []) 0b00 0
      ∷ told on_the_way (1 ∷ []) 0b01 1
      ∷ told on_the_way (1 ∷ 0 ∷ []) 0b01 1
      ∷ told stops (0 ∷ []) 0b00 0
      ∷ []
  -- a walk stops there, and names breakfast alone as what may come first
  pub supplier_told :
      map (live_walk (table_states supplier_table)) walked_rows
      ≡ told on_the_way [] 0b01 1
      ∷ told admitted (0 ∷ []) 0b00 0
      ∷ told stops [] 0b01 1
      ∷ told stops [] 0b01 1
      ∷ told stops (0 ∷ []) 0b00 0
      ∷ []
  -- the second table: the walk alone takes breakfast for a beginning, as often as one likes
  pub empty_alone :
      map (plain_walk (table_states empty_table)) walked_rows
      ≡ told on_the_way [] 0b01 1
      ∷ told on_the_way (0 ∷ []) 0b01 1
      ∷ told stops [] 0b01 1
      ∷ told stops [] 0b01 1
      ∷ told on_the_way (0 ∷ 0 ∷ []) 0b01 1
      ∷ []
  -- a walk stops, the empty row's too, and nothing may come
  pub empty_told :
      map (live_walk (table_states empty_table)) walked_rows
      ≡ told stops [] 0b00 0
      ∷ told stops [] 0b00 0
      ∷ told stops [] 0b00 0
      ∷ told stops [] 0b00 0
      ∷ told stops [] 0b00 0
      ∷ []
