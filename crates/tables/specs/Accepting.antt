-- A table accepted: its refusal, the place where its parts stand, and the lent area in which the offset of each state's field is
-- kept. Assumes nothing.
use Rattle.std.specs.Prelude.{◌≡◌, true, List, ℕ, ◌≤◌, ◌<◌, length, get_or, Result, IfOk}
use Rattle.base.specs.Limits.{state_limit, work_bytes}
use Rattle.base.specs.Refusals.{fault_of}
use Rattle.base.specs.declared.refusals.Refusal.{Refusal}
use Rattle.model.specs.Fields.{read_table}
use Rattle.model.specs.Tables.{State, state_in, is_first_met, empty_state}
use Rattle.model.specs.Calls.{table_of, table_states, table_fault}
use Rattle.judging.specs.Offsets.{body_at, next_at, offset_at}
use Rattle.fields.specs.Places.{file_of, Sound}
use Rattle.fields.specs.declared.Place.{Place}
use Rattle.tables.specs.Arcs.{StateOk}
use Rattle.tables.specs.KeptFields.{field_at}

-- a table whose fields are read: the place stands for it
pub record TableRead (s : List ℕ) (p : Place) : Type 0 where
  pub no_refusal : (read_table s).number ≡ 0
  pub sound : Sound s p
  pub file_is : file_of s p ≡ table_of s

-- the field at an offset lies within the input and is a state's
pub record StateField (s : List ℕ) (at : ℕ) : Type 0 where
  pub fits : next_at s at ≤ length s
  pub ok : StateOk (body_at s at)

-- the bytes are those of state q's field
pub record StateAt (states : List State) (q : ℕ) (body : List ℕ) : Type 0 where
  pub ok : StateOk body
  pub means : state_in body ≡ get_or states q empty_state

-- the lent area is ready for walks over the table: for each state it keeps the offset of its field
pub record Ready (s work : List ℕ) : Type 0 where
  pub room : work_bytes ≤ length work
  pub some_state : 0 < length (table_states s)
  pub few_states : length (table_states s) ≤ state_limit
  pub first_met : is_first_met (table_states s) ≡ true
  pub field : (i : ℕ) → i < length (table_states s) → StateField s (field_at work i)
  pub means : (i : ℕ) → i < length (table_states s) → state_in (body_at s (field_at work i)) ≡ get_or (table_states s) i empty_state

-- an accepted table
pub record TableAt (s work : List ℕ) (p : Place) : Type 0 where
  pub read : TableRead s p
  pub items_are : p.items ≡ length (table_states s)
  pub first_met : is_first_met (table_states s) ≡ true
  pub kept_offsets : (i : ℕ) → i < p.items → field_at work i ≡ offset_at s p.start i
  pub ready : Ready s work

-- a table opened: the number is what the definition gives, of an accepted table the lent area keeps where the fields stand, and it keeps its
-- length
pub record OpenedAs (s before after : List ℕ) (answer : Result Place Refusal) : Type 0 where
  pub number : fault_of answer ≡ table_fault s before
  pub kept : IfOk answer (λ (p : Place). TableAt s after p)
  pub same_length : length after ≡ length before
