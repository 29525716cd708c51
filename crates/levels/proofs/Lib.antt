-- Laws that the functions' proofs share. Assumes nothing.

-- states that rise, and marks
pub mod RisingLaws
pub mod MarkLaws
-- sorting: a state's arcs but those to the same state as the one before; all arcs of a table in one list; where those to a state begin;
-- arcs counted; sources written; sources placed; and a state's arcs by their offsets
pub mod TurnLaws
pub mod TableArcs
pub mod StartLaws
pub mod CountLaws
pub mod SourceLaws
pub mod PlaceLaws
pub mod StateTurns
-- the queue, a queue that grew, and the levels while they are found
pub mod QueueLaws
pub mod LongerLaws
pub mod SpreadLaws
