-- The laws behind the quotient, in order: the passes that gather arcs and sum ends; groups met; the states' fields.
-- Assumes nothing.
pub mod ArcPass
pub mod EndsPass
pub mod MetLaws
pub mod StatePieces
