-- The laws behind the counting, in order: a number added to another and cells cleared; the passes summed; the counts file in pieces.
-- Assumes nothing.
pub mod Stores
pub mod PassSums
pub mod CountPieces
