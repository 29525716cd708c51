-- The prefix tree and its partitions by state number, as a program keeps them: what its passes over arrays promise. The crate
-- `model` says what a table is; proofs/ here says why a partition that these promises describe has the table of the book.
-- Assumes nothing.
pub mod Trees
pub mod Partitions
pub mod Passes
pub mod Chains
pub mod ArcCells
