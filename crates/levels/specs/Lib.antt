-- What the contracts of levels cite: arcs sorted by their targets; what is found by them; arcs while they are counted and placed; the queue
-- of states whose level is known. Assumes nothing.
pub mod Sorted
pub mod Found
pub mod Counting
pub mod Queues
