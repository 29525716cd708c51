-- How often each state and each arc of a book's table is used by the book's rows: the counts, by walking; what is claimed of them; and the
-- same numbers by the states of the prefix tree. Assumes nothing.
pub mod Counts
pub mod Claims
pub mod TreeCounts
pub mod Worked
