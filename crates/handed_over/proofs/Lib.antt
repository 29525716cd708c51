-- Why demand 3 holds of the bytes that calls of build wrote, why the counts that calls wrote are those of the rows,
-- and why calls of walks tell what they shall. Assumes nothing.
pub mod Handed
pub mod Counted
pub mod Walked
