-- Walks and ends: what a walk shall tell, by words; the same by states, with how far each is from an end; what is claimed of both; and
-- walks worked out by hand. Assumes nothing.
pub mod Words
pub mod Live
pub mod Claims
pub mod Worked
