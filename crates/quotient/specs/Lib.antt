-- What the quotient's contracts cite: the arcs of a group as a set and cells, the groups met with their numbers, and what a caller has
-- when all is ready to be written. Assumes nothing.
pub mod Gathered
pub mod Numbered
pub mod Ready
