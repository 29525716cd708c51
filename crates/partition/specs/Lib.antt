-- What a join of two groups and a forest promise. Assumes nothing.
pub mod Joins
pub mod Forests
