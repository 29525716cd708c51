-- What the search for the first accepting state with a value promises. Assumes nothing.
pub mod Buckets
