-- The last names of a state as one number, and the classes and the partition by it. Assumes nothing.
pub mod Codes
pub mod Classes
