-- What many crates share: the numbers that docs/SCOPE.md fixes, tests and choices over lists, the bits of a
-- number, and what the lent working area holds. Assumes nothing.
pub mod Limits
pub mod Lists
pub mod Bits
pub mod Cells
pub mod Refusals
pub mod Sets
