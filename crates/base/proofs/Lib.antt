-- Laws that many crates share: of tests, of lists and places in them, of sums, of lists filled from the front, of bits, and of cells.
-- Assumes nothing.
pub mod Tests
pub mod Lists
pub mod Places
pub mod Totals
pub mod Fills
pub mod Bits
pub mod CellLaws
