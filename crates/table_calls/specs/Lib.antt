-- What the contracts of table_calls cite. Assumes nothing.
pub mod Outcomes
