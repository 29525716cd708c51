-- Why it holds of the rows that calls wrote. Assumes nothing.
pub mod Rows
