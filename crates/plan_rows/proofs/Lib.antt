-- Laws of the log's entries and of the rows in them, from an entry on (LogLaws), of what refuses rows (Faults), of rows measured one
-- after the other (Measuring) and written so (Putting); and how many bytes the fields of rows have (Lengths), where callers cite
-- `rows_length`. Assumes nothing.
pub mod LogLaws
pub mod Faults
pub mod Lengths
pub mod Measuring
pub mod Putting
