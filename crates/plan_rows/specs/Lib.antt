-- What the contracts cite beside the definitions of written_plans: the rows in a log, and these measured; what is left of a row, and of
-- rows, that are read. Assumes nothing.
pub mod LoggedRows
pub mod Rows
