-- RowsLaws: what each answer of the calls says. Assumes nothing.
pub mod RowsLaws
