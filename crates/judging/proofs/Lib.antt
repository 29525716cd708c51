-- Laws that the functions' proofs share: of fields by their offsets; of the tests and the order of names; of what refuses an item; of the
-- tests of rows and state fields. Later crates use OffsetLaws and StateLaws. Assumes nothing.
pub mod OffsetLaws
pub mod NameLaws
pub mod ItemLaws
pub mod RowLaws
pub mod StateLaws
