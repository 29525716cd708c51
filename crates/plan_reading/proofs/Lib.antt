-- Laws that the functions' proofs share. Assumes nothing.
-- ScanLaws: parts of a plan, and runs of bytes as far as they are read
pub mod ScanLaws
-- StepLaws: reading at one offset
pub mod StepLaws
-- RunLaws: reading over runs of bytes
pub mod RunLaws
-- LogLaws: the entries of the log
pub mod LogLaws
-- StackLaws: the open elements, and what a tag is refused for
pub mod StackLaws
-- PieceLaws: what each answer of the functions of pieces says
pub mod PieceLaws
-- TurnLaws: one turn of the reader, and a whole plan
pub mod TurnLaws
