-- Why the inference gives back what it says: an accepted book's names, class and rows; the table's bytes in pieces; a partition joined by
-- its class's rule; what is given back. Assumes nothing.
pub mod BookLaws
pub mod FrontLaws
pub mod ClassLaws
pub mod ResultLaws
pub mod StateLaws
pub mod TableLaws
