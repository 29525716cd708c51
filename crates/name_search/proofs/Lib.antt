-- Laws that the functions' proofs share: of two names compared byte by byte, of a name by its number, and of the places that a search
-- leaves. Assumes nothing.
pub mod OrderLaws
pub mod SearchLaws
