-- Laws that the functions' proofs share: of places, marks and turns of the reader. Later crates use Parts. Assumes nothing.
pub mod PlaceLaws
pub mod MarkLaws
pub mod TurnLaws
pub mod Parts
