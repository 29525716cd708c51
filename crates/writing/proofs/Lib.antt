-- Laws that callers use: of writings one after the other (WritingLaws), of what is left to be written (BytesLeft), of texts written piece
-- by piece (TextLaws), of the pieces of which model's fields are written (Pieces), and of decimal numbers (Digits). Assumes nothing.
pub mod WritingLaws
pub mod BytesLeft
pub mod TextLaws
pub mod Pieces
pub mod Digits
