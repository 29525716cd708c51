-- What the contracts cite beside the definitions of written_plans: runs of bytes, the pieces of a plan, and its reading. Assumes nothing.
pub mod Scanning
pub mod Pieces
pub mod Turns
