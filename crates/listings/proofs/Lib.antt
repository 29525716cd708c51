-- Laws that the functions' proofs share, of what is left of arcs and states; then how long a listing is, which callers cite. Assumes
-- nothing.
pub mod LineLaws
pub mod Lengths
