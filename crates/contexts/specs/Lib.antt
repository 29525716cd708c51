-- What climbing from states with the same last names, the sweeps and the rounds promise. Assumes nothing.
pub mod Ahead
pub mod Climbs
pub mod Rounds
pub mod Sweeps
pub mod Joins
pub mod Distances
