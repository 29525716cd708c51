-- What joining until closed by the rule of f promises, and the joinings. Assumes nothing.
pub mod Rounds
pub mod Results
