-- What the lists of arcs promise, and what joining until closed does, in one go and round by round; and what
-- a search on the lists asks. Assumes nothing.
pub mod Lists
pub mod Keys
pub mod Settling
pub mod Forks
pub mod Kinds
pub mod Searches
