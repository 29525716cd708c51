-- What the contracts cite beside the definitions of model: the number of hashes, how two names stand to each other, and the offsets of
-- a list's fields. Assumes nothing.
pub mod Search
