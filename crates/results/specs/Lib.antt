-- What the public entries promise of their result and of each lent byte. The definitions that this cites are those of the crate
-- `model`. Assumes nothing.
pub mod Says
