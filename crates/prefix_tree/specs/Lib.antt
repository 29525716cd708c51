-- What it is for arrays to hold the prefix tree so far, and what the functions that grow it promise. Assumes nothing.
pub mod Children
pub mod Growth
