-- What the contracts cite beside the definitions of `results`. Assumes nothing.
pub mod Parts
