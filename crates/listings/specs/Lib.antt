-- What the contracts of listings cite, over the definitions of model and the writings of the crate writing. Assumes nothing.
pub mod Texts
