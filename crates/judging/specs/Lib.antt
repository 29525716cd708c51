-- What the contracts cite beside the definitions of model: fields by their offsets, classes, and the judging of one field. Assumes nothing.
pub mod Offsets
pub mod Judged
pub mod Classes
