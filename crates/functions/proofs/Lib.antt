-- Laws that the functions of this crate rest on. Assumes nothing.
pub mod SeenLaws
pub mod KeyLaws
pub mod RoundLaws
pub mod FLaws
