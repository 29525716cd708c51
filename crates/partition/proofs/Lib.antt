-- Laws that the functions of this crate rest on. Assumes nothing.
pub mod FillLaws
pub mod JoinLaws
pub mod ForestLaws
pub mod RootLaws
