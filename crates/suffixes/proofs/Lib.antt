-- Why codes give the classes by last names. Assumes nothing.
pub mod CodeLaws
pub mod AboveLaws
pub mod ClassLaws
