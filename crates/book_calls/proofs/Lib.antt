-- Laws of the calls over books: what a build gives back (BuildLaws), and a listing (ListLaws). Assumes nothing.
pub mod BuildLaws
pub mod ListLaws
