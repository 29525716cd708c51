-- Laws of the public entries' results: what the listing program prints (PrintLaws). Assumes nothing.
pub mod PrintLaws
