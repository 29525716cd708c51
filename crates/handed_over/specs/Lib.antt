-- What is handed over with build: demand 3, whole, said of the bytes that calls of build wrote; and with builds that have counts,
-- what holds of the counts that they wrote; and with walks, what callers are told. The definitions that it cites are those of the crates
-- `model`, `counts`, `endings` and `results`. Assumes nothing.
pub mod Handed
pub mod Counted
pub mod Walked
