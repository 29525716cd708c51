-- What is handed over with a plan's rows: that they are its traces, and that a refusal of the plan is its first fault. The definitions
-- cited are those of the crates `model`, `written_plans` and `results`. Assumes nothing.
pub mod Rows
