-- Laws of the calls over tables: what a rewriting and a walk give back (CallLaws); how a walk over an accepted table ends (EndLaws).
-- Assumes nothing.
pub mod CallLaws
pub mod EndLaws
