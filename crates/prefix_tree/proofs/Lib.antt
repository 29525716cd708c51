-- Why the prefix tree that the code grows is that of the definition. Assumes nothing.
pub mod WordLaws
pub mod TreeLaws
pub mod GrowthLaws
pub mod StepLaws
