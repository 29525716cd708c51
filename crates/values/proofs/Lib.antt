-- Why the search by buckets finds the first accepting state with a value. Assumes nothing.
pub mod BucketLaws
pub mod EndLaws
