-- What the inference's contracts cite: the place of an accepted book, the tree and the partition that its rows come to, and what is
-- given back. Assumes nothing.
pub mod Books
pub mod Results
